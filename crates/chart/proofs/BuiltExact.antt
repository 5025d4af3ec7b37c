-- From the code's end to the promise: tables of zeros are the start of the model's fold, and the model's result is a chart exactly when
-- the derivable items fit the room.
use Prim.Native.Nat.{ℕ, ◌+◌, ◌*◌, ◌≤◌}
use native.Mathlib.Omega.{arith}
use native.Mathlib.Nat.{mul-le-mul}
use mathlib.Core.Path.{◌≡◌, sym, ◌∙◌, ap, subst}
use mathlib.Core.Bool.{Bool}
use mathlib.Core.List.{List, ◌++◌}
use Rattle.std.specs.Prelude.{Option, Some, None}
use lib.ListN.{length, take, drop, replicate}
use lib.Seq.{take_at, drop_at}
use Rattle.grammar.specs.Rewriting.{Rule}
use Rattle.grammar.specs.Input.{Holds, Below}
use Rattle.layout.specs.Card.{max_nonterminals, card_number, nonterminal_count, grammar_of}
use Rattle.layout.specs.Line.{most_words}
use Rattle.layout.specs.Records.{chart_bytes, capacity}
use Rattle.layout.proofs.CardLaws.{card-one-sided}
use Rattle.places.specs.Places.{word_test}
use Rattle.records.specs.Room.{chart_in, numbered_chart, numbers_cleared}
use Rattle.records.specs.Cells.{spans}
use Rattle.records.proofs.RoomLaws.{chart-length, numbered-chart-length}
use Rattle.records.proofs.NumbersCleared.{cleared-chart}
use Rattle.records.proofs.TableLaws.{spans-more}
use Rattle.chart_model.specs.Build.{build}
use Rattle.chart_model.proofs.Exact.{build-chart, build-room, build-none}
use Rattle.chart_model.proofs.FirstSteps.{build-first}
use Rattle.sets.specs.Places.{set_count, OnlyClasses}
use Rattle.sets.specs.Classes.{Classified}
use Rattle.sets.proofs.SortedLaws.{sorted_none}
use Rattle.chart.specs.Fill.{Between, Closed}
use Rattle.chart.specs.Built.{LongEnough, TablesLent, ClosedIn, BuiltRoom}
use Rattle.chart.proofs.FillLaws.{start_between}
use Rattle.chart.proofs.CardFits.{lefts-below}
use Rattle.chart.proofs.BuiltLaws.{too_many, fitting}

-- Tables of zeros, once the sets by the card are noted, are where the model starts.
pub tables_start : {g : List Rule} {n N room : ℕ} {chart marks cells zeros sets : List ℕ} → n ≤ most_words → N ≤ max_nonterminals
    → room ≡ capacity (length chart) → TablesLent n N marks cells zeros → Classified g sets → OnlyClasses zeros sets
    → Between g n N room chart marks cells sets 0
tables_start {g} {n} {zeros = zeros} {sets} words names own t classes only =
    start_between words names (omega arith) (omega arith) t.long.marks_there t.long.cells_there
    t.marks_zero t.cells_zero classes
    (sorted_none g n zeros sets t.long.sets_there t.sets_zero only)

-- What is long enough for m words and M nonterminals is so for fewer.
pub long-enough : {n N : ℕ} (m M : ℕ) → n ≤ m → N ≤ M → LongEnough n N (spans m * M + 1) (4 * (spans m * M)) (set_count m)
long-enough {n} m M words names =
    let more = spans-more n m words in
    let few = mul-le-mul more names in
    record { marks_there = omega (arith, few); cells_there = omega (arith, few); sets_there = omega (arith, words, more) }

pub closed-as : {N N' : ℕ} {after : Option ℕ} {old new : List ℕ} (room n : ℕ) (g : List Rule) (at : ℕ → ℕ → Bool) → N ≡ N'
    → Closed n N room (build room g at N n) old new after → Closed n N' room (build room g at N' n) old new after
closed-as {after = after} {old = old} {new = new} room n g at e c =
    subst (λ (k : ℕ). Closed n k room (build room g at k n) old new after) e c

-- A room that holds a chart with numbers holds the finished chart once they are cleared.
finished : (n N count : ℕ) (old new : List ℕ) → new ≡ numbered_chart n N (chart_in new count) ++ drop (16 * count) old
    → numbers_cleared count new ≡ chart_bytes (chart_in new count) ++ drop (16 * count) old
finished n N count old new written =
    let c = chart_in new count in
    let rest = drop (16 * count) old in
    let long : length (numbered_chart n N c) ≡ 16 * count = omega (arith, numbered-chart-length n N c, chart-length new count) in
    let exact : take (16 * count) new ≡ numbered_chart n N c =
    ap (take (16 * count)) written ∙ take_at (numbered_chart n N c) rest (16 * count) long in
    cleared-chart n N new count exact
    ∙ ap (λ (r : List ℕ). chart_bytes c ++ r) (ap (drop (16 * count)) written ∙ drop_at (numbered_chart n N c) rest (16 * count) long)

-- What the two answers say of the derivable items.
module _ {card old new cleared : List ℕ} {n : ℕ} (places : List ℕ) (accepted : card_number card ≡ 0)
    (below : Below (Holds (word_test places)) n) where
  pub built-over : ClosedIn card places n old new None → cleared ≡ replicate (length new) 0 → BuiltRoom card (word_test places) n None old cleared
  built-over c e =
      let at = word_test places in
      let more = build-none (capacity (length old)) (nonterminal_count card) n (grammar_of card) at (card-one-sided card) below
      (lefts-below card accepted) (sym c.model) in
      too_many card at n more (e ∙ ap (λ (k : ℕ). replicate k 0) c.same_room)

  pub built-within : {count : ℕ} → ClosedIn card places n old new (Some count) → cleared ≡ numbers_cleared count new
      → BuiltRoom card (word_test places) n (Some count) old cleared
  built-within {count} c e =
      let at = word_test places in
      let room = capacity (length old) in
      let N = nonterminal_count card in
      let one = card-one-sided card in
      let lefts = lefts-below card accepted in
      let size = chart-length new count in
      fitting card at n (chart_in new count) below
      (build-chart room N n (grammar_of card) at one below lefts (sym c.model))
      (build-first room N n (grammar_of card) at one below lefts (sym c.model)) (sym size)
      (build-room room N n (grammar_of card) at one below lefts (sym c.model))
      (e ∙ rw size (finished n N count old new c.charted.1))
