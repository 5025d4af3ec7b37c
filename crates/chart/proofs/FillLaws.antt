-- What the room and the table of cells say of a chart that one cell was added to: its marks are gone, its range is known, and what the
-- table says of the other cells still holds, for a cell adds records of its own alone.
use Prim.Native.Nat.{ℕ, zero, suc, ◌+◌, ◌-◌, ◌*◌, ◌/◌, ◌%◌, ◌≤◌, ◌<◌}
use native.Mathlib.Nat.{le_refl}
use native.Mathlib.Decide.{ℕ_discrete, dec_le}
use native.Mathlib.Omega.{arith}
use mathlib.Core.Path.{◌≡◌, refl, sym, ◌∙◌, ap, subst, subst₃}
use mathlib.Core.Logic.{◌⊎◌, inl, inr}
use mathlib.Core.Bool.{Bool, true, false, cond}
use mathlib.Core.List.{List, [], map}
use mathlib.Core.Option.{Option, none, some}
use Rattle.std.specs.Prelude.{Option as Answer, Some}
use lib.ListN.{length, take, get_or, replicate}
use borrow.Author.Tests.{le-leb, lt-leb}
use Rattle.grammar.specs.Rewriting.{Rule}
use Rattle.grammar.specs.Items.{Foot}
use Rattle.grammar.specs.ItemList.{item, is_bare, among}
use Rattle.grammar.specs.Chart.{Record, item_of}
use Rattle.grammar.proofs.ItemTests.{among-true}
use Rattle.layout.specs.Bytes.{counted}
use Rattle.layout.specs.Card.{max_nonterminals}
use Rattle.layout.specs.Line.{most_words}
use Rattle.chart_model.specs.Build.{places, bare_places}
use Rattle.chart_model.proofs.FillModel.{IsCell, Grown, grown-length, places-other, bares-other, bare_at, places-own, bares-own, foot-place, fresh-among, not_so}
use Rattle.bits.specs.Bits.{holds_bit}
use Rattle.bits.proofs.BitLaws.{bit_of-zero, zero-at}
use Rattle.records.specs.declared.cells.Range.{Range}
use Rattle.records.specs.declared.record.OpenCell.{OpenCell}
use Rattle.records.specs.Room.{chart_in, state_of, foot_there, FootFits, foot_number, numbered_chart, number_there, mark_of, Marked, Working}
use Rattle.records.specs.Cells.{spans, cell_at, number_of, numbered_by, range_in, with_range, bare_in, SpanFits, Indexed}
use Rattle.records.specs.Filling.{Filling}
use Rattle.records.proofs.RoomLaws.{chart-length, foot-at, number-there}
use Rattle.records.proofs.TableLaws.{cell_below, cell_same}
use Rattle.records.proofs.CellsLaws.{number-back, range_length, range_same, range_other}
use Rattle.records.proofs.CoverLaws.{start-covering, covered_start}
use Rattle.sets.specs.Classes.{Classified}
use Rattle.sets.specs.Spans.{Sorted}
use Rattle.chart.specs.Cell.{bare_from, Finished}
use Rattle.chart.specs.Fill.{Between, Fillable}

-- A cell without records may be begun.
pub fresh-working : {g : List Rule} {n N room count : ℕ} {chart marks cells sets : List ℕ} (A i j : ℕ)
    → Between g n N room chart marks cells sets count → places (chart_in chart count) A i j ≡ []
    → Working n N room A i j chart marks count
fresh-working {count = count} {chart = chart} A i j b empty =
    record {
      words_fit = b.words_fit;
      symbols_fit = b.symbols_fit;
      room_small = b.room_small;
      room_there = b.room_there;
      marks_there = b.marks_there;
      count_fits = b.count_fits;
      exact = b.exact;
      marked = λ φ f. b.clear φ f ∙ sym (fresh-among (chart_in chart count) A i j φ empty);
      feet = b.feet;
    }

-- So a cell that may be filled can be; and its numbers stand in the table of cells.
module _ {card places chart marks cells sets : List ℕ} {cell : OpenCell} {set : ℕ} (f : Fillable card places cell chart marks cells sets set) where
  pub fill-begin : Filling cell chart marks cells cell.base
  fill-begin =
      record {
        works = fresh-working cell.left cell.from cell.to f.between f.fresh;
        begun = le_refl cell.base;
        inside = f.inside;
        numbered = f.numbered;
        indexed = f.between.indexed;
        covering = start-covering cell.left cell.from cell.to f.between.covered;
      }

  pub fill-there : (after : List ℕ) → length after ≡ length cells → 4 * cell.number + 4 ≤ length after
  fill-there after e =
      let (a, b, c) = f.inside in
      omega (
        arith,
        e,
        f.numbered,
        f.between.indexed.long,
        cell_below cell.words cell.symbols cell.left cell.from cell.to a b c,
      )

-- The model's state at a count within the room, and past it.
pub state-some : {s : Option (List Record)} (room after : ℕ) (new : List ℕ) → state_of room new after ≡ s → after ≤ room
    → s ≡ some (chart_in new after)
state-some room after new e l = sym e ∙ rw le-leb

pub state-over : {s : Option (List Record)} (room after : ℕ) (new : List ℕ) → state_of room new after ≡ s → room < after → s ≡ none
state-over room after new e l = sym e ∙ rw lt-leb

-- The last bare record's place, read from the bytes; and it is within what was counted.
pub bare_from-at : (chart : List ℕ) (count base m : ℕ) → base + m ≤ count
    → number_of (bare_from chart base m) ≡ bare_at (chart_in chart count) base m
bare_from-at chart count base zero l = refl
bare_from-at chart count base (suc m) l =
    rw (foot-at chart count (base + m) (omega arith))
    (one (is_bare (foot_there chart (base + m))) (bare_from chart base m) (bare_from-at chart count base m (omega arith)))
  where
    one : (t : Bool) (o : Answer ℕ) {k : ℕ} → number_of o ≡ k → number_of (cond t (Some (base + m)) o) ≡ cond t (suc (base + m)) k
    one true o e = refl
    one false o e = e

pub bare_from-le : (chart : List ℕ) (base m : ℕ) → number_of (bare_from chart base m) ≤ base + m
bare_from-le chart base zero = omega arith
bare_from-le chart base (suc m) = one (is_bare (foot_there chart (base + m))) (bare_from-le chart base m)
  where
    one : (t : Bool) → number_of (bare_from chart base m) ≤ base + m
        → number_of (cond t (Some (base + m)) (bare_from chart base m)) ≤ base + suc m
    one true h = omega arith
    one false h = omega arith

-- The bare item of a cell that was without records, by the last bare record that was added.
pub own-bares : {A i j : ℕ} {c b : List Record} (m : ℕ) (o : Answer ℕ) → places c A i j ≡ [] → Grown (IsCell A i j) c b
    → length b ≡ length c + m → number_of o ≡ bare_at b (length c) m → bare_places b A i j ≡ bare_in o
own-bares {A} {i} {j} m o fresh grown size last =
    bares-own A i j (λ k. bare_in (numbered_by k)) refl (λ x. refl) fresh grown m size
    ∙ ap bare_in (ap numbered_by (sym last) ∙ number-back o)

-- The table of cells for a chart that one cell was added to, once its range is entered.
abbrev Says : List Record → ℕ → ℕ → ℕ → Range → Type 0
Says b A i j r = (places b A i j ≡ counted r.from (r.to - r.from)) × (bare_places b A i j ≡ bare_in r.bare)

module _ (n N A i j : ℕ) (inside : SpanFits n N A i j) {c b : List Record} (fresh : places c A i j ≡ []) (grown : Grown (IsCell A i j) c b)
    (cells : List ℕ) (r : Range) (there : 4 * cell_at N A i j + 4 ≤ length cells) (from : r.from ≡ length c) (to : r.to ≡ length b)
    (last : number_of r.bare ≡ bare_at b (length c) (length b - length c)) (small : number_of r.bare ≤ length b) (old : Indexed n N c cells) where
  abbrev new : List ℕ
  new = with_range cells (cell_at N A i j) r

  says_here : Says b A i j (range_in new (cell_at N A i j))
  says_here =
      let long = grown-length grown in
      let size : length b ≡ length c + (length b - length c) = omega arith in
      subst (Says b A i j) (sym (range_same cells (cell_at N A i j) r there)) (
        places-own A i j fresh grown (length b - length c) size ∙ rw (from, to),
        own-bares (length b - length c) r.bare fresh grown size last,
      )

  says : (A' i' j' : ℕ) → A' < N → i' < j' → j' ≤ n → Says b A' i' j' (range_in new (cell_at N A' i' j'))
  says A' i' j' x y z = elim (ℕ_discrete (cell_at N A i j) (cell_at N A' i' j')) [
    | yes e ↦ let (p, q, s) = cell_same n N A i j A' i' j' inside.0 inside.1 inside.2 x y z e in
        subst₃ (λ (A' i' j' : ℕ). Says b A' i' j' (range_in new (cell_at N A' i' j'))) p q s says_here
    | no d ↦ let out : IsCell A i j A' i' j' → ⊥ = λ (p, q, s). d (rw (p, q, s)) in
        subst (Says b A' i' j') (sym (range_other cells (cell_at N A i j) r (cell_at N A' i' j') (λ e. d (sym e))))
        (places-other A' i' j' out grown ∙ old.ranges A' i' j' x y z, bares-other A' i' j' out grown ∙ old.bares A' i' j' x y z)
  ]

  within : (at : ℕ) → ((range_in new at).to ≤ length b) × (number_of (range_in new at).bare ≤ length b)
  within at = elim (ℕ_discrete at (cell_at N A i j)) [
    | yes e ↦ subst (λ (x : ℕ). ((range_in new x).to ≤ length b) × (number_of (range_in new x).bare ≤ length b)) (sym e)
        (subst (λ (x : Range). (x.to ≤ length b) × (number_of x.bare ≤ length b)) (sym (range_same cells (cell_at N A i j) r there)) (omega arith, small))
    | no d ↦ subst (λ (x : Range). (x.to ≤ length b) × (number_of x.bare ≤ length b)) (sym (range_other cells (cell_at N A i j) r at d)) (
      omega (arith, old.to_within at, grown-length grown),
      omega (arith, old.bare_within at, grown-length grown),
    )
  ]

  pub indexed-more : Indexed n N b new
  indexed-more =
      record {
        long = omega (arith, old.long, range_length cells (cell_at N A i j) r);
        to_within = λ at. (within at).0;
        bare_within = λ at. (within at).1;
        ranges = λ A' i' j' x y z. (says A' i' j' x y z).0;
        bares = λ A' i' j' x y z. (says A' i' j' x y z).1;
      }

-- Before the first cell: no records, and marks and a table of zeros.
all-zero : (l : List ℕ) → l ≡ replicate (length l) 0 → (k : ℕ) → get_or l k 0 ≡ 0
all-zero l e k = ap (λ (m : List ℕ). get_or m k 0) e ∙ zero-at (length l) k

pub start_between : {g : List Rule} {n N room : ℕ} {chart marks cells sets : List ℕ} → n ≤ most_words → N ≤ max_nonterminals → room ≤ 65535
    → 16 * room ≤ length chart → spans n * N < length marks → 4 * (spans n * N) ≤ length cells → marks ≡ replicate (length marks) 0
    → cells ≡ replicate (length cells) 0 → Classified g sets → Sorted g n [] sets → Between g n N room chart marks cells sets 0
start_between {n = n} {N} {marks = marks} {cells} a b c d e f unmarked empty classes sorted =
    record {
      words_fit = a;
      symbols_fit = b;
      room_small = c;
      room_there = d;
      marks_there = e;
      count_fits = omega arith;
      exact = refl;
      feet = λ m l. absurd (omega arith);
      clear = λ φ fits. rw (all-zero marks unmarked (foot_number n N φ / 8), bit_of-zero (foot_number n N φ % 8));
      indexed = record {
        long = f;
        to_within = λ at. omega (arith, zeros (4 * at + 1));
        bare_within = λ at. rw (zeros (4 * at + 2)) (omega arith);
        ranges = λ A i j x y z. rw (zeros (4 * cell_at N A i j), zeros (4 * cell_at N A i j + 1));
        bares = λ A i j x y z. rw (zeros (4 * cell_at N A i j + 2));
      };
      covered = covered_start f empty;
      classified = classes;
      sorted = sorted;
    }
  where
    zeros : (k : ℕ) → get_or cells k 0 ≡ 0
    zeros = all-zero cells empty

-- Is there a place from base on and below m where f is s?
abbrev Found : (ℕ → ℕ) → ℕ → ℕ → ℕ → Type 0
Found f s base m = (x : ℕ) × (base ≤ x) × (x < m) × (f x ≡ s)

abbrev Missing : (ℕ → ℕ) → ℕ → ℕ → ℕ → Type 0
Missing f s base m = (x : ℕ) → base ≤ x → x < m → f x ≡ s → ⊥

missing-more : (f : ℕ → ℕ) (s base m : ℕ) → Missing f s base m → (base ≤ m → f m ≡ s → ⊥) → Missing f s base (suc m)
missing-more f s base m h d x a b e = elim (ℕ_discrete x m) [
  | yes q ↦ d (omega arith) (subst (λ (y : ℕ). f y ≡ s) q e)
  | no q ↦ h x a (omega arith) e
]

search-place : (f : ℕ → ℕ) (s base m : ℕ) → Found f s base m ⊎ Missing f s base m
search-place f s base zero = inr (λ x a b e. omega arith)
search-place f s base (suc m) = next (search-place f s base m) (dec_le base m) (ℕ_discrete (f m) s)
  where
    next : Found f s base m ⊎ Missing f s base m → Dec (base ≤ m) → Dec (f m ≡ s) → Found f s base (suc m) ⊎ Missing f s base (suc m)
    next (inl (x, a, b, e)) p q = inl (x, a, omega arith, e)
    next (inr h) (yes l) (yes e) = inl (m, l, le_refl (suc m), e)
    next (inr h) (yes l) (no d) = inr (missing-more f s base m h (λ _ e. d e))
    next (inr h) (no d) q = inr (missing-more f s base m h (λ l _. d l))

-- No foot is marked once a cell is finished: where a mark was, a record of the cell has the foot, and the byte of its number was cleared.
pub marks-clear : {chart marks new : List ℕ} {n count base : ℕ} {r : Range} {c : List Record} (N A i j : ℕ) → places c A i j ≡ []
    → Grown (IsCell A i j) c (chart_in chart count) → base ≡ length c → take (16 * count) chart ≡ numbered_chart n N (chart_in chart count)
    → Marked n N A i j (chart_in chart count) marks → Finished chart base count marks new r → (φ : Foot) → FootFits n N φ
    → mark_of n N new φ ≡ false
marks-clear {chart} {marks} {new} {n} {count} {base} N A i j fresh grown e exact marked done φ fits =
    go (search-place (λ m. number_there chart m / 8) (foot_number n N φ / 8) base count)
  where
    go : Found (λ m. number_there chart m / 8) (foot_number n N φ / 8) base count
        ⊎ Missing (λ m. number_there chart m / 8) (foot_number n N φ / 8) base count → mark_of n N new φ ≡ false
    go (inl (m, a, b, q)) =
        let z : get_or new (foot_number n N φ / 8) 0 ≡ 0 = subst (λ (s : ℕ). get_or new s 0 ≡ 0) q (done.cleared m a b) in
        rw (z, bit_of-zero (foot_number n N φ % 8))
    go (inr h) =
        ap (holds_bit (foot_number n N φ % 8)) (done.others (foot_number n N φ / 8) h)
        ∙ (marked φ fits ∙ not_so (among (item A i j φ) (map item_of (chart_in chart count))) absent)
      where
        absent : among (item A i j φ) (map item_of (chart_in chart count)) ≡ true → ⊥
        absent t =
            let (x, a, b, f) = foot-place A i j fresh grown (among-true _ _ t) in
            let x<count : x < count = omega (arith, chart-length chart count) in
            h x (omega arith) x<count
            (ap (λ (k : ℕ). k / 8)
            (number-there n N chart count exact x x<count ∙ ap (foot_number n N) (sym (foot-at chart count x x<count) ∙ f)))
