-- A span, cell by cell. A production that is not in the span's set, or not in a nonterminal's own, adds nothing to the nonterminal's cell; so
-- a nonterminal of whose productions none is in the span's set has no candidates, and its turn may be left out.
use Prim.Native.Nat.{ℕ, zero, suc, ◌+◌, ◌-◌, ◌≤◌, ◌<◌}
use native.Mathlib.Nat.{le_refl}
use native.Mathlib.Decide.{ℕ_discrete}
use native.Mathlib.Omega.{arith}
use mathlib.Core.Path.{◌≡◌, refl, sym, ◌∙◌, ap, subst}
use mathlib.Core.Logic.{◌⊎◌, inl, inr}
use mathlib.Core.Bool.{Bool, true, ◌&&◌, and-eq-true_iff}
use mathlib.Core.List.{List, []}
use mathlib.Core.Option.{Option, some}
use lib.Bits.{bit_and}
use lib.Dec.{eqb}
use lib.ListN.{get_or, get_elem?}
use Rattle.std.specs.Prelude.{Option as Answer, Some}
use borrow.Author.Tests.{ne_eqb, eqb-true}
use Rattle.grammar.specs.Rewriting.{Rule, Lexical, Spine}
use Rattle.grammar.specs.Names.{left_name}
use Rattle.grammar.specs.Chart.{Record}
use Rattle.layout.specs.Card.{max_nonterminals, grammar_of}
use Rattle.places.specs.Places.{word_test}
use Rattle.chart_model.specs.Build.{fold_up, places as positions, by_rule, by_word, by_rule_over, add_each, fill_cell}
use Rattle.chart_model.proofs.FillModel.{same, span-grown, places-other, not_so}
use Rattle.chart_model.proofs.Absent.{splits-none, candidates-none}
use Rattle.bits.specs.Bits.{bit_of}
use Rattle.bits.proofs.BitLaws.{bit_of-zero, bit_of-and}
use Rattle.bits.proofs.BitSets.{and_zero, bit-one}
use Rattle.records.specs.declared.record.OpenCell.{OpenCell}
use Rattle.records.specs.declared.span.Span.{Span}
use Rattle.records.specs.Room.{chart_in}
use Rattle.sets.specs.Places.{splits_at, OnlyMeeting, OnlySpans}
use Rattle.sets.specs.Classes.{Classified}
use Rattle.sets.specs.Spans.{FirstAbsent, SecondAbsent, Splits}
use Rattle.sets.proofs.ClassLaws.{WordRule, word-has, own-has, classified-meeting}
use Rattle.sets.proofs.SortedLaws.{absent-first, absent-second, not_own, sorted-meeting, met-splits, splits-spans}
use Rattle.chart.specs.Cell.{CellSet}
use Rattle.chart.specs.declared.build.Sizes.{Sizes}
use Rattle.chart.specs.Fill.{Between, Filled, Ready, FilledTo, OpenedAt, Fillable, filled_cell, SpanSet}
use Rattle.chart.proofs.FillCells.{opened-is}
use Rattle.chart.proofs.FillFolds.{fold-skip}

-- A word rule of another nonterminal, and one for a word that does not stand there, make no records.
module _ (at : ℕ → ℕ → Bool) (A i p : ℕ) where
  other_word : (r : Rule) → (left_name r ≡ A → ⊥) → by_word at A i p r ≡ []
  other_word (Lexical A' w) h = rw (ne_eqb A' A h)
  other_word (Spine A' a before D after) h = refl

  word_none : (r : Rule) → ((w : ℕ) → at i w ≡ true → WordRule w r → ⊥) → by_word at A i p r ≡ []
  word_none (Lexical A' w) h = rw (not_so (eqb A' A && at i w) (λ t. h w ((and-eq-true_iff (eqb A' A) (at i w)).0 t).1 refl))
  word_none (Spine A' a before D after) h = refl

-- A production that is not in a nonterminal's own set, or not in that of a span, adds nothing to the nonterminal's cell over the span.
module _ {g : List Rule} {i j set : ℕ} {sets places : List ℕ} {b : List Record} (classes : Classified g sets) (found : SpanSet places i j sets set)
    (splits : Splits g b i j sets) (ij : i < j) (A : ℕ) (few : A < max_nonterminals) where
  abbrev own : ℕ
  own = get_or sets A 0

  missing : (k p : ℕ) (r : Rule) → i < k → k < j → get_elem? g p ≡ some r → bit_of p set ≡ 0 → FirstAbsent b i k r ⊎ SecondAbsent b k j r
  missing k p r ik kj e z = splits.absent p r k e ik kj (elim (ℕ_discrete (bit_of k (get_or sets splits_at 0)) 0) [
    | yes s ↦ inl s
    | no d ↦ inr (ap (bit_of p) (found.met.there k (bit-one k (get_or sets splits_at 0) d)) ∙ found.of_splits p k ik kj z)
  ])

  not-of : (p : ℕ) (r : Rule) → get_elem? g p ≡ some r → bit_of p own ≡ 0 → left_name r ≡ A → ⊥
  not-of p r e z t = omega (arith, own-has classes p e A few t, z)

  split-none : (k p : ℕ) (r : Rule) → i < k → k < j → get_elem? g p ≡ some r → bit_of p (bit_and own set) ≡ 0 → by_rule b A i k j p r ≡ []
  split-none k p r ik kj e apart = elim (and_zero p own set apart) [
    | inl z ↦ not_own b A i k j p r (not-of p r e z)
    | inr z ↦ elim (missing k p r ik kj e z) [
      | inl y ↦ absent-first b A i k j p r y
      | inr y ↦ absent-second b A i k j p r y
    ]
  ]

  word-rule-none : (p : ℕ) (r : Rule) → j ≡ i + 1 → get_elem? g p ≡ some r → bit_of p (bit_and own set) ≡ 0
      → by_word (word_test places) A i p r ≡ []
  word-rule-none p r one e apart = elim (and_zero p own set apart) [
    | inl z ↦ other_word (word_test places) A i p r (not-of p r e z)
    | inr z ↦ word_none (word_test places) A i p r (λ w t is.
        absurd (omega (arith, word-has classes p e w is, found.of_words one w p (eqb-true (bit_of w (get_or places i 0)) 1 t) z)))
  ]

  rule-none : (p : ℕ) (r : Rule) → get_elem? g p ≡ some r → bit_of p (bit_and own set) ≡ 0 → by_rule_over (word_test places) b A i (j - i) p r ≡ []
  rule-none p r e apart = go (j - i) refl
    where
      go : (len : ℕ) → j - i ≡ len → by_rule_over (word_test places) b A i (j - i) p r ≡ []
      go zero q = absurd (omega arith)
      go (suc zero) q = rw q (word-rule-none p r (omega arith) e apart)
      go (suc (suc len)) q =
          let s : j ≡ i + suc (suc len) = omega arith in
          rw q (splits-none b A i (i + suc (suc len)) p r
          (λ k x y. subst (λ (j' : ℕ). by_rule b A i k j' p r ≡ []) s (split-none k p r x (omega arith) e apart)))

  -- So the productions that both sets have are all that can add to the cell; and where there is none the cell's turn changes nothing.
  cell_set : CellSet g (word_test places) b A i (j - i) (bit_and own set)
  cell_set =
      record { idle = rule-none; no_more = λ p l. omega (arith, classes.no_more A p (omega arith) l, bit_of-and p own set) }

  idle-cell : (room : ℕ) → ((p : ℕ) → bit_of p (bit_and own set) ≡ 0)
      → fill_cell room g (word_test places) (j - i) i A (some b) ≡ some b
  idle-cell room apart =
      ap (λ (rs : List Record). add_each room rs (some b))
      (candidates-none g (word_test places) b A i (j - i) (λ p r e. rule-none p r e (apart p)))

-- Turns that change nothing.
fold-idle : (f : ℕ → Option (List Record) → Option (List Record)) (m : ℕ) (c : List Record)
    → ((l : ℕ) → l < m → f l (some c) ≡ some c) → fold_up f m (some c) ≡ some c
fold-idle f zero c h = refl
fold-idle f (suc m) c h = rw (fold-idle f m c (λ l k. h l (omega arith))) (h m (le_refl (suc m)))

-- What was noted of the splits of a span changes nothing else.
pub between-meeting : {g : List Rule} {n N room count : ℕ} {chart marks cells old sets : List ℕ}
    → Between g n N room chart marks cells old count → OnlyMeeting old sets → Between g n N room chart marks cells sets count
between-meeting b only =
    record {
      words_fit = b.words_fit;
      symbols_fit = b.symbols_fit;
      room_small = b.room_small;
      room_there = b.room_there;
      marks_there = b.marks_there;
      count_fits = b.count_fits;
      exact = b.exact;
      feet = b.feet;
      clear = b.clear;
      indexed = b.indexed;
      covered = b.covered;
      classified = classified-meeting b.classified only;
      sorted = sorted-meeting b.sorted only;
    }

-- With an empty set no nonterminal adds anything; and one whose set shares no production with the span's adds nothing.
module _ {g : List Rule} {n N count : ℕ} {chart marks cells sets places : List ℕ} {i j set : ℕ} (room : ℕ)
    (b : Between g n N room chart marks cells sets count) (found : SpanSet places i j sets set) (ij : i < j) (jn : j ≤ n) where
  abbrev turn : ℕ → Option (List Record) → Option (List Record)
  turn = fill_cell room g (word_test places) (j - i) i

  few : (A : ℕ) → A < N → A < max_nonterminals
  few A l = omega (arith, b.symbols_fit)

  pub idle-span : set ≡ 0 → fold_up turn N (some (chart_in chart count)) ≡ some (chart_in chart count)
  idle-span z =
      fold-idle turn N (chart_in chart count)
      (λ A l. idle-cell b.classified found
      (met-splits i j {P = λ _ _ _. ⊥} jn b.sorted same (λ B x y h. absurd h) found.met) ij A (few A l) room
      (λ p. omega (arith, bit_of-and p (get_or sets A 0) set, ap (bit_of p) z ∙ bit_of-zero p)))

  -- Once the nonterminals below m are through.
  module _ {c : List Record} (m : ℕ) (q : fold_up turn m (some (chart_in chart count)) ≡ some c) where
    splits-now : Splits g c i j sets
    splits-now =
        met-splits i j jn b.sorted (span-grown room g (word_test places) (j - i) i m q) (λ B x y (u, v, w). (v, omega arith)) found.met

    -- The sets of the spans may have changed since.
    module _ (now : List ℕ) (only : OnlySpans sets now) where
      turn-splits : Splits g c i j now
      turn-splits = splits-spans (omega (arith, b.words_fit)) splits-now only

      module _ (A : ℕ) (l : A < N) where
        own_same : bit_and (get_or now A 0) set ≡ bit_and (get_or sets A 0) set
        own_same = ap (λ (x : ℕ). bit_and x set) (only.1 A (omega (arith, few A l)))

        idle-turn : bit_and (get_or now A 0) set ≡ 0 → turn A (some c) ≡ some c
        idle-turn z =
            idle-cell b.classified found splits-now ij A (few A l) room (λ p. ap (bit_of p) (sym own_same ∙ z) ∙ bit_of-zero p)

        turn-set : CellSet g (word_test places) c A i (j - i) (bit_and (get_or now A 0) set)
        turn-set =
            subst (CellSet g (word_test places) c A i (j - i)) (sym own_same)
            (cell_set b.classified found splits-now ij A (few A l))

-- The cell of the next nonterminal is still without records.
fresh-turn : {b : List Record} (c : List Record) (room : ℕ) (g : List Rule) (at : ℕ → ℕ → Bool) (i j A : ℕ) → positions c A i j ≡ []
    → fold_up (fill_cell room g at (j - i) i) A (some c) ≡ some b → positions b A i j ≡ []
fresh-turn c room g at i j A fresh q =
    places-other A i j (λ (u, v, w). omega arith) (span-grown room g at (j - i) i A q) ∙ fresh

-- A nonterminal that has no production in the span's set is passed over.
pub span-skip : {g : List Rule} {n N room count total : ℕ} {chart marks cells sets places mid marks' cells' sets' : List ℕ} {i j set : ℕ}
    → Between g n N room chart marks cells sets count → SpanSet places i j sets set → i < j → j ≤ n → OnlySpans sets sets'
    → (A : ℕ) → A < N → bit_and (get_or sets' A 0) set ≡ 0
    → let f = fill_cell room g (word_test places) (j - i) i in
    Filled g n N room (fold_up f A (some (chart_in chart count))) chart mid marks' cells' sets' (Some total)
    → Filled g n N room (fold_up f (A + 1) (some (chart_in chart count))) chart mid marks' cells' sets' (Some total)
span-skip {g} {room = room} {places = places} {sets' = sets'} {i = i} {j} b found ij jn only A l z sofar =
    fold-skip (fill_cell room g (word_test places) (j - i) i) A _ sofar (idle-turn room b found ij jn A (sym sofar.model) sets' only A l z)

-- The turn of a cell in a span.
abbrev pub cell_turn : List ℕ → List ℕ → Sizes → Span → ℕ → Option (List Record) → Option (List Record)
cell_turn card places sizes span = fill_cell sizes.room (grammar_of card) (word_test places) (span.to - span.from) span.from

-- The next cell of a span is opened: it may be filled, and what filling it leaves is a turn of the model.
module _ {sizes : Sizes} {total A : ℕ} {span : Span} {cell : OpenCell} (opened : OpenedAt sizes A span total cell) where
  pub turn-fillable : {card chart marks cells sets places mid marks' cells' sets' : List ℕ} {count set : ℕ}
      → Ready card sizes chart marks cells sets count → SpanSet places span.from span.to sets set
      → span.words ≡ sizes.words → ((B : ℕ) → positions (chart_in chart count) B span.from span.to ≡ []) → OnlySpans sets sets'
      → FilledTo card sizes (fold_up (cell_turn card places sizes span) A (some (chart_in chart count))) chart mid marks' cells' sets' (Some total)
      → A < sizes.symbols → Fillable card places cell mid marks' cells' sets' (bit_and (get_or sets' A 0) set)
  turn-fillable {card} {chart} {places = places} {mid} {marks'} {cells'} {sets'} {count} {set} r found words empty only sofar l =
      let b = r.between in
      let state = sym sofar.model in
      let i = span.from in
      let j = span.to in
      let ij = span.some in
      let jn : j ≤ sizes.words = omega (arith, span.inside, words) in
      subst (λ (x : OpenCell). Fillable card places x mid marks' cells' sets' (bit_and (get_or sets' A 0) set)) (sym (opened-is opened))
      record {
        between = sofar.ready;
        inside = (l, ij, jn);
        numbered = refl;
        fresh = fresh-turn (chart_in chart count) sizes.room (grammar_of card) (word_test places) i j A (empty A) state;
        given = record {
          names = r.names;
          long = omega (arith, only.0, b.sorted.rows.long);
          splits = turn-splits sizes.room b found ij jn A state sets' only;
        };
        set_for = turn-set sizes.room b found ij jn A state sets' only A l;
      }

  pub turn-filled : {after : Answer ℕ} (card places : List ℕ) {mid new marks cells sets : List ℕ}
      → Filled (grammar_of card) cell.words cell.symbols cell.room (filled_cell card places cell mid) mid new marks cells sets after
      → FilledTo card sizes (cell_turn card places sizes span A (some (chart_in mid total))) mid new marks cells sets after
  turn-filled {after} card places {mid} {new} {marks} {cells} {sets} f =
      subst (λ (x : OpenCell). Filled (grammar_of card) x.words x.symbols x.room (filled_cell card places x mid) mid new marks cells sets after)
      (opened-is opened) f
