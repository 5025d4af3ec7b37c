-- What the loops of `cell` turn on. A set has every production that adds to a cell, so its productions in turn add the cell's candidates;
-- and a production that was passed has left no item out, so a later one that makes the same items may be left out.
use Prim.Native.Nat.{ℕ, zero, suc, ◌+◌, ◌-◌, ◌*◌, ◌/◌, ◌≤◌, ◌<◌}
use native.Mathlib.Nat.{mul_comm}
use native.Mathlib.Omega.{arith}
use native.Mathlib.Numerals.{add-one}
use native.Mathlib.Decide.{dec_lt, ℕ_discrete}
use mathlib.Core.Path.{◌≡◌, refl, sym, ◌∙◌, ap, ap₂, subst}
use mathlib.Core.Logic.{inl, inr}
use mathlib.Core.Bool.{Bool}
use mathlib.Core.List.Memᴰ
use mathlib.Core.List.{List, [], ◌++◌, append-nil, Memᴰ}
use mathlib.Core.Option.{Option, none, some}
use lib.ListN.{length, get_or, get_elem?}
use borrow.Author.Tests.{eq-eqb, ne_eqb}
use Rattle.grammar.specs.Rewriting.{Rule, Lexical, Spine}
use Rattle.grammar.specs.Items.{bare}
use Rattle.grammar.specs.Chart.{Record, item_of}
use Rattle.layout.specs.Card.{max_productions, production_count, production, grammar_of}
use Rattle.places.specs.Places.{word_test}
use Rattle.chart_model.specs.Build.{flat_up, rule_at, by_word, across_splits, by_rule_over, by_production, candidates}
use Rattle.chart_model.proofs.BuildLaws.{flat_up-in}
use Rattle.chart_model.proofs.Absent.{flat_up-none}
use Rattle.bits.specs.Bits.{bit_of, Least}
use Rattle.bits.proofs.BitLaws.{bit_of-below}
use Rattle.bits.proofs.BitSets.{Walk, walk-has, walk-passed, walk_end}
use Rattle.records.specs.Room.{chart_in, foot_number}
use Rattle.records.specs.Cells.{spans}
use Rattle.records.specs.Cover.{HasItem}
use Rattle.records.specs.Filling.{begun_with, Filling}
use Rattle.records.specs.declared.record.OpenCell.{OpenCell}
use Rattle.records.proofs.TableLaws.{spans-twice}
use Rattle.sets.proofs.CardRules.{rule-there}
use Rattle.sets.proofs.LikeLaws.{served-idle}
use Rattle.steps.proofs.StepLaws.{flat_up-add, loop-kept}
use Rattle.steps.proofs.StepCover.{Known, known-none, Advancing, advance-has}
use Rattle.sets.specs.Spans.{SplitsOf}
use Rattle.sets.specs.Like.{LikeBefore}
use Rattle.chart.specs.Cell.{splits_add, chosen, CellGiven, Turn, CellSet, SetFor, one_of}

-- Places at which two functions agree; places past the last at which there is anything.
flat_up-same : {A : Type 0} (f g : ℕ → List A) (from m : ℕ) → ((k : ℕ) → from ≤ k → k < from + m → f k ≡ g k)
    → flat_up f from m ≡ flat_up g from m
flat_up-same f g from zero h = refl
flat_up-same f g from (suc m) h =
    ap₂ ◌++◌ (flat_up-same f g from m (λ k a b. h k a (omega arith))) (h (from + m) (omega arith) (omega arith))

flat_up-end : {A : Type 0} (f : ℕ → List A) (from a m : ℕ) → a ≤ m → ((k : ℕ) → from + a ≤ k → k < from + m → f k ≡ [])
    → flat_up f from m ≡ flat_up f from a
flat_up-end f from a m l h =
    let more : m ≡ a + (m - a) = omega arith in
    ap (flat_up f from) more ∙ flat_up-add f from a (m - a)
    ∙ ap (λ r. flat_up f from a ++ r) (flat_up-none f (from + a) (m - a) (λ k s t. h k s (omega arith)))
    ∙ append-nil (flat_up f from a)

-- What a rule adds to a cell of one word, and of more, as the code finds it.
module _ (b : List Record) (A i : ℕ) where
  word_same : (places : List ℕ) (p : ℕ) (r : Rule) → by_word (one_of (get_or places i 0)) A i p r ≡ by_word (word_test places) A i p r
  word_same places p (Lexical A' w) = refl
  word_same places p (Spine A' a before D after) = refl

  pub over_word : (places : List ℕ) (j k p : ℕ) (r : Rule) → k ≡ i → j - i ≡ 1
      → by_word (one_of (get_or places k 0)) A i p r ≡ by_rule_over (word_test places) b A i (j - i) p r
  over_word places j k p r q e = rw (e, q) (word_same places p r)

  module _ (at : ℕ → ℕ → Bool) (j p : ℕ) (r : Rule) (l : i < j) where
    pub over-splits : (j - i ≡ 1 → ⊥) → across_splits b A i j p r ≡ by_rule_over at b A i (j - i) p r
    over-splits d = go (j - i) refl
      where
        go : (len : ℕ) → j - i ≡ len → across_splits b A i j p r ≡ by_rule_over at b A i (j - i) p r
        go zero e = absurd (omega arith)
        go (suc zero) e = absurd (d e)
        go (suc (suc len)) e =
            let s : i + suc (suc len) ≡ j = omega arith in
            subst (λ (x : ℕ). across_splits b A i j p r ≡ by_rule_over at b A i x p r) (sym e)
            (subst (λ (j' : ℕ). across_splits b A i j' p r ≡ by_rule_over at b A i (suc (suc len)) p r) s refl)

    -- At the splits of one word it adds nothing.
    splits-in : {e : Record} → Memᴰ e (across_splits b A i j p r) → Memᴰ e (by_rule_over at b A i (j - i) p r)
    splits-in {e} m = elim (ℕ_discrete (j - i) 1) [
      | yes one ↦
          let few : j - suc i ≡ 0 = omega arith in
          absurd (Memᴰ.not-nil (rw few at m))
      | no d ↦ subst (Memᴰ e) (over-splits d) m
    ]

-- What a set chooses: the rule of p where its bit is set, and nothing where it is not.
module _ (set : ℕ) (g : List Rule) (at : ℕ → ℕ → Bool) (b : List Record) (A i len : ℕ) where
  chosen-has : (p : ℕ) → bit_of p set ≡ 1 → chosen set g at b A i len p ≡ by_production g at b A i len p
  chosen-has p e = rw (eq-eqb (bit_of p set) 1 e)

  chosen-lacks : (p : ℕ) → (bit_of p set ≡ 1 → ⊥) → chosen set g at b A i len p ≡ []
  chosen-lacks p h = rw (ne_eqb (bit_of p set) 1 h)

  -- The same in a walk over the set: the next number, those passed on the way to it, and those past the last.
  module _ (rest y : ℕ) (walk : Walk set rest y) where
    pub chosen-next : (p : ℕ) {r : Rule} → Least rest p → get_elem? g p ≡ some r
        → by_rule_over at b A i len p r ≡ chosen set g at b A i len p
    chosen-next p least there = sym (chosen-has p (walk-has walk least) ∙ rw (there, by_production))

    pub chosen-passed : (p : ℕ) → Least rest p → (q : ℕ) → y ≤ q → q < p → chosen set g at b A i len q ≡ []
    chosen-passed p least q l h = chosen-lacks q (λ o. absurd (omega (arith, walk-passed walk least q l h)))

    pub chosen-after : (q : ℕ) → rest ≡ 0 → y ≤ q → chosen set g at b A i len q ≡ []
    chosen-after q z l = chosen-lacks q (λ o. absurd (omega (arith, walk_end walk z q l)))

-- A number of the set is that of a production.
pub bit-within : {g : List Rule} {at : ℕ → ℕ → Bool} {b : List Record} {A i len set : ℕ} (p : ℕ)
    → CellSet g at b A i len set → bit_of p set ≡ 1 → p < length g
bit-within {g} p cell one = elim (dec_lt p (length g)) [
  | yes h ↦ h
  | no h ↦ absurd (omega (arith, cell.no_more p (omega arith)))
]

-- The productions of a set that has all that add to a cell add its candidates.
module _ (g : List Rule) {at : ℕ → ℕ → Bool} {b : List Record} {A i len set : ℕ} (cell : CellSet g at b A i len set) where
  place_same : (p : ℕ) → chosen set g at b A i len p ≡ by_production g at b A i len p
  place_same p = elim (ℕ_discrete (bit_of p set) 1) [
    | yes e ↦ chosen-has set g at b A i len p e
    | no d ↦ chosen-lacks set g at b A i len p d
        ∙ sym (none-there (get_elem? g p) λ r s. cell.idle p r s (omega (arith, bit_of-below p set)))
  ]
    where
      none-there : (o : Option Rule) → ((r : Rule) → o ≡ some r → by_rule_over at b A i len p r ≡ [])
          → ◌≡◌ {A = List Record} (elim o [ none ↦ [] | some r ↦ by_rule_over at b A i len p r ]) []
      none-there none f = refl
      none-there (some r) f = f r refl

  rule-chosen : (p : ℕ) {r : Rule} → get_elem? g p ≡ some r → by_rule_over at b A i len p r ≡ chosen set g at b A i len p
  rule-chosen p there = sym (place_same p ∙ rw (there, by_production))

  pub all-chosen : (all : ℕ) → length g ≤ all → flat_up (chosen set g at b A i len) 0 all ≡ candidates g at b A i len
  all-chosen all h =
      flat_up-end (chosen set g at b A i len) 0 (length g) all h
      (λ p l u. chosen-lacks set g at b A i len p (λ e. absurd (omega (arith, cell.no_more p (omega arith)))))
      ∙ flat_up-same (chosen set g at b A i len) (by_production g at b A i len) 0 (length g) (λ p l u. place_same p)

-- The candidates of the cell, production by production.
abbrev pub by_number : List ℕ → List ℕ → OpenCell → ℕ → List Record → ℕ → List Record
by_number card places cell set b =
    chosen set (grammar_of card) (word_test places) b cell.left cell.from (cell.to - cell.from)

-- A loop that adds leaves the chart with which the cell was begun, and so what is given of it.
pub given-kept : {card sets : List ℕ} {cell : OpenCell} {F : List Record → ℕ → List Record} {from to : ℕ}
    {old old_marks old_cells mid mid_marks cells : List ℕ} {count y total : ℕ}
    → Advancing cell F from to old old_marks old_cells count mid mid_marks cells y total → Filling cell old old_marks old_cells count
    → CellGiven card sets cell old → CellGiven card sets cell mid
given-kept {card} {sets} {cell} {old = old} {mid = mid} l f given =
    let kept : begun_with cell mid ≡ begun_with cell old = loop-kept l.looped cell.base f.begun in
    record { names = given.names; long = given.long; splits = rw kept given.splits }

-- A loop over them is at p: every candidate of a production before p has its item among the records.
pub past-known : (card places : List ℕ) {cell : OpenCell} {set : ℕ} {old old_marks old_cells mid mid_marks cells : List ℕ} {count p total : ℕ}
    → Filling cell old old_marks old_cells count → SetFor card places cell old set → p < production_count card
    → Advancing cell (by_number card places cell set) 0 max_productions old old_marks old_cells count mid mid_marks cells p total
    → (q : ℕ) (e : Record) → q < p → Memᴰ e (splits_add card cell q (begun_with cell mid)) → HasItem (chart_in mid total) (item_of e)
past-known card places {cell} {set} {old} f has counted l q e h m =
    let b = begun_with cell old in
    let here = rw (loop-kept l.looped cell.base f.begun) at m in
    let there = splits-in b cell.left cell.from (word_test places) cell.to q (production card q) f.inside.1 here in
    advance-has {F = by_number card places cell set} l q (omega arith) h e
    (subst (Memᴰ e)
    (rule-chosen (grammar_of card) has q (rule-there card (production_count card) q (omega arith))) there)

-- What production p adds at a split. Where the split is left out all its items are there already: it has no candidates, or a like production
-- before it has made them.
abbrev pub at_split : List ℕ → OpenCell → ℕ → List Record → ℕ → List Record
at_split card cell p b = rule_at b cell.left cell.from cell.to p (production card p)

pub left_out : (card : List ℕ) {sets chart : List ℕ} {cell : OpenCell} {like served count p : ℕ} → CellGiven card sets cell chart
    → Turn card cell chart count p → LikeBefore card p like → SplitsOf sets p like served → (k : ℕ) → cell.from < k → k < cell.to
    → bit_of k served ≡ 0 → Known (chart_in chart count) (at_split card cell p (begun_with cell chart) k)
left_out card {chart = chart} {cell} {count = count} {p} given turn before of k ik kj z =
    elim (served-idle card cell.left p turn.counted given.splits of before k ik kj z) [
      | inl e ↦ known-none (chart_in chart count) e
      | inr (q, l, covers) ↦ λ r m.
          let (made, n, is) = covers r m in
          subst (HasItem (chart_in chart count)) is
          (turn.past q made l (flat_up-in (at_split card cell q (begun_with cell chart)) (suc cell.from) (cell.to - suc cell.from) k ik
          (omega arith) n))
    ]

-- The bare item's number from the words and the nonterminals.
module _ (n N : ℕ) where
  triangle : n * (n + 1) / 2 ≡ spans n
  triangle = rw add-one (omega (arith, spans-twice n))

  pub bare-number : N * (n * (n + 1) / 2) * 8 ≡ foot_number n N bare
  bare-number = rw triangle (omega (arith, mul_comm N (spans n)))
