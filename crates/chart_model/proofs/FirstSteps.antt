-- The built chart has first steps. All antecedents of a step to an item of a cell lie in shorter spans within the cell's, so they stood when the
-- cell was begun; over that chart each step has a candidate of its item and key, candidates come in rising keys, and the first stays.
use Prim.Native.Nat.{ℕ, suc, ◌+◌, ◌-◌, ◌≤◌, ◌<◌}
use native.Mathlib.Omega.{arith}
use mathlib.Core.Path.{◌≡◌, refl, sym, ◌∙◌, subst, subst₂}
use mathlib.Core.Logic.{inl, inr}
use mathlib.Core.Bool.{Bool}
use mathlib.Core.List.{List, []}
use mathlib.Core.Option.{some}
use lib.ListN.{length}
use Rattle.grammar.specs.Lists.{Stands, NotAfter}
use Rattle.grammar.specs.Rewriting.{Rule, Action, OneSided}
use Rattle.grammar.specs.Input.{Holds, Below}
use Rattle.grammar.specs.Items.{Foot}
use Rattle.grammar.specs.ItemList.{Item, item}
use Rattle.grammar.specs.Chart.{Record, recorded, item_of, Earlier, earlier, Results, taken, kept, given, IsChart}
use Rattle.grammar.specs.Ways.{Moves, by_word, side_first, side_last, OneCell, one_cell, FirstSteps}
use Rattle.grammar.proofs.StandsLaws.{stands-length}
use Rattle.grammar.proofs.Bounds.{Within, derived-bounds}
use Rattle.grammar.proofs.Unfolding.{justified-derived}
use Rattle.grammar.proofs.NotAfterLaws.{not-after-self}
use Rattle.grammar.proofs.WaysCompared.{stands-once}
use Rattle.chart_model.specs.Build.{candidates, build}
use Rattle.chart_model.proofs.Keys.{key_of, InOrder, moves-key}
use Rattle.chart_model.proofs.Candidates.{Inside, Offers, offers-order, word_in, first-in, last-in}
use Rattle.chart_model.proofs.Rising.{rising-candidates}
use Rattle.chart_model.proofs.Exact.{left_of, derived-left, build-chart}
use Rattle.chart_model.proofs.FillModel.{InCell, IsCell, cell-grown, of-candidates, grown-stands, grown-cases, grown-back}
use Rattle.chart_model.proofs.FirstStays.{Once, first-stays}
use Rattle.chart_model.proofs.Stages.{Other, Beyond, Stage, build-stage}

-- The items of a chart have words, and their feet lie within; and a chart b has the records of c that lie within a span.
abbrev Bounded : List Record → Type 0
Bounded c = (x A i j : ℕ) (φ : Foot) → Earlier c (length c) x (item A i j φ) → (i < j) × Within i j φ

abbrev Stood : List Record → List Record → ℕ → ℕ → Type 0
Stood c b i j = (x B k m : ℕ) (ψ : Foot) → Inside i j k m → Earlier c (length c) x (item B k m ψ) → Earlier b (length b) x (item B k m ψ)

module _ (g : List Rule) (at : ℕ → ℕ → Bool) (c b : List Record) where
  results-stood : {i j D k m z : ℕ} {a : Action} {ψ φ : Foot} → Stood c b i j → Inside i j k m → Within k m ψ
      → Results c (length c) a D k m ψ z φ → Results b (length b) a D k m ψ z φ
  results-stood stood h w taken = taken
  results-stood stood h w kept = kept
  results-stood stood h w (given z) = given (stood _ _ _ _ _ (omega arith) z)

  -- Then a step over c to an item of the span has its key over b too, and is offered by the candidates there.
  abbrev Offered : ℕ → Record → List ℕ → Item → Type 0
  Offered len f key (item A i j φ) = j ≡ i + len → Stood c b i j → Offers g b (candidates g at b A i len) f × (key ≡ key_of g b f)

  offered : {f : Record} {key : List ℕ} → Bounded c → (len : ℕ) → Moves g (Holds at) c (length c) f key → Offered len f key (item_of f)
  offered bounds len (by_word s t) = λ e stood. (word_in g at b len e s t, moves-key {at = Holds at} {c = b} {m = length b} (by_word s t))
  offered bounds len (side_first s x y r) = λ e stood.
      let u = bounds _ _ _ _ _ x in
      let v = bounds _ _ _ _ _ y in
      let x' = stood _ _ _ _ _ (omega arith) x in
      let y' = stood _ _ _ _ _ (omega arith) y in
      let r' = results-stood stood (omega arith) v.1 r in
      (first-in g at b len e u.0 v.0 s x' y' r', moves-key {at = Holds at} (side_first s x' y' r'))
  offered bounds len (side_last s y x r) = λ e stood.
      let u = bounds _ _ _ _ _ x in
      let v = bounds _ _ _ _ _ y in
      let x' = stood _ _ _ _ _ (omega arith) x in
      let y' = stood _ _ _ _ _ (omega arith) y in
      let r' = results-stood stood (omega arith) v.1 r in
      (last-in g at b len e v.0 u.0 s y' x' r', moves-key {at = Holds at} (side_last s y' x' r'))

-- The cell of a record, by its item; and that of two items.
in_cell : {A i j : ℕ} {φ : Foot} (P : ℕ → ℕ → ℕ → Type 0) (e : Record) → item_of e ≡ item A i j φ → InCell P e → P A i j
in_cell P (recorded it p x y z) q h = subst (λ (it' : Item). InCell P (recorded it' p x y z)) q h

one_cell_lem : {x y : Item} → OneCell x y → (A i j : ℕ) × (φ ψ : Foot) × (x ≡ item A i j φ) × (y ≡ item A i j ψ)
one_cell_lem (one_cell {A} {i} {j} {φ} {ψ}) = (A, i, j, φ, ψ, refl, refl)

-- One cell, at its stage: what stands within its span stood when it was begun, and its own records were added then.
module _ {room len i A : ℕ} {g : List Rule} {at : ℕ → ℕ → Bool} {c : List Record} (stage : Stage room g at len i A [] c) where
  stood : Stood c stage.begun i (i + len)
  stood x B k m ψ h (earlier l s) =
      let t = grown-back (cell-grown room g at len i A stage.fills) (λ w. omega arith) (grown-back stage.after (λ w. w.1 h) s) in
      earlier (stands-length t) t

  added_then : {m : ℕ} {e : Record} {φ : Foot} → Stands c m e → item_of e ≡ item A i (i + len) φ
      → Stands stage.filled m e × (length stage.begun ≤ m)
  added_then {m} {e} s q =
      let t = grown-back stage.after (λ w. (in_cell (Beyond A i (i + len)) e q w).0 (refl, refl, refl)) s in
      elim (grown-cases (cell-grown room g at len i A stage.fills) t) [
        | inl u ↦ let v = grown-back stage.before (λ w. in_cell (Other A i (i + len)) e q w (refl, refl, refl)) u in absurd (elim v [ ])
        | inr w ↦ (t, w.0)
      ]

  -- So its records have first steps.
  first-there : {m m' : ℕ} {e e' f : Record} {φ ψ : Foot} {key key' : List ℕ} → Once c → Bounded c → Stands c m e → Stands c m' e' → m ≤ m'
      → item_of e ≡ item A i (i + len) φ → item_of e' ≡ item A i (i + len) ψ → Moves g (Holds at) c (length c) e key
      → item_of f ≡ item_of e' → Moves g (Holds at) c (length c) f key' → NotAfter ◌<◌ key key'
  first-there {m} {m'} {e} {e'} {f} {key = key} {key'} once bounds s s' h q q' v w v' =
      let b = stage.begun in
      let rs = candidates g at b A i len in
      let (t, l) = added_then s q in
      let (t', l') = added_then s' q' in
      let (o, k) = subst (Offered g at c b len e key) q (offered g at c b bounds len v) refl stood in
      let (o', k') = subst (Offered g at c b len f key') (w ∙ q') (offered g at c b bounds len v') refl stood in
      subst₂ (NotAfter ◌<◌) (sym k) (sym k') (offers-order e o' λ f' i' x.
      first-stays (InOrder g b) (λ r. not-after-self (key_of g b r)) (IsCell A i (i + len)) room (length b) stage.filled
      (λ n n' r r' u u'. once n n' r r' (grown-stands stage.after u) (grown-stands stage.after u')) m m' e e' f' l h t t' (x ∙ w)
      rs (rising-candidates g at b A i len) (λ r n. of-candidates g at b A i len n)
      (λ n r r' d u z. absurd (omega (arith, stands-length u))) stage.fills i')

-- And the cell of each record has a stage.
module _ (room N n : ℕ) (g : List Rule) (at : ℕ → ℕ → Bool) (one : OneSided g) (below : Below (Holds at) n)
    (lefts : (p : ℕ) (r : Rule) → Stands g p r → left_of r < N) where
  pub build-first : {c : List Record} → build room g at N n ≡ some c → FirstSteps g (Holds at) c
  build-first {c} built = record { first = first }
    where
      chart : IsChart g (Holds at) c
      chart = build-chart room N n g at one below lefts built

      bounds : Bounded c
      bounds x A i j φ (earlier l s) =
          let b = derived-bounds n below (justified-derived g (Holds at) c chart.justified s refl) in (b.0, b.2)

      first : {m m' : ℕ} {e e' f : Record} {key key' : List ℕ} → Stands c m e → Stands c m' e' → m ≤ m' → OneCell (item_of e) (item_of e')
          → Moves g (Holds at) c (length c) e key → item_of f ≡ item_of e' → Moves g (Holds at) c (length c) f key' → NotAfter ◌<◌ key key'
      first {e = e} {e' = e'} s s' h cell v w v' =
          let (A, i, j, φ, ψ, q, q') = one_cell_lem cell in
          let d = justified-derived g (Holds at) c chart.justified s q in
          let b = derived-bounds n below d in
          let stage = build-stage room N n g at (j - suc i) i A (derived-left room N n g at one below lefts d) c (omega arith) built in
          let end : j ≡ i + suc (j - suc i) = omega arith in
          first-there stage (λ m m' o o' u u'. stands-once item_of u u' chart.distinct) bounds s s' h
          (subst (λ (j : ℕ). item_of e ≡ item A i j φ) end q) (subst (λ (j : ℕ). item_of e' ≡ item A i j ψ) end q') v w v'
