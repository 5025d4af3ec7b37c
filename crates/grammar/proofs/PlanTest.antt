-- The test of a plan decides whether it is a leftmost derivation. What is pending means a yield for each symbol, one after the
-- other: what passes has that meaning, by induction on the plan, and what yields passes, by induction on the yield.
use Prim.Native.Nat.{ℕ, suc}
use mathlib.Core.Path.{◌≡◌, refl}
use mathlib.Core.Bool.{Bool, true, false, false≢true}
use mathlib.Core.List.{List, [], ◌∷◌, ◌++◌, map, append-nil, append_assoc}
use mathlib.Core.Option.{Option, none, some}
use lib.Dec.{eqb}
use lib.ListN.{get_elem?}
use borrow.Author.Tests.{eqb-true}
use Rattle.grammar.specs.Input.{Holds}
use Rattle.grammar.specs.Rewriting.{Rule, Symbol, word, nonterminal, Replaces, start}
use Rattle.grammar.specs.Plan.{PlanStep, plan_step, production_in, first_of, others_of, Yields, nothing, reads, replaces, LeftmostDerivation, right_side, Pending, symbol, ends_at, Settled, stuck, finished, opened, settle, ends_with, expanded, State, failed, going, replaced_by, stepped, runs, passes}
use Rattle.grammar.proofs.ListLaws.{eqb-self}
use Rattle.grammar.proofs.RightSide.{no_word, right_side_lem}
use Rattle.grammar.proofs.YieldsLaws.{yields-join}

module _ (g : List Rule) (at : ℕ → ℕ → Bool) (n : ℕ) where
  -- What yields passes: a word that is there, an end that is reached and a production that fits are passed over.
  record Runs (i : ℕ) (E : List Pending) (plan : List PlanStep) : Type 0 where
    ok : runs g at n plan (going i E) ≡ true

  pass-word : {i w : ℕ} {E : List Pending} (plan : List PlanStep) → at i w ≡ true → Runs (suc i) E plan
      → Runs i (symbol (word w) ∷ E) plan
  pass-word [] a c = record { ok = rw (a, settle) c.ok }
  pass-word (st ∷ plan) a c = record { ok = rw (a, settle) c.ok }

  pass-end : {i : ℕ} {E : List Pending} (plan : List PlanStep) → Runs i E plan → Runs i (ends_at i ∷ E) plan
  pass-end {i} [] c = record { ok = rw (eqb-self i, settle) c.ok }
  pass-end {i} (st ∷ plan) c = record { ok = rw (eqb-self i, settle) c.ok }

  pass_step : {p i k j : ℕ} (X : Symbol) {r : List Symbol} {plan : List PlanStep} {E : List Pending} → Replaces g p X r
      → Runs i (expanded r k j E) plan → Runs i (symbol X ∷ E) (plan_step p i k j ∷ plan)
  pass_step (word w) x c = absurd (no_word g x)
  pass_step {i = i} (nonterminal A s) x c = record { ok = rw ((right_side_lem g).1 x, eqb-self i, replaced_by) c.ok }

  pass-yields : {f : List Symbol} {i j : ℕ} {plan rest : List PlanStep} {E : List Pending} → Yields g (Holds at) f i j plan
      → Runs j E rest → Runs i (map symbol f ++ E) (plan ++ rest)
  pass-yields nothing c = c
  pass-yields (reads a y) c = pass-word _ a (pass-yields y c)
  pass-yields (replaces {X = X} x y₀ y₁ y₂) c =
      simp append_assoc (pass_step X x (pass-yields y₀ (pass-end _ (pass-yields y₁ (pass-end _ (pass-yields y₂ c))))))

  pub passes-complete : {plan : List PlanStep} → LeftmostDerivation g (Holds at) n plan → passes g at n plan ≡ true
  passes-complete {plan} y = rw (append-nil plan) at (pass-yields {rest = []} {E = []} y (record { ok = eqb-self n })).ok

  -- What passes yields. What is pending means: a yield for each symbol, and each end at its place.
  data Means : List Pending → ℕ → List PlanStep → Type 0 where
    over : Means [] n []
    yields : {X : Symbol} {E : List Pending} {i j : ℕ} {left right : List PlanStep} → Yields g (Holds at) (X ∷ []) i j left
        → Means E j right → Means (symbol X ∷ E) i (left ++ right)
    ends : {E : List Pending} {i : ℕ} {plan : List PlanStep} → Means E i plan → Means (ends_at i ∷ E) i plan

  data Forms : List Symbol → List Pending → ℕ → List PlanStep → Type 0 where
    forms : {f : List Symbol} {E : List Pending} {i j : ℕ} {left right : List PlanStep} → Yields g (Holds at) f i j left
        → Means E j right → Forms f E i (left ++ right)

  forms-more : {X : Symbol} {f : List Symbol} {E : List Pending} {i j : ℕ} {left right : List PlanStep}
      → Yields g (Holds at) (X ∷ []) i j left → Forms f E j right → Forms (X ∷ f) E i (left ++ right)
  forms-more y (forms z m) = rw (← append_assoc) (forms (yields-join g (Holds at) y z) m)

  means-forms : (f : List Symbol) {E : List Pending} {i : ℕ} {plan : List PlanStep} → Means (map symbol f ++ E) i plan → Forms f E i plan
  means-forms [] m = forms nothing m
  means-forms (X ∷ f) (yields y m) = forms-more y (means-forms f m)

  step-others : {p i k j : ℕ} {X : Symbol} {r : List Symbol} {E : List Pending} {left right : List PlanStep} → Replaces g p X r
      → Yields g (Holds at) (first_of r) i k left → Forms (others_of r) (ends_at j ∷ E) k right
      → Means (symbol X ∷ E) i (plan_step p i k j ∷ (left ++ right))
  step-others x y (forms z (ends m)) = simp (append-nil, append_assoc) at (yields (replaces x y z nothing) m)

  means-step : {p i k j : ℕ} {X : Symbol} {r : List Symbol} {E : List Pending} {plan : List PlanStep} → Replaces g p X r
      → Forms (first_of r) (ends_at k ∷ (map symbol (others_of r) ++ (ends_at j ∷ E))) i plan
      → Means (symbol X ∷ E) i (plan_step p i k j ∷ plan)
  means-step {r = r} x (forms y (ends m)) = step-others x y (means-forms (others_of r) m)

  -- What is settled, with a plan that passes from there.
  data After : Settled → List PlanStep → Type 0 where
    at_end : After (finished n) []
    at_open : {i A : ℕ} {s : List ℕ} {E : List Pending} {plan : List PlanStep} → Means (symbol (nonterminal A s) ∷ E) i plan
        → After (opened i A s E) plan

  after_test : (b : Bool) (S : Settled) {plan : List PlanStep} → After (elim b [ true ↦ S | false ↦ stuck ]) plan
      → (b ≡ true) × After S plan
  after_test true S a = (refl, a)
  after_test false S a = elim a [ ]

  settled : (E : List Pending) (i : ℕ) {plan : List PlanStep} → After (settle at E i) plan → Means E i plan
  settled [] i at_end = over
  settled (symbol (word w) ∷ E) i a =
      let (e, b) = after_test (at i w) (settle at E (suc i)) a in yields (reads e nothing) (settled E (suc i) b)
  settled (symbol (nonterminal A s) ∷ E) i (at_open m) = m
  settled (ends_at j ∷ E) i a =
      let (e, b) = after_test (eqb i j) (settle at E i) a in rw (← eqb-true i j e) (ends (settled E i b))

  ended : (S : Settled) → ends_with n S ≡ true → After S []
  ended stuck h = absurd (false≢true h)
  ended (finished i) h = rw (eqb-true i n h) at_end
  ended (opened i A s E) h = absurd (false≢true h)

  not-failed : (plan : List PlanStep) → runs g at n plan failed ≡ true → ⊥
  not-failed [] h = false≢true h
  not-failed (st ∷ plan) h = false≢true h

  run-test : (plan : List PlanStep) (b : Bool) (S : State) → runs g at n plan (elim b [ true ↦ S | false ↦ failed ]) ≡ true
      → (b ≡ true) × (runs g at n plan S ≡ true)
  run-test plan true S h = (refl, h)
  run-test plan false S h = absurd (not-failed plan h)

  module _ (plan : List PlanStep) (sound : (i : ℕ) (E : List Pending) → runs g at n plan (going i E) ≡ true → Means E i plan) where
    opens : (st : PlanStep) (i A : ℕ) (s : List ℕ) (E : List Pending) (o : Option (List Symbol))
        → right_side (get_elem? g (production_in st)) A s ≡ o → runs g at n plan (replaced_by st i E o) ≡ true
        → Means (symbol (nonterminal A s) ∷ E) i (st ∷ plan)
    opens st i A s E none e h = absurd (not-failed plan h)
    opens (plan_step p i' k j) i A s E (some r) e h =
        let (d, c) = run-test plan (eqb i' i) (going i (expanded r k j E)) h in
        rw (eqb-true i' i d) (means-step ((right_side_lem g).0 e) (means-forms (first_of r) (sound i (expanded r k j E) c)))

    step-means : (st : PlanStep) (S : Settled) → runs g at n plan (stepped g st S) ≡ true → After S (st ∷ plan)
    step-means st stuck h = absurd (not-failed plan h)
    step-means st (finished i) h = absurd (not-failed plan h)
    step-means st (opened i A s E) h = at_open (opens st i A s E (right_side (get_elem? g (production_in st)) A s) refl h)

  runs-means : (plan : List PlanStep) (i : ℕ) (E : List Pending) → runs g at n plan (going i E) ≡ true → Means E i plan
  runs-means [] i E h = settled E i (ended (settle at E i) h)
  runs-means (st ∷ plan) i E h = settled E i (step-means plan (runs-means plan) st (settle at E i) h)

  whole : {X : Symbol} {i : ℕ} {plan : List PlanStep} → Means (symbol X ∷ []) i plan → Yields g (Holds at) (X ∷ []) i n plan
  whole (yields y over) = rw append-nil y

  pub passes-sound : {plan : List PlanStep} → passes g at n plan ≡ true → LeftmostDerivation g (Holds at) n plan
  passes-sound {plan} h = whole (runs-means plan 0 (symbol start ∷ []) h)
