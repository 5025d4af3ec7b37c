-- The takes that wait, back over a plan that passes: as many as the goals' stacks have indices, so never more than words, and never none
-- where a give is met. By induction on the plan, with the goals that the machine has there.
use Prim.Native.Nat.{ℕ, suc, ◌≤◌, ◌<◌}
use native.Mathlib.Omega.{arith}
use mathlib.Core.Path.{◌≡◌, refl, ◌∙◌, ap}
use mathlib.Core.Bool.{Bool, true, false, ◌&&◌, false≢true}
use mathlib.Core.List.{List, [], ◌∷◌, ◌++◌}
use mathlib.Core.Option.{Option, none, some}
use lib.Dec.{eqb}
use lib.ListN.{length, get_elem?}
use borrow.Author.Tests.{eqb-true}
use Rattle.grammar.specs.Rewriting.{Rule, Lexical, Spine, Action, Take, Keep, Give, OneSide, is_word, is_first, is_last, OneSided}
use Rattle.grammar.specs.Plan.{PlanStep, plan_step, production_in}
use Rattle.grammar.specs.Pairs.{Stretch, stretch, side_of, Pair}
use Rattle.grammar.specs.Matching.{takes_action, takes_rule, takes_of, matched_action, matched_rule}
use Rattle.grammar.proofs.StandsLaws.{get_elem-stands}
use Rattle.goals.specs.Goals.{Goal, goal, Standing, stuck, standing, top_index, action_fits, stack_after, fits, replaced, turn_to, turn, goals_run, Tiled}
use Rattle.goals.specs.Shown.{indices_of, action_of}
use Rattle.layout.proofs.TestLaws.{both}
use Rattle.goals.proofs.GoalsTest.{no-depth, word_fits, pair_fits}
use Rattle.goals.proofs.GoalsTiled.{TiledAt, tiled-few, next-tiled}

-- A take waits where the action gives.
abbrev pub Waits : Action → List Stretch → Type 0
Waits (Take γ) ts = Unit {0}
Waits Keep ts = Unit {0}
Waits (Give γ) ts = 0 < length ts

pub data Paced (g : List Rule) : List PlanStep → Type 0 where
  paced_none : Paced g []
  paced : {st : PlanStep} {R : Rule} {plan : List PlanStep} → get_elem? g (production_in st) ≡ some R
      → length (takes_of g (st ∷ plan)) ≤ 24 → Waits (action_of R) (takes_of g plan) → Paced g plan → Paced g (st ∷ plan)

-- A rule's takes and pairs are its action's: a word keeps them.
pub takes-rule : (R : Rule) (st : PlanStep) (ts : List Stretch) → takes_rule (some R) st ts ≡ takes_action (action_of R) (side_of R st) ts
takes-rule (Lexical A w) st ts = refl
takes-rule (Spine A a before D after) st ts = refl

pub matched-rule : (R : Rule) (st : PlanStep) (ts : List Stretch) (xs : List Pair)
    → matched_rule (some R) st ts xs ≡ matched_action (action_of R) (side_of R st) ts xs
matched-rule (Lexical A w) st ts xs = refl
matched-rule (Spine A a before D after) st ts xs = refl

-- What an action does with the waiting takes is what it does, back, with the stack.
acts-count : (a : Action) (s below : List ℕ) (side : Stretch) (ts : List Stretch) → action_fits a (length s) (top_index s) ≡ true
    → length ts ≡ length (stack_after a s ++ below) → (length (takes_action a side ts) ≡ length (s ++ below)) × Waits a ts
acts-count (Take γ) [] below side ts e h = absurd (false≢true e)
acts-count (Take γ) (x ∷ s) below side ts e h = (ap suc h, tt)
acts-count Keep s below side ts e h = (h, tt)
acts-count (Give γ) s below side [] e h = absurd (omega arith)
acts-count (Give γ) s below side (t ∷ ts) e h = (omega arith, omega arith)

module _ (g : List Rule) (at : ℕ → ℕ → Bool) (one : OneSided g) (n : ℕ) (few : n ≤ 24) where
  record Pace (goals : List Goal) (plan : List PlanStep) : Type 0 where
    count : length (takes_of g plan) ≡ length (indices_of goals)
    each : Paced g plan

  abbrev PaceAt : Standing → List PlanStep → Type 0
  PaceAt stuck plan = ⊥
  PaceAt (standing i goals) plan = Pace goals plan

  -- One step, by its rule and the count of what follows it.
  pace-rule : {A j : ℕ} {st : PlanStep} (R : Rule) (s : List ℕ) {goals rest : List Goal} {plan : List PlanStep}
      → get_elem? g (production_in st) ≡ some R
      → length (takes_action (action_of R) (side_of R st) (takes_of g plan)) ≡ length (s ++ indices_of rest)
      → Waits (action_of R) (takes_of g plan) → length (s ++ indices_of rest) ≤ 24 → Pace goals plan
      → Pace (goal A s j ∷ rest) (st ∷ plan)
  pace-rule {st = st} R s {plan = plan} e h w l y =
      let c = ap (λ (o : Option Rule). length (takes_rule o st (takes_of g plan))) e ∙ (ap length (takes-rule R st (takes_of g plan)) ∙ h) in
      let b : length (takes_of g (st ∷ plan)) ≤ 24 = omega (arith, c) in
      record { count = c; each = paced e b w y.each }

  pace-step : {p j' : ℕ} (i k j A : ℕ) (s : List ℕ) (rest : List Goal) {plan : List PlanStep} {R : Rule} → OneSide R
      → get_elem? g p ≡ some R → fits R (at i) A (length s) (top_index s) i k j ≡ true → length (s ++ indices_of rest) ≤ 24
      → PaceAt (replaced R s i k j rest) plan → Pace (goal A s j ∷ rest) (plan_step p i k j' ∷ plan)
  pace-step i k j A s rest (is_word {A = A'} {w = w}) e f l y =
      let d = word_fits (at i) A' w A (length s) (top_index s) i k j f in
      let z : s ≡ [] = no-depth s d.1 in
      pace-rule (Lexical A' w) s e (y.count ∙ rw z) tt l y
  pace-step i k j A s rest {plan} (is_first {A = A'} {B = B} {D = D} {a = a}) e f l y =
      let d = pair_fits (at i) A' a (B ∷ []) D [] A (length s) (top_index s) i k j f in
      let c = acts-count a s (indices_of rest) (stretch i k) (takes_of g plan) d.3 y.count in
      pace-rule (Spine A' a (B ∷ []) D []) s e c.0 c.1 l y
  pace-step {j' = j'} i k j A s rest {plan} (is_last {A = A'} {B = B} {D = D} {a = a}) e f l y =
      let d = pair_fits (at i) A' a [] D (B ∷ []) A (length s) (top_index s) i k j f in
      let c = acts-count a s (indices_of rest) (stretch k j') (takes_of g plan) d.3 y.count in
      pace-rule (Spine A' a [] D (B ∷ [])) s e c.0 c.1 l y

  pace-turn : (o : Option Rule) (p i' k j' i : ℕ) (goals : List Goal) {plan : List PlanStep} → get_elem? g p ≡ o → Tiled i n goals
      → PaceAt (turn at o (plan_step p i' k j') i goals) plan → Pace goals (plan_step p i' k j' ∷ plan)
  pace-turn o p i' k j' i [] e t y = absurd y
  pace-turn none p i' k j' i (x ∷ rest) e t y = absurd y
  pace-turn (some R) p i' k j' i (goal A s j ∷ rest) {plan} e t y =
      go (eqb i' i && (eqb j' j && fits R (at i) A (length s) (top_index s) i k j)) refl y
    where
      go : (b : Bool) → eqb i' i && (eqb j' j && fits R (at i) A (length s) (top_index s) i k j) ≡ b
          → PaceAt (turn_to b (replaced R s i k j rest)) plan → Pace (goal A s j ∷ rest) (plan_step p i' k j' ∷ plan)
      go true d y =
          let (e₁, d₁) = both (eqb i' i) _ d in
          let (e₂, e₃) = both (eqb j' j) _ d₁ in
          rw (eqb-true i' i e₁)
          (pace-step i k j A s rest (one p R (get_elem-stands g p e)) e e₃ (omega (arith, tiled-few t)) y)
      go false d y = absurd y

  pace : (plan : List PlanStep) (S : Standing) → TiledAt n S → goals_run g at plan S ≡ true → PaceAt S plan
  pace [] stuck t e = false≢true e
  pace [] (standing i []) t e = record { count = refl; each = paced_none }
  pace [] (standing i (x ∷ rest)) t e = absurd (false≢true e)
  pace (st ∷ plan) stuck t e = pace plan stuck t e
  pace (plan_step p i' k j' ∷ plan) (standing i goals) t e =
      pace-turn (get_elem? g p) p i' k j' i goals refl t (pace plan _ (next-tiled g at (plan_step p i' k j') n (standing i goals) t) e)

  pub run-paced : (plan : List PlanStep) (i : ℕ) (goals : List Goal) → Tiled i n goals → goals_run g at plan (standing i goals) ≡ true
      → Paced g plan
  run-paced plan i goals t e = (pace plan (standing i goals) t e).each
