-- What holds of every plan that passes Check, and of the goals while it is replayed. From Check's theorems, the pairs' and the tiling:
-- a step keeps the goals tiled, so they are tiled after any number of steps.
use Prim.Native.Nat.{ℕ, ◌*◌, ◌≤◌, ◌<◌}
use native.Mathlib.Omega.{arith}
use mathlib.Core.Path.{◌≡◌, ◌∙◌, ap}
use mathlib.Core.Bool.{Bool}
use mathlib.Core.List.{List, [], ◌∷◌}
use mathlib.Core.Option.{some}
use lib.ListN.{length}
use Rattle.grammar.specs.Rewriting.{Rule}
use Rattle.grammar.specs.Plan.{PlanStep}
use Rattle.grammar.specs.Matching.{give_steps, take_steps}
use Rattle.grammar.proofs.PairsLaws.{gives-count, takes_gives}
use Rattle.layout.specs.Card.{grammar_of}
use Rattle.layout.specs.Steps.{plan_bytes, steps_of, plan_steps, plan_room}
use Rattle.layout.specs.Answers.{words_in, Derives, check_number, plan_pairs, HasDerivation}
use Rattle.layout.proofs.Checking.{check_sound, steps-bytes, derives-length, derives-derivation}
use Rattle.goals.specs.Goals.{Goal, Standing, next, goals_start, Tiled}
use Rattle.goals.specs.Shown.{indices_of}
use Rattle.goals.proofs.GoalsTiled.{TiledAt, tiled-start, tiled-few, next-tiled}
use Rattle.layout.proofs.Lengths.{plan-bytes-length}

module _ (card line bytes : List ℕ) (passes : check_number card line bytes ≡ 0) where
  -- It is the bytes of 2n − 1 steps, four bytes each, of a leftmost derivation.
  pub passing-steps : (plan : List PlanStep) × (bytes ≡ plan_bytes plan) × (length plan ≡ plan_steps (words_in line)) × Derives card line plan
  passing-steps = let (e, plan, b, d) = check_sound card line bytes passes in (plan, b, derives-length card line d, d)

  pub passing-bytes : length bytes ≡ plan_room (words_in line)
  passing-bytes =
      let (plan, b, l, d) = passing-steps in ap length b ∙ (plan-bytes-length plan ∙ ap (λ (n : ℕ). 4 * n) l)

  -- The line has a rewriting derivation.
  pub passing-derivation : HasDerivation card line
  passing-derivation = let (plan, b, l, d) = passing-steps in derives-derivation card line d

  -- Each index that is given is taken once: there are as many takes as gives, and a pair for each.
  pub passing-pairs : (plan : List PlanStep) × (steps_of bytes ≡ some plan)
      × (take_steps (grammar_of card) plan ≡ give_steps (grammar_of card) plan)
      × (length (plan_pairs card (steps_of bytes)) ≡ give_steps (grammar_of card) plan)
  passing-pairs =
      let (plan, b, l, d) = passing-steps in
      let e = ap steps_of b ∙ steps-bytes plan in
      (plan, e, takes_gives d, ap (λ o. length (plan_pairs card o)) e ∙ gives-count d)

-- Equal plans have equal pairs.
pub equal-pairs : (card : List ℕ) {plan plan' : List ℕ} → plan ≡ plan' → plan_pairs card (steps_of plan) ≡ plan_pairs card (steps_of plan')
equal-pairs card e = ap (λ (bytes : List ℕ). plan_pairs card (steps_of bytes)) e

-- The goals after any steps.
abbrev pub goals_after : List Rule → (ℕ → ℕ → Bool) → List PlanStep → Standing → Standing
goals_after g at [] S = S
goals_after g at (st ∷ plan) S = goals_after g at plan (next g at st S)

after-tiled : (g : List Rule) (at : ℕ → ℕ → Bool) (n : ℕ) (plan : List PlanStep) (S : Standing) → TiledAt n S
    → TiledAt n (goals_after g at plan S)
after-tiled g at n [] S t = t
after-tiled g at n (st ∷ plan) S t = after-tiled g at n plan (next g at st S) (next-tiled g at st n S t)

-- They tile the line from the present place to n: so there are at most n, and their stacks together hold fewer than n indices.
pub goals-tiled : (g : List Rule) (at : ℕ → ℕ → Bool) (n : ℕ) → 0 < n → (plan : List PlanStep) → TiledAt n (goals_after g at plan (goals_start n))
goals-tiled g at n h plan = after-tiled g at n plan (goals_start n) (tiled-start n h)

pub goals-few : {i n : ℕ} {goals : List Goal} → Tiled i n goals → length goals ≤ n
goals-few t = omega (arith, tiled-few t)

pub indices-few : {i n : ℕ} (goals : List Goal) → 0 < n → Tiled i n goals → length (indices_of goals) < n
indices-few [] h t = h
indices-few (x ∷ goals) h t = omega (arith, tiled-few t)
