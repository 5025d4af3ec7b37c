-- The numbers of a plan's steps: each production is one of the grammar's, and each stretch and its split lie within the line.
use Prim.Native.Nat.{ℕ, ◌≤◌, ◌<◌}
use native.Mathlib.Omega.{arith}
use mathlib.Core.List.{List, [], ◌∷◌, ◌++◌}
use lib.ListN.{length}
use Rattle.grammar.specs.Rewriting.{Rule, Symbol}
use Rattle.grammar.specs.Plan.{PlanStep, plan_step, Yields, nothing, reads, replaces}
use Rattle.grammar.proofs.RightSide.{replaces-below}
use Rattle.grammar.proofs.PlanSize.{yields-forward}

pub data StepsWithin (g : List Rule) (n : ℕ) : List PlanStep → Type 0 where
  no_step : StepsWithin g n []
  one_step : {p i k j : ℕ} {plan : List PlanStep} → (p < length g) × (i ≤ k) × (k ≤ j) × (j ≤ n) → StepsWithin g n plan
      → StepsWithin g n (plan_step p i k j ∷ plan)

within-append : {g : List Rule} {m n : ℕ} {ps qs : List PlanStep} → m ≤ n → StepsWithin g m ps → StepsWithin g n qs
    → StepsWithin g n (ps ++ qs)
within-append h no_step y = y
within-append h (one_step b x) y = one_step (b.0, b.1, b.2, omega (arith, b.3)) (within-append h x y)

-- By induction on the yield: a right side's elements stand one after the other, and what comes after them ends later.
pub yields_within : {g : List Rule} {at : ℕ → ℕ → Type 0} {f : List Symbol} {i j : ℕ} {plan : List PlanStep} → Yields g at f i j plan
    → StepsWithin g j plan
yields_within nothing = no_step
yields_within (reads a y) = yields_within y
yields_within {g} (replaces s y₀ y₁ y₂) =
    let l₀ = yields-forward y₀ in let l₁ = yields-forward y₁ in let l₂ = yields-forward y₂ in
    one_step (replaces-below g s, l₀, l₁, l₂)
    (within-append l₂ (within-append l₁ (yields_within y₀) (yields_within y₁)) (yields_within y₂))
