-- Document 02, Paper 5: the plan of a line is the first of all its plans. Plans are compared step by step from the left, by production
-- number and then by split. Equal productions of a grammar are told apart by their number.
use Rattle.std.specs.Prelude.{ℕ, ◌<◌, List}
use Rattle.grammar.specs.Lists.{NotAfter}
use Rattle.grammar.specs.Rewriting.{Rule}
use Rattle.grammar.specs.Plan.{PlanStep, plan_step, LeftmostDerivation}

-- A step before another: by a lower production, or by the same one and a lower split. (Where two plans of one line come to their first
-- difference, both replace the same nonterminal over the same stretch, so i and j have no say.)
pub data Before : PlanStep → PlanStep → Type 0 where
  lower_production : {p p' i i' k k' j j' : ℕ} → p < p' → Before (plan_step p i k j) (plan_step p' i' k' j')
  lower_split : {p i i' k k' j j' : ℕ} → k < k' → Before (plan_step p i k j) (plan_step p i' k' j')

-- The first plan of a line of n words: a leftmost derivation of it that is after no other.
pub record FirstPlan (g : List Rule) (at : ℕ → ℕ → Type 0) (n : ℕ) (plan : List PlanStep) : Type 0 where
  pub derives : LeftmostDerivation g at n plan
  pub first : (other : List PlanStep) → LeftmostDerivation g at n other → NotAfter Before plan other
