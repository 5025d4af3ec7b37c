-- Some list of words that can stand at the places of a line has a derivation exactly when the item of the start over all places is
-- derived: rewriting to such a list gives a yield, a yield a bare item, and back, where the list is what the yield reads.
use Prim.Native.Nat.{ℕ}
use mathlib.Core.List.{List, []}
use Rattle.grammar.specs.Rewriting.{Rule, Derivation}
use Rattle.grammar.specs.Input.{WordsAt}
use Rattle.grammar.specs.Items.{bare, Derived}
use Rattle.grammar.specs.Plan.{PlanStep, LeftmostDerivation}
use Rattle.grammar.proofs.Deduction.{sound, complete, empty}
use Rattle.grammar.proofs.RewritingYields.{words-yield, steps-yield}
use Rattle.grammar.proofs.Leftmost.{plan-rewrites, leftmost-is-steps}

module _ (g : List Rule) (at : ℕ → ℕ → Type 0) (n : ℕ) where
  -- A list of words at the n places, and a derivation of it.
  pub record Derivable : Type 0 where
    pub words : List ℕ
    pub stand : WordsAt at 0 words n
    pub derivation : Derivation g words

  pub plan-derivable : {plan : List PlanStep} → LeftmostDerivation g at n plan → Derivable
  plan-derivable y = let (words, stand, steps) = plan-rewrites g at y in
      record { words = words; stand = stand; derivation = leftmost-is-steps g steps }

  pub derivable-plan : Derivable → (plan : List PlanStep) × LeftmostDerivation g at n plan
  derivable-plan d = steps-yield g at d.derivation ([], words-yield g at d.stand)

  pub derivable-item : Derivable → Derived g at 0 0 n bare
  derivable-item d = complete g at (derivable-plan d)

  pub item-plan : Derived g at 0 0 n bare → (plan : List PlanStep) × LeftmostDerivation g at n plan
  item-plan d = sound g at d empty

  pub item-derivable : Derived g at 0 0 n bare → Derivable
  item-derivable d = plan-derivable (item-plan d).1
