-- A step of a plan that passes has a production of the card's.
use native.Mathlib.Omega.{arith}
use Rattle.check_pairs.proofs.MatchLaws.{step-there}
use Rattle.check_pairs.proofs.plan.Passed.step_in.Goals as goal

pub production-production-requires : goal.production-production-requires
production-production-requires c =
    let a = c.args in
    omega (arith, step-there a.self.card.bytes.now a.self.plan.now a.self.checked a.k c.requires, c.from.ensures, c.step_at-step.ensures.number)
