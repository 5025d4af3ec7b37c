-- `give_each` adds the records of a give. The invariant: those of the dependents passed, and a table that is right. What a turn makes from
-- the records below the base, as they stand in the present room, is what they gave at the start.
use native.Mathlib.Omega.{arith}
use Rattle.steps.proofs.StepCover.{advance-start, advance-filling, advance-turn, advance-over, advance-end}
use Rattle.steps.proofs.give.give_each.Goals as goal

pub loop-y-init : goal.loop-y-init
loop-y-init c = advance-start c.requires.0

pub give_one-requires : goal.give_one-requires
give_one-requires c =
    let q = c.requires in
    (advance-filling c.loop-y.invariant q.0, omega (arith, c.loop-y-test.true, q.1), q.2)

-- The room is full: the records that are left change nothing.
pub returns-in_err-total : goal.returns-in_err-total
returns-in_err-total c =
    rw c.from_residual.ensures (advance-over c.loop-y.invariant c.requires.0 c.loop-y-test.true c.in_err-total.ensures)

pub loop-y-preserved : goal.loop-y-preserved
loop-y-preserved c = advance-turn c.loop-y.invariant c.requires.0 c.loop-y-test.true c.in_ok-total.ensures

pub returns : goal.returns
returns c = advance-end c.loop-y.invariant c.loop-y-test.false
