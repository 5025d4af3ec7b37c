-- `add_each` adds a record at each place of the range. The invariant: those of the places passed. The foot that a turn reads in the present
-- room is the one that stood there at the start, since adding keeps the records below the count.
use native.Mathlib.Omega.{arith}
use Rattle.steps.proofs.StepLaws.{loop-start, loop-next, loop-full, loop-done, turn-there, turn_small, turn-asks, turn-adds}
use Rattle.steps.proofs.each.add_each.Goals as goal

pub loop-position-init : goal.loop-position-init
loop-position-init g c = loop-start c.requires.works

pub foot_at-foot-requires : goal.foot_at-foot-requires
foot_at-foot-requires g c = turn-there c.requires c.loop-position.invariant c.loop-position-test.true

pub number_at-number-requires : goal.number_at-number-requires
number_at-number-requires g c = turn-there c.requires c.loop-position.invariant c.loop-position-test.true

pub overflow_cast-position : goal.overflow_cast-position
overflow_cast-position g c = omega (arith, turn_small c.requires c.loop-position.invariant c.loop-position-test.true)

pub add-requires : goal.add-requires
add-requires g c =
    turn-asks c.requires c.loop-position.invariant c.loop-position-test.true c.foot_at-foot.ensures c.number_at-number.ensures

-- The room is full: the records that are left change nothing.
pub returns-in_err-total : goal.returns-in_err-total
returns-in_err-total g c =
    rw c.from_residual.ensures (loop-full c.loop-position.invariant c.loop-position-test.true
    (turn-adds c.requires c.loop-position.invariant c.loop-position-test.true (g.R.Reach.origin_at c.args.reach) c.foot_at-foot.ensures c.origin-origin.ensures c.in_err-total.ensures))

pub loop-position-preserved : goal.loop-position-preserved
loop-position-preserved g c =
    loop-next c.loop-position.invariant c.loop-position-test.true
    (turn-adds c.requires c.loop-position.invariant c.loop-position-test.true (g.R.Reach.origin_at c.args.reach) c.foot_at-foot.ensures c.origin-origin.ensures c.in_ok-total.ensures)

pub returns : goal.returns
returns g c = loop-done c.loop-position.invariant c.loop-position-test.false
