-- The room is short for what was counted; where it is not, what is counted is what is written.
use native.Mathlib.Omega.{arith}
use Rattle.check_pairs.proofs.CheckLaws.{pairs-short, pairs-written}
use Rattle.check_pairs.proofs.plan.Passed.pairs_of.Goals as goal

pub returns-then-room-count : goal.returns-then-room-count
returns-then-room-count c =
    let a = c.args in
    pairs-short a.self.card.bytes.now a.self.plan.now a.room.now c.gives-count.result c.gives-count.ensures.pairs (omega (arith, c.if-room-count.true))

pub returns : goal.returns
returns c =
    let a = c.args in
    let gives = c.gives-count in
    pairs-written a.self.card.bytes.now a.self.plan.now a.room.now gives.result gives.ensures.pairs _ (omega (arith, c.if-room-count.false))
    c.write_pairs.ensures
