-- The invariant: the takes that wait and the pairs that are written are those of the rest of the plan, from the step that the loop met last.
-- Each need is a law of that invariant.
use Prim.Native.Nat.{◌-◌}
use native.Mathlib.Omega.{arith}
use mathlib.Core.Path.{◌≡◌}
use Rattle.check_pairs.proofs.MatchLaws.{writing_start, writing-end, writing-room, writing-turn}
use Rattle.check_pairs.proofs.plan.Passed.write_pairs.Goals as goal

pub loop-k-init : goal.loop-k-init
loop-k-init c =
    let a = c.args in
    rw c.start-matching.ensures (writing_start a.self.card.bytes.now a.self.plan.now a.self.checked a.room.now a.count c.requires.enough)

pub meet-requires : goal.meet-requires
meet-requires c =
    let a = c.args in
    let l = c.loop-k in
    writing-room a.self.card.bytes.now a.self.plan.now a.self.checked a.room.now a.count c.requires.counted (l.k - 1) l.k (omega arith) (omega arith)
    l.matching l.room l.invariant c.step_in-action.ensures

pub loop-k-preserved : goal.loop-k-preserved
loop-k-preserved c =
    let a = c.args in
    let l = c.loop-k in
    rw (c.meet.ensures.0, c.meet.ensures.1)
    (writing-turn a.self.card.bytes.now a.self.plan.now a.self.checked a.room.now a.count c.requires.counted (l.k - 1) l.k (omega arith) (omega arith)
    l.matching l.room l.invariant c.step_in-action.ensures)

pub returns : goal.returns
returns c =
    let a = c.args in
    let l = c.loop-k in
    let z : l.k ≡ 0 = omega arith in
    writing-end a.self.card.bytes.now a.self.plan.now a.self.checked a.room.now a.count c.requires.counted l.matching l.room (rw z at l.invariant)
