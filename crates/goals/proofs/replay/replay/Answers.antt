-- The invariant: the struct shows where the model stands, and the bytes that are left pass from there exactly when all pass from the start.
-- Each need is a law of that invariant.
use native.Mathlib.Omega.{arith}
use mathlib.Core.Path.{◌∙◌}
use Rattle.layout.proofs.TestLaws.{same_answer, tests}
use Rattle.goals.proofs.ReplayLaws.{replay-ragged, replay-start, replay-within, replay-over, replay-stuck, replay-on}
use Rattle.goals.proofs.replay.replay.Goals as goal

pub returns-then-plan-ne0 : goal.returns-then-plan-ne0
returns-then-plan-ne0 c = let a = c.args in replay-ragged a.card.bytes.now a.places.now a.n a.plan.now c.if-plan-ne0.true

pub loop-k-init : goal.loop-k-init
loop-k-init c = let a = c.args in rw c.start-goals.ensures (replay-start a.card.bytes.now a.places.now a.n a.plan.now)

pub advance-requires : goal.advance-requires
advance-requires c =
    let a = c.args in
    let l = c.loop-k in
    replay-within a.card.bytes.now a.places.now a.n a.plan.now l.goals l.k l.invariant c.requires

pub returns-then-not-advance : goal.returns-then-not-advance
returns-then-not-advance c =
    let a = c.args in
    let l = c.loop-k in
    replay-stuck a.card.bytes.now a.places.now a.n a.plan.now l.goals l.k l.invariant c.step_at.result (omega arith) c.step_at.ensures
    c.advance.new.self (rw c.if-not-advance.true at c.advance.ensures)

pub loop-k-preserved : goal.loop-k-preserved
loop-k-preserved c =
    let a = c.args in
    let l = c.loop-k in
    replay-on a.card.bytes.now a.places.now a.n a.plan.now l.goals l.k l.invariant c.step_at.result (omega arith) c.step_at.ensures
    c.advance.new.self (rw c.if-not-advance.false at c.advance.ensures)

pub returns : goal.returns
returns c =
    let a = c.args in
    let l = c.loop-k in
    same_answer _ (omega (arith, tests)) (omega (arith, tests))
    ∙ replay-over a.card.bytes.now a.places.now a.n a.plan.now l.goals l.k l.invariant c.if-plan-ne0.false c.loop-k-test.false
