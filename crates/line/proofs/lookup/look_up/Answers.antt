-- At the loop, the equal entries below `from` are in the set; each turn takes the next one, and goes on after it. No equal entry stands
-- outside the range of the word's slot.
use Rattle.line.proofs.LookupLaws.{Inside, slot-inside, gathered_none, gathered-all, gathered-on, gathered-more}
use Rattle.line.proofs.lookup.look_up.Goals.{After-from-from}
use Rattle.line.proofs.lookup.look_up.Goals as goal

-- The range of the word's slot.
inside : (c : After-from-from)
    → let a = c.args in
    Inside a.card.bytes.now a.word.now c.from-from.result c.from-to.result
inside c = slot-inside c.args.word.now c.requires.0 c.slot_of.ensures.0 c.from-from.ensures c.from-to.ensures

pub loop-at-init : goal.loop-at-init
loop-at-init c = gathered_none (inside c)

pub loop-at-preserved : goal.loop-at-preserved
loop-at-preserved c = rw c.with-set.ensures (gathered-more c.loop-at.invariant c.in-Some.ensures.equal c.in-Some.ensures.before)

pub returns : goal.returns
returns c = gathered-all (inside (goal.at.returns c).After-from-from) (gathered-on c.loop-at.invariant c.in_default.ensures.equal)
