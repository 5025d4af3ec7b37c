use Rattle.line.specs.Slots.{Ranged}
use Rattle.line.proofs.slots.range_all.Given as goal

abbrev pub invariant-loop-v : goal.invariant-loop-v
invariant-loop-v l = Ranged l.card.bytes.now l.v l.slots
