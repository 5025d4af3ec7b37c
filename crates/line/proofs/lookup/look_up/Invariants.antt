use Prim.Native.Nat.{◌-◌}
use Rattle.line.proofs.LookupLaws.{Gathered}
use Rattle.line.proofs.lookup.look_up.Given as goal

abbrev pub invariant-loop-at : goal.invariant-loop-at
invariant-loop-at l = Gathered l.card.bytes.now l.word l.to l.from l.set

abbrev pub decreases-loop-at : goal.decreases-loop-at
decreases-loop-at l = l.to - l.from
