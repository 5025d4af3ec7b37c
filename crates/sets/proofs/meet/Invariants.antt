use Rattle.sets.proofs.MeetLaws.{MetSoFar}
use Rattle.sets.proofs.meet.Given as goal

abbrev pub invariant-loop-k : goal.invariant-loop-k
invariant-loop-k l = MetSoFar l.initial.sets l.span.from l.span.to l.splits l.k-iterator.rest l.sets l.productions
