use Rattle.sets.proofs.MeetLaws.{ServedSoFar}
use Rattle.sets.proofs.splits_of.Given as goal

abbrev pub invariant-loop-k : goal.invariant-loop-k
invariant-loop-k l = ServedSoFar l.sets l.p l.like l.k-iterator.rest l.served
