use Rattle.goals.proofs.ReplayLaws.{Replaying}
use Rattle.goals.proofs.replay.replay.Given as goal

abbrev pub invariant-loop-k : goal.invariant-loop-k
invariant-loop-k l = Replaying l.card.bytes.now l.places l.n l.plan l.goals l.k
