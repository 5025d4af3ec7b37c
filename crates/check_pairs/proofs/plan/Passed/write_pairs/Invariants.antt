use Rattle.check_pairs.proofs.MatchLaws.{Writing}
use Rattle.check_pairs.proofs.plan.Passed.write_pairs.Given as goal

abbrev pub invariant-loop-k : goal.invariant-loop-k
invariant-loop-k l = Writing l.self.card.bytes.now l.self.plan.now l.initial.room l.count l.k l.matching l.room
