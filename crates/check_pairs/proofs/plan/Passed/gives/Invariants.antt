use Prim.Native.Nat.{◌+◌, ◌≤◌}
use mathlib.Core.Path.{◌≡◌}
use lib.ListN.{length}
use Rattle.check_pairs.proofs.MatchLaws.{pairs_from}
use Rattle.check_pairs.proofs.plan.Passed.gives.Given as goal

abbrev pub invariant-loop-k : goal.invariant-loop-k
invariant-loop-k l = (l.count ≤ l.k) × (l.count + length (pairs_from l.self.card.bytes.now l.self.plan.now l.k) ≡ length (pairs_from l.self.card.bytes.now l.self.plan.now 0))
