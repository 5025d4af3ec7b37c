use Prim.Native.Nat.{◌-◌}
use Rattle.line.proofs.LookupLaws.{Looking, Comparing}
use Rattle.line.proofs.lookup.next_equal.Given as goal

abbrev pub invariant-loop-i : goal.invariant-loop-i
invariant-loop-i l = Comparing l.card.bytes.now l.word l.here l.i

abbrev pub invariant-entry : goal.invariant-entry
invariant-entry l = Looking l.card.bytes.now l.word l.from l.to l.next

abbrev pub decreases-entry : goal.decreases-entry
decreases-entry l = l.to - l.next
