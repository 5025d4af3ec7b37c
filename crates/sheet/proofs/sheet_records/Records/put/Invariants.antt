use lib.ListN.{length}
use Rattle.sheet.proofs.Placing.{Placing}
use Rattle.sheet.proofs.sheet_records.Records.put.Given as goal

abbrev pub invariant-loop-rest : goal.invariant-loop-rest
invariant-loop-rest l = Placing l.place l.pairs l.rest l.initial.self l.self

abbrev pub decreases-loop-rest : goal.decreases-loop-rest
decreases-loop-rest l = length l.rest
