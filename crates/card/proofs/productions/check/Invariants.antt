use Rattle.card.proofs.NameLaws.{Gathered}
use Rattle.card.proofs.productions.check.Given as goal

abbrev pub invariant-loop-m : goal.invariant-loop-m
invariant-loop-m l = Gathered l.view.bytes.now l.m l.names
