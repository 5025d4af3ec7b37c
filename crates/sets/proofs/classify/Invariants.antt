use Rattle.sets.specs.Places.{OnlyClasses}
use Rattle.sets.specs.Classes.{Classified}
use Rattle.sets.proofs.CardRules.{first_rules}
use Rattle.sets.proofs.classify.Given as goal

abbrev pub invariant-loop-p : goal.invariant-loop-p
invariant-loop-p l = OnlyClasses l.initial.sets l.sets × Classified (first_rules l.card.bytes.now l.p) l.sets
