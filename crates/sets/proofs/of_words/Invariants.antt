use Rattle.sets.proofs.ClassLaws.{WordsSoFar}
use Rattle.sets.proofs.of_words.Given as goal

abbrev pub invariant-loop-w : goal.invariant-loop-w
invariant-loop-w l = WordsSoFar l.sets l.words l.w-iterator.rest l.productions
