-- The lines but those that are left are answered, in a text that leaves room for the next one's.
use Rattle.split.specs.Left.{lines_left}
use Rattle.lines.proofs.LinesLaws.{SoFar}
use Rattle.lines.proofs.answer.put_answers.Given as goal

abbrev pub invariant-loop-line : goal.invariant-loop-line
invariant-loop-line l = SoFar l.card l.lines l.initial.out l.out l.size (lines_left l.line-iterator)
