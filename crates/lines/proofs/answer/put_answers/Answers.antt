use Rattle.lines.proofs.LinesLaws.{none_yet, one_more}
use Rattle.lines.proofs.answer.put_answers.Goals as goal

pub loop-line-init : goal.loop-line-init
loop-line-init c = none_yet c.args.card.now c.args.lines.now c.args.out.now cc

pub loop-line-preserved : goal.loop-line-preserved
loop-line-preserved c = one_more c.loop-line.invariant c.in-Some.ensures.steps c.put_answer-size.ensures
