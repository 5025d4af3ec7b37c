use Rattle.std.proofs.Common.{◌∙◌, ap, arith, get_or, length, length-append}
use Rattle.std.specs.Slice.Iter.{chunks_exact_rest}
use Rattle.lines_text.proofs.Appending.{going-turn}
use Rattle.lines_text.proofs.Rows.{steps-turn, step-short}
use Rattle.lines_text.proofs.text.put_steps.Goals as goal

pub loop-step-preserved : goal.loop-step-preserved
loop-step-preserved c =
    let l = c.loop-step.invariant in
    let step = c.in-Some.step.now in
    let rest = chunks_exact_rest c.next.new.self in
    let (same, (next, four), _) = c.in-Some.ensures.steps in
    let x = c.put_step-after.ensures in
    let most = step-short (get_or step 0 0) (get_or step 1 0) (get_or step 2 0) (get_or step 3 0) in (
      same ∙ l.0,
      omega (arith, x.size, x.same_length, l.1, ap length next, length-append step rest, most),
      going-turn l.2 (steps-turn step rest (four ∙ l.0) next) x,
    )
