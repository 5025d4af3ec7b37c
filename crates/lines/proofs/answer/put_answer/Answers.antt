use Rattle.std.proofs.Common.{arith, refl}
use Rattle.lines_text.proofs.Rows.{read_short}
use Rattle.lines.proofs.AnswerLaws.{plan-length, steps-few, read_answer_lem}
use Rattle.lines.proofs.answer.put_answer.Goals as goal

pub overflow_mul-plan : goal.overflow_mul-plan
overflow_mul-plan c = record { fits = omega (arith, steps-few c.in-Ok.ensures c.in-Some.is refl refl) }

pub slice_bounds-put_plan-end : goal.slice_bounds-put_plan-end
slice_bounds-put_plan-end c = plan-length c.in-Ok.ensures c.in-Some.is

pub put_plan-requires : goal.put_plan-requires
put_plan-requires c =
    let x = c.in-Ok.ensures in
    let r = c.in-Ok.reading in (
      omega (arith, read_short r.words r.items),
      omega (arith, plan-length x c.in-Some.is, steps-few x c.in-Some.is refl refl),
    )

-- A reading: its counts, and then the plan that stands in the room.
pub returns : goal.returns
returns c =
    read_answer_lem c.in-Ok.ensures c.in-Some.is refl refl c.put_read-after.ensures c.put_plan.ensures
