use Rattle.std.proofs.Common.{arith, refl}
use Rattle.lines_text.proofs.Rows.{steps-short}
use Rattle.lines.proofs.AnswerLaws.{count-few, pairs-length}
use Rattle.lines.proofs.answer.put_plan.Goals as goal

-- There are at most 47 pairs.
pub put_pairs-requires : goal.put_pairs-requires
put_pairs-requires c =
    let p = c.pairs.ensures in
    let count = c.unwrap_or-count.ensures in
    omega (arith, steps-short c.args.plan.now, pairs-length p refl count, count-few p refl count)
