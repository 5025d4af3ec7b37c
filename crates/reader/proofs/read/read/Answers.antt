-- A card's refusal comes first; an accepted card leaves it to the line.
use Rattle.std.proofs.lemmas.Result.{err_from_is_err_and}
use Rattle.reader.proofs.Ends.{ends-card}
use Rattle.reader.proofs.read.read.Goals as goal

pub returns-in_err-check : goal.returns-in_err-check
returns-in_err-check c =
    let a = c.args in
    let (e, is, came) = err_from_is_err_and c.from_residual.result c.from_residual.ensures.1 in
    rw (is, came) (ends-card a.card.now a.line.now a.chart.now a.plan.now _ c.in_err-check.ensures.number)
