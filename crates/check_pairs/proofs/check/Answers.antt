-- A card's refusal comes first; an accepted card leaves it to the line and the plan.
use Rattle.std.proofs.lemmas.Result.{err_from_is_err_and}
use Rattle.check_pairs.proofs.CheckLaws.{check-card}
use Rattle.check_pairs.proofs.check.Goals as goal

pub returns-in_err-check : goal.returns-in_err-check
returns-in_err-check c =
    let a = c.args in
    let (e, is, came) = err_from_is_err_and c.from_residual.result c.from_residual.ensures.1 in
    rw (is, came) (check-card a.card.now a.line.now a.plan.now _ c.in_err-check.ensures.number)

pub returns : goal.returns
returns c = rw c.in_ok-check.ensures.same at c.check_line.ensures
