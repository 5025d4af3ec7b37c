-- A card's refusal comes first.
use Rattle.std.proofs.lemmas.Result.{err_from_is_err_and}
use Rattle.line.proofs.RefusalLaws.{refuses-card}
use Rattle.line.proofs.accept.Goals as goal

pub returns-in_err-check : goal.returns-in_err-check
returns-in_err-check c =
    let (e, is, came) = err_from_is_err_and c.from_residual.result c.from_residual.ensures.1 in
    rw (is, came) (refuses-card c.in_err-check.ensures.number)
