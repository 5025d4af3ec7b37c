-- Each way out is a law of Check's number: the refusal of the line, 34 where the replay says no, and 0 where it says yes.
use Rattle.std.proofs.lemmas.Result.{err_from_is_err_and}
use Rattle.check_pairs.proofs.CheckLaws.{check-refused, check-fails, check-passes}
use Rattle.check_pairs.proofs.check_line.Goals as goal

pub returns-in_err-words : goal.returns-in_err-words
returns-in_err-words c =
    let a = c.args in
    let (e, is, came) = err_from_is_err_and c.from_residual.result c.from_residual.ensures.1 in
    rw (is, came) (check-refused a.card.bytes.now a.line.now a.plan.now c.in_err-words.ensures)

pub returns-then-not-replay : goal.returns-then-not-replay
returns-then-not-replay c =
    let a = c.args in
    check-fails a.card.bytes.now a.line.now a.plan.now c.in_ok-words.ensures c.replay.ensures c.if-not-replay.true

pub returns : goal.returns
returns c =
    let a = c.args in
    check-passes a.card.bytes.now a.line.now a.plan.now c.in_ok-words.ensures c.replay.ensures c.if-not-replay.false
