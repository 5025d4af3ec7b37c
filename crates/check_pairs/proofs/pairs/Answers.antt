-- Check's refusals come first; a plan that passes has its pairs written.
use mathlib.Core.Path.{sym}
use Rattle.std.proofs.lemmas.Result.{err_from_is_err_and}
use Rattle.check_pairs.proofs.CheckLaws.{check-card, pairs-refused, pairs-passed}
use Rattle.check_pairs.proofs.pairs.Goals as goal

pub returns-in_err-accepted : goal.returns-in_err-accepted
returns-in_err-accepted c =
    let a = c.args in
    let (e, is, came) = err_from_is_err_and c.from_residual.result c.from_residual.ensures.1 in
    rw (is, came)
    (pairs-refused a.card.now a.line.now a.plan.now a.room.now _ (check-card a.card.now a.line.now a.plan.now _ c.in_err-accepted.ensures.number))

pub returns-in_err-check_line : goal.returns-in_err-check_line
returns-in_err-check_line c =
    let a = c.args in
    let (e, is, came) = err_from_is_err_and c.from_residual-in_err-check_line.result c.from_residual-in_err-check_line.ensures.1 in
    rw (is, came)
    (pairs-refused a.card.now a.line.now a.plan.now a.room.now _ (rw c.in_ok-accepted.ensures.same at c.in_err-check_line.ensures))

pub invariant_of-passed : goal.invariant_of-passed
invariant_of-passed c = record { checked = ∣ (c.args.line.now, sym c.in_ok-check_line.ensures) ∣₁ }

pub returns : goal.returns
returns c =
    let a = c.args in
    let same = c.in_ok-accepted.ensures.same in
    pairs-passed a.card.now a.line.now a.plan.now a.room.now (sym (rw same at c.in_ok-check_line.ensures)) (rw same at c.pairs_of.ensures)
