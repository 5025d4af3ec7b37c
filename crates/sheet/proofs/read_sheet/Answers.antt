-- `read_sheet` meets its contract: each way out is a law of the promise. A sheet that is not refused before its lines has an accepted card
-- and at most 64 lines.
use native.Mathlib.Omega.{arith}
use mathlib.Core.Path.{◌≡◌, sym, ◌∙◌}
use Rattle.std.proofs.lemmas.Result.{err_from_is_err_and}
use Rattle.refusals.specs.declared.Refusal.TheVariants.{ManyLines}
use Rattle.refusals.proofs.NumberLaws.{numbered}
use Rattle.sheet.specs.Sheet.{sheet_number}
use Rattle.sheet.proofs.Outcome.{by-card, by_lines, by-none, refused-first, failed, all_read}
use Rattle.sheet.proofs.read_sheet.Goals.{Else-not-at_most}
use Rattle.sheet.proofs.read_sheet.Goals as goal

-- Past both tests nothing is refused before the lines.
none-refuse : (c : Else-not-at_most) → sheet_number c.args.card.now c.args.sheet.now ≡ 0
none-refuse c =
    let a = c.args in
    by-none a.card.now a.sheet.now (sym c.in_ok-card.ensures.number) (sym c.at_most.ensures ∙ c.if-not-at_most.false)

pub returns-in_err-card : goal.returns-in_err-card
returns-in_err-card c =
    let a = c.args in
    let number = c.in_err-card.ensures.number in
    let some = numbered c.in_err-card.field-0.0 in
    let (e, is, came) = err_from_is_err_and c.from_residual.result c.from_residual.ensures.1 in
    rw (is, came)
    (refused-first a.card.now a.sheet.now a.chart.now a.output.now _
    (number ∙ sym (by-card a.card.now a.sheet.now λ z. omega (arith, number, z, some.0))))

pub returns-then-not-at_most : goal.returns-then-not-at_most
returns-then-not-at_most c =
    let a = c.args in
    rw c.from.ensures
    (refused-first a.card.now a.sheet.now a.chart.now a.output.now ManyLines
    (sym (by_lines a.card.now a.sheet.now (sym c.in_ok-card.ensures.number) (sym c.at_most.ensures ∙ c.if-not-at_most.true))))

pub returns-in_err-read_lines : goal.returns-in_err-read_lines
returns-in_err-read_lines c =
    let a = c.args in
    let from = c.from_residual-in_err-read_lines in
    let (e, is, came) = err_from_is_err_and from.result from.ensures.1 in
    rw (is, came)
    (failed a.card.now a.sheet.now a.chart.now a.output.now (none-refuse (goal.at.returns-in_err-read_lines c).Else-not-at_most)
    (rw c.in_ok-card.ensures.same at c.in_err-read_lines.ensures))

pub returns : goal.returns
returns c =
    let a = c.args in
    all_read a.card.now a.sheet.now a.chart.now a.output.now (none-refuse (goal.at.returns c).Else-not-at_most)
    (rw c.in_ok-card.ensures.same at c.in_ok-read_lines.ensures) c.bytes.ensures c.hand_out.ensures
