-- Each way out of Read is a law of Ends.antt, with the tests on the way as they were decided: a refusal, 32, 31, or what was found.
-- Accepting says what the line's words are, so the chart that was built is the line's.
use native.Mathlib.Omega.{arith}
use Rattle.std.proofs.lemmas.Result.{err_from_is_err_and}
use Rattle.reader.proofs.Ends.{ends-line, ends-short, ends-full, charted, ends_found}
use Rattle.reader.proofs.read.read_line.Goals as goal

pub returns-in_err-words : goal.returns-in_err-words
returns-in_err-words c =
    let a = c.args in
    let (e, is, came) = err_from_is_err_and c.from_residual.result c.from_residual.ensures.1 in
    rw (is, came) (ends-line a.card.bytes.now a.line.now a.chart.now a.plan.now c.in_err-words.ensures)

pub returns-then-plan-n : goal.returns-then-plan-n
returns-then-plan-n c =
    let a = c.args in
    ends-short a.card.bytes.now a.line.now a.chart.now a.plan.now c.in_ok-words.ensures (omega (arith, c.if-plan-n.true))

pub returns-in_err-items : goal.returns-in_err-items
returns-in_err-items c =
    let a = c.args in
    let full = c.in_err-items.ensures in
    let (e, is, came) = err_from_is_err_and c.from_residual-in_err-items.result c.from_residual-in_err-items.ensures.1 in
    rw (is, came)
    (ends-full a.card.bytes.now a.line.now a.chart.now a.plan.now c.in_ok-words.ensures _ (omega (arith, c.if-plan-n.false)) full.value full.ok_part
    c.build_chart.ensures)

pub plan_of-requires : goal.plan_of-requires
plan_of-requires c =
    let a = c.args in
    charted a.card.bytes.now a.line.now a.chart.now a.plan.now c.in_ok-words.ensures _ (omega (arith, c.if-plan-n.false)) _ (rw c.in_ok-items.ensures.ok_part at c.build_chart.ensures)

pub returns : goal.returns
returns c =
    let a = c.args in
    ends_found a.card.bytes.now a.line.now a.chart.now a.plan.now c.in_ok-words.ensures _ (omega (arith, c.if-plan-n.false)) _ (rw c.in_ok-items.ensures.ok_part at c.build_chart.ensures)
    c.plan_of.ensures
