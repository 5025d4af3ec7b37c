-- `read_lines` meets its contract: lines are read one after the other, with their records at the start of the room, until one fails or none
-- is left. The places go on longer than that.
use Rattle.std.proofs.Common.{rules, arith}
use mathlib.Core.Logic.{inl, inr}
use mathlib.Core.Path.{refl}
use Rattle.std.proofs.lemmas.Result.{err_from_is_err_and}
use Rattle.sheet.proofs.ReadingLaws.{none_yet, one_more, fails-placed, ok-number, at-end, line-fits, few-places, at-place}
use Rattle.sheet.proofs.read_lines.Goals as goal

pub loop-place-init : goal.loop-place-init
loop-place-init c =
    rw (c.into_iter-place-iterator.ensures.into_iter_gives, c.zip-place-items.ensures.first, c.zip-place-items.ensures.second)
    (search rules, none_yet c.args.card.bytes.now c.args.sheet.now c.args.chart.now c.args.records.now c.lines.ensures c.requires.1)

pub add_line-requires : goal.add_line-requires
add_line-requires c = line-fits c.loop-place.invariant.1 c.requires.0 c.in-Some.ensures.steps.1

pub returns-in_err-map_err : goal.returns-in_err-map_err
returns-in_err-map_err c =
    let (places, lines) = c.in-Some.ensures.steps in
    let (e, is, came) = err_from_is_err_and c.from_residual.result c.from_residual.ensures.1 in
    rw (is, came)
    (fails-placed (at-place c.loop-place.invariant.1 places.1.1) c.requires.0 lines c.add_line.ensures c.add_line.auto.chart _ refl c.in_err-map_err.ensures.cases (λ refusal says. search (rules, says)))

pub loop-place-preserved : goal.loop-place-preserved
loop-place-preserved c =
    let (places, lines) = c.in-Some.ensures.steps in
    let so_far = at-place c.loop-place.invariant.1 places.1.1 in
    let after =
    one_more so_far c.requires.0 lines c.add_line.ensures c.add_line.auto.chart (ok-number _ c.in_ok-map_err.ensures.variant) in
    (omega (arith, places.0, c.loop-place.invariant.0), at-place after (omega (arith, places)))

pub returns : goal.returns
returns c =
    let (end, so_far) = c.loop-place.invariant in
    elim c.in-None.ensures.steps [
      | inl (_, places) ↦ absurd (omega (arith, end, places.1.0, few-places so_far c.requires.0))
      | inr (_, lines) ↦ at-end so_far c.requires.0 lines.0
    ]
