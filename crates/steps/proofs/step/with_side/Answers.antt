-- `with_side` adds what the action gives with the side's bare item, whose position the table has: there is at most one.
use mathlib.Core.Path.{◌≡◌, sym}
use Rattle.chart_model.specs.Build.{bare_places}
use Rattle.records.specs.Cells.{bare_in}
use Rattle.records.specs.Filling.{begun_with}
use Rattle.steps.proofs.StepLaws.{nothing-added, added-to-as}
use Rattle.steps.proofs.StepCandidates.{range-bares, element-span, no_bare, one-bare}
use Rattle.steps.proofs.StepCover.{advanced-kept, advanced-as}
use Rattle.steps.proofs.step.with_side.Goals.{After-range_of-range}
use Rattle.steps.proofs.step.with_side.Goals as goal

-- What was read from the table: the position of the side's bare item.
found : (c : After-range_of-range) → let side = c.args.met.side in
    bare_places (begun_with c.args.cell c.args.chart.now) side.symbol side.span.from side.span.to ≡ bare_in c.range_of-range.result.bare
found c =
    let a = c.args in
    range-bares a.chart.now a.cell.base c.requires.0.indexed (element-span a.cell a.met.side c.requires.1.side) c.number.ensures.at c.range_of-range.ensures

pub returns-in_default : goal.returns-in_default
returns-in_default c =
    let h = c.requires.0 in
    advanced-kept h
    (added-to-as (sym (no_bare _ (found (goal.at.returns-in_default c).After-range_of-range) c.in_default.is)) (nothing-added h.works))

pub returns : goal.returns
returns c =
    advanced-as (sym (one-bare _ (found (goal.at.returns c).After-range_of-range) c.in-Some.is)) c.by_action.ensures
