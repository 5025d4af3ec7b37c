use Rattle.records.specs.Filling.{begun_with}
use Rattle.steps.specs.Candidates.{reached}
use Rattle.steps.proofs.StepLaws.{Looped}
use Rattle.steps.proofs.each.add_each.Given as goal

abbrev pub invariant-loop-position : goal.invariant-loop-position
invariant-loop-position g l =
    Looped l.cell.words l.cell.symbols l.cell.room l.cell.left l.cell.from l.cell.to
    (reached l.cell (g.R.Reach.origin_at l.reach) (begun_with l.cell l.initial.chart))
    l.fn.range.from l.fn.range.to l.initial.chart l.initial.marks l.fn.count l.chart l.marks l.position l.total
