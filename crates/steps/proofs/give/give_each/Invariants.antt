use Rattle.steps.specs.Candidates.{gives}
use Rattle.steps.proofs.StepCover.{Advancing}
use Rattle.steps.proofs.give.give_each.Given as goal

abbrev pub invariant-loop-y : goal.invariant-loop-y
invariant-loop-y l =
    Advancing l.cell (gives l.cell l.side l.g) l.fn.range.from l.fn.range.to
    l.initial.chart l.initial.marks l.initial.cells l.count l.chart l.marks l.cells l.y l.total
