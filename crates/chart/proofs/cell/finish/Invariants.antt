use Rattle.chart.specs.Cell.{Finished}
use Rattle.chart.proofs.cell.finish.Given as goal

abbrev pub invariant-loop-m : goal.invariant-loop-m
invariant-loop-m l = Finished l.chart l.cell.base l.m l.initial.marks l.marks (record { from = l.cell.base; to = l.m; bare = l.bare })
