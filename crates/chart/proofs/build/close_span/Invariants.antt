use mathlib.Core.Option.{some}
use Rattle.std.specs.Prelude.{Some}
use Rattle.chart_model.specs.Build.{fold_up}
use Rattle.records.specs.Room.{chart_in}
use Rattle.sets.specs.Places.{OnlySpans}
use Rattle.chart.specs.Fill.{FilledTo}
use Rattle.chart.proofs.FillSpans.{cell_turn}
use Rattle.chart.proofs.build.close_span.Given as goal

abbrev pub invariant-loop-a : goal.invariant-loop-a
invariant-loop-a l =
    FilledTo l.input.card.bytes.now l.sizes (fold_up (cell_turn l.input.card.bytes.now l.input.words.now.places l.sizes l.span) l.a (some (chart_in l.initial.chart l.count)))
    l.initial.chart l.chart l.marks l.cells l.sets (Some l.total)
    × OnlySpans l.initial.sets l.sets
