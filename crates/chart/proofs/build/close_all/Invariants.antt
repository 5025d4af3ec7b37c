use mathlib.Core.Option.{some}
use mathlib.Core.List.{[]}
use Rattle.std.specs.Prelude.{Some}
use Rattle.layout.specs.Card.{grammar_of}
use Rattle.places.specs.Places.{word_test}
use Rattle.chart_model.specs.Build.{fold_up, close_end}
use Rattle.chart.specs.Fill.{FilledTo}
use Rattle.chart.proofs.build.close_all.Given as goal

abbrev pub invariant-loop-e : goal.invariant-loop-e
invariant-loop-e l =
    FilledTo l.input.card.bytes.now l.sizes (fold_up (close_end l.sizes.room (grammar_of l.input.card.bytes.now) (word_test l.input.words.now.places) l.sizes.symbols) l.e (some []))
    l.initial.chart l.chart l.marks l.cells l.sets (Some l.total)
