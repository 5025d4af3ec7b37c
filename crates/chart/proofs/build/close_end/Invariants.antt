use Prim.Native.Nat.{◌-◌}
use mathlib.Core.Option.{some}
use Rattle.std.specs.Prelude.{Some}
use Rattle.layout.specs.Card.{grammar_of}
use Rattle.places.specs.Places.{word_test}
use Rattle.chart_model.specs.Build.{fold_up, close_back}
use Rattle.records.specs.Room.{chart_in}
use Rattle.chart.specs.Fill.{FilledTo}
use Rattle.chart.proofs.build.close_end.Given as goal

abbrev pub invariant-loop-i : goal.invariant-loop-i
invariant-loop-i l =
    FilledTo l.input.card.bytes.now l.sizes
    (fold_up (close_back l.sizes.room (grammar_of l.input.card.bytes.now) (word_test l.input.words.now.places) l.sizes.symbols l.e) (l.e - l.i) (some (chart_in l.initial.chart l.count)))
    l.initial.chart l.chart l.marks l.cells l.sets (Some l.total)
