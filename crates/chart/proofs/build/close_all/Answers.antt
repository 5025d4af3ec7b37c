-- `build::close_all` meets its contract. The loop's invariant: the spans that end at e or before are closed as the model's fold closes them.
-- The spans of the next end are still without records.
use Prim.Native.Nat.{ℕ, ◌+◌}
use native.Mathlib.Omega.{arith}
use mathlib.Core.Option.{Option, some}
use mathlib.Core.List.{List, []}
use mathlib.Core.Path.{refl, sym, subst}
use Rattle.std.specs.Prelude.{Option as Answer, None}
use Rattle.grammar.specs.Chart.{Record}
use Rattle.layout.specs.Card.{grammar_of}
use Rattle.places.specs.Places.{word_test}
use Rattle.chart_model.specs.Build.{fold_up, close_end}
use Rattle.chart_model.proofs.FillModel.{end_none}
use Rattle.chart.specs.Fill.{FilledTo}
use Rattle.chart.proofs.FillFolds.{filled_none, fresh-end, end-grows, fold-then, fold_over, fold_at, closed_all}
use Rattle.chart.proofs.build.close_all.Goals.{After-close_end}
use Rattle.chart.proofs.build.close_all.Goals as goal

-- One end more, or an item that did not fit.
module _ (c : After-close_end) where
  abbrev turn : ℕ → Option (List Record) → Option (List Record)
  turn = close_end c.args.sizes.room (grammar_of c.args.input.card.bytes.now) (word_test c.args.input.words.now.places) c.args.sizes.symbols

  abbrev So : ℕ → Answer ℕ → Type 0
  So m after = FilledTo c.args.input.card.bytes.now c.args.sizes (fold_up turn m (some [])) c.args.chart.now c.close_end.new.chart
      c.close_end.new.marks c.close_end.new.cells c.close_end.new.sets after

  filled : So (c.loop-e.e + 1) c.close_end.result
  filled =
      let a = c.args in
      fold-then turn c.loop-e.e (some []) c.loop-e.invariant
      (end-grows a.sizes.room (grammar_of a.input.card.bytes.now) (word_test a.input.words.now.places) a.sizes.symbols) c.close_end.ensures

pub loop-e-init : goal.loop-e-init
loop-e-init c = filled_none c.requires.between refl

pub close_end-requires : goal.close_end-requires
close_end-requires c =
    let l = c.loop-e in
    let a = c.args in (
      record { names = c.requires.names; between = l.invariant.ready },
      omega arith,
      λ A i. fresh-end a.sizes.room (grammar_of a.input.card.bytes.now) (word_test a.input.words.now.places) a.sizes.symbols l.e A i (sym l.invariant.model),
    )

pub returns-in_err-total : goal.returns-in_err-total
returns-in_err-total c =
    let k = (goal.at.returns-in_err-total c).After-close_end in
    let a = c.args in
    rw c.from_residual.ensures
    (closed_all None
    (fold_over (turn k) c.loop-e.e a.sizes.words (some [])
    (end_none a.sizes.room (grammar_of a.input.card.bytes.now) (word_test a.input.words.now.places) a.sizes.symbols)
    (subst (So k (c.loop-e.e + 1)) c.in_err-total.was (filled k)) (omega arith)))

pub loop-e-preserved : goal.loop-e-preserved
loop-e-preserved c =
    let k = (goal.at.loop-e-preserved c).After-close_end in
    subst (So k (c.loop-e.e + 1)) c.in_ok-total.was (filled k)

pub returns : goal.returns
returns c =
    let a = c.args in
    let l = c.loop-e in
    closed_all _
    (fold_at (close_end a.sizes.room (grammar_of a.input.card.bytes.now) (word_test a.input.words.now.places) a.sizes.symbols) l.e a.sizes.words (some [])
    (omega arith) l.invariant)
