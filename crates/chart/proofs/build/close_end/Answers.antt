-- `build::close_end` meets its contract. The loop's invariant: the spans from past i on are closed as the model's fold closes them.
-- Each span is still without records when its turn comes.
use Prim.Native.Nat.{ℕ, suc, ◌+◌, ◌-◌}
use native.Mathlib.Omega.{arith}
use mathlib.Core.Option.{Option, some}
use mathlib.Core.List.{List}
use mathlib.Core.Path.{◌≡◌, refl, sym, subst}
use Rattle.std.specs.Prelude.{Option as Answer}
use Rattle.grammar.specs.Chart.{Record}
use Rattle.layout.specs.Card.{grammar_of}
use Rattle.places.specs.Places.{word_test}
use Rattle.chart_model.specs.Build.{fold_up, close_back}
use Rattle.chart_model.proofs.FillModel.{span_none}
use Rattle.records.specs.Room.{chart_in}
use Rattle.chart.specs.Fill.{FilledTo}
use Rattle.chart.proofs.FillFolds.{filled_none, fresh-span, span-turn, span-grows, fold-then, fold_over, fold_at}
use Rattle.chart.proofs.build.close_end.Goals.{After-close_span}
use Rattle.chart.proofs.build.close_end.Goals as goal

-- One span more, or an item that did not fit.
module _ (c : After-close_span) where
  abbrev turn : ℕ → Option (List Record) → Option (List Record)
  turn = close_back c.args.sizes.room (grammar_of c.args.input.card.bytes.now) (word_test c.args.input.words.now.places) c.args.sizes.symbols c.args.e

  abbrev before : Option (List Record)
  before = some (chart_in c.args.chart.now c.args.count)

  abbrev So : ℕ → Answer ℕ → Type 0
  So m after = FilledTo c.args.input.card.bytes.now c.args.sizes (fold_up turn m before) c.args.chart.now c.close_span.new.chart
      c.close_span.new.marks c.close_span.new.cells c.close_span.new.sets after

  filled : So (c.args.e - c.loop-i.i + 1) c.close_span.result
  filled =
      let a = c.args in
      let l = c.loop-i in
      fold-then turn (a.e - l.i) before l.invariant
      (span-grows a.sizes.room (grammar_of a.input.card.bytes.now) (word_test a.input.words.now.places) a.sizes.symbols a.e)
      (span-turn (word_test a.input.words.now.places) a.e l.i l.total (omega arith) c.close_span.ensures)

  -- The next is the span from i - 1, or none is left.
  next : {after : Answer ℕ} (m : ℕ) → m ≡ c.args.e - c.loop-i.i + 1 → c.close_span.result ≡ after → So m after
  next m e is = subst (So m) is (fold_at turn (c.args.e - c.loop-i.i + 1) m before (sym e) filled)

pub loop-i-init : goal.loop-i-init
loop-i-init c = let none : c.args.e - c.args.e ≡ 0 = omega arith in filled_none c.requires.0.between (rw none refl)

pub close_span-requires : goal.close_span-requires
close_span-requires c =
    let p = c.requires in
    let a = c.args in
    let l = c.loop-i in (
      record { names = p.0.names; between = l.invariant.ready },
      refl,
      λ A. fresh-span (chart_in a.chart.now a.count) a.sizes.room (grammar_of a.input.card.bytes.now) (word_test a.input.words.now.places)
          a.sizes.symbols a.e l.i A (omega arith) p.2 (sym l.invariant.model),
    )

pub returns-in_err-total : goal.returns-in_err-total
returns-in_err-total c =
    let k = (goal.at.returns-in_err-total c).After-close_span in
    let a = c.args in
    rw c.from_residual.ensures
    (fold_over (turn k) (a.e - c.loop-i.i) (suc a.e) (before k)
    (λ m. span_none a.sizes.room (grammar_of a.input.card.bytes.now) (word_test a.input.words.now.places) a.sizes.symbols (suc m) (a.e - m))
    (subst (So k (a.e - c.loop-i.i + 1)) c.in_err-total.was (filled k)) (omega arith))

pub loop-i-preserved : goal.loop-i-preserved
loop-i-preserved c =
    next (goal.at.loop-i-preserved c).After-close_span (c.args.e - (c.loop-i.i - 1)) (omega arith) c.in_ok-total.was

pub returns-in_ok-total : goal.returns-in_ok-total
returns-in_ok-total c = next (goal.at.returns-in_ok-total c).After-close_span (suc c.args.e) (omega arith) c.in_ok-total.was
