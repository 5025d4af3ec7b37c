-- `build::close_span` meets its contract. The loop's invariant: the cells of the nonterminals below a are filled as the model's fold fills
-- them, and what meets at the splits is still noted. The nonterminals that are passed over have no candidates.
use Prim.Native.Nat.{ℕ, ◌+◌, ◌-◌}
use native.Mathlib.Omega.{arith}
use mathlib.Core.Option.{Option, some}
use mathlib.Core.List.{List}
use mathlib.Core.Path.{refl, sym, ◌∙◌, subst}
use Rattle.std.specs.Prelude.{Option as Answer}
use Rattle.grammar.specs.Chart.{Record}
use Rattle.layout.specs.Card.{grammar_of}
use Rattle.places.specs.Places.{word_test}
use Rattle.chart_model.specs.Build.{fold_up}
use Rattle.records.specs.Room.{chart_in}
use Rattle.chart.specs.Fill.{Ready, FilledTo}
use Rattle.chart.proofs.FillFolds.{filled_none, cell-grows, fold-then, fold_over, fold_at}
use Rattle.chart.proofs.FillSpans.{between-meeting, idle-span, cell_turn, span-skip, turn-fillable, turn-filled}
use Rattle.chart.proofs.build.close_span.Goals.{After-span_set-set, After-fill_cell}
use Rattle.chart.proofs.build.close_span.Goals as goal

-- Once the span's set is found.
ready : (c : After-span_set-set) → Ready c.args.input.card.bytes.now c.args.sizes c.args.chart.now c.args.marks.now c.args.cells.now c.span_set-set.new.sets c.args.count
ready c =
    let r = c.requires.0 in
    record { names = r.names; between = between-meeting r.between c.span_set-set.ensures.1 }

-- One cell more, or an item that did not fit.
module _ (c : After-fill_cell) where
  abbrev turn : ℕ → Option (List Record) → Option (List Record)
  turn = cell_turn c.args.input.card.bytes.now c.args.input.words.now.places c.args.sizes c.args.span

  abbrev before : Option (List Record)
  before = some (chart_in c.args.chart.now c.args.count)

  abbrev So : ℕ → Answer ℕ → Type 0
  So m after = FilledTo c.args.input.card.bytes.now c.args.sizes (fold_up turn m before) c.args.chart.now c.fill_cell.new.chart c.fill_cell.new.marks
      c.fill_cell.new.cells c.fill_cell.new.sets after

  filled : So (c.loop-a.a + 1) c.fill_cell.result
  filled =
      let a = c.args in
      fold-then turn c.loop-a.a before c.loop-a.invariant.0
      (cell-grows a.sizes.room (grammar_of a.input.card.bytes.now) (word_test a.input.words.now.places) (a.span.to - a.span.from) a.span.from)
      (turn-filled c.open_cell-cell.ensures a.input.card.bytes.now a.input.words.now.places c.fill_cell.ensures.0)

pub span_set-set-requires : goal.span_set-set-requires
span_set-set-requires c = rw c.requires.1 c.requires.0.between.sorted.rows

pub returns-then-set-eq0 : goal.returns-then-set-eq0
returns-then-set-eq0 c =
    let b = (ready (goal.at.returns-then-set-eq0 c).After-span_set-set).between in
    filled_none b (sym (idle-span c.args.sizes.room b c.span_set-set.ensures.0 c.args.span.some (omega (arith, c.args.span.inside, c.requires.1)) c.if-set-eq0.true))

pub loop-a-init : goal.loop-a-init
loop-a-init c = (filled_none (ready (goal.at.loop-a-init c).After-span_set-set).between refl, (refl, λ s h. refl))

pub loop-a-preserved-then-productions-eq0 : goal.loop-a-preserved-then-productions-eq0
loop-a-preserved-then-productions-eq0 c =
    let (sofar, only) = c.loop-a.invariant in (
      span-skip (ready (goal.at.loop-a-preserved-then-productions-eq0 c).After-span_set-set).between c.span_set-set.ensures.0 c.args.span.some
          (omega (arith, c.args.span.inside, c.requires.1)) only c.loop-a.a (omega arith) c.if-productions-eq0.true sofar,
      only,
    )

pub fill_cell-requires : goal.fill_cell-requires
fill_cell-requires c =
    let p = c.requires in
    turn-fillable c.open_cell-cell.ensures (ready (goal.at.fill_cell-requires c).After-span_set-set) c.span_set-set.ensures.0 p.1 p.2
    c.loop-a.invariant.1 c.loop-a.invariant.0 c.loop-a-test.true

pub returns-in_err-total : goal.returns-in_err-total
returns-in_err-total c =
    let k = (goal.at.returns-in_err-total c).After-fill_cell in
    rw c.from_residual.ensures
    (fold_over (turn k) c.loop-a.a c.args.sizes.symbols (before k) (λ m. refl) (subst (So k (c.loop-a.a + 1)) c.in_err-total.was (filled k)) c.loop-a-test.true)

pub loop-a-preserved : goal.loop-a-preserved
loop-a-preserved c =
    let k = (goal.at.loop-a-preserved c).After-fill_cell in
    let past = c.loop-a.invariant.1 in
    let now = c.fill_cell.ensures.1 in
    (subst (So k (c.loop-a.a + 1)) c.in_ok-total.was (filled k), (now.0 ∙ past.0, λ s h. now.1 s h ∙ past.1 s h))

pub returns : goal.returns
returns c =
    let a = c.args in
    let l = c.loop-a in
    fold_at (cell_turn a.input.card.bytes.now a.input.words.now.places a.sizes a.span) l.a a.sizes.symbols (some (chart_in a.chart.now a.count))
    (omega arith) l.invariant.0
