-- `chart::cell::finish` meets its contract. The loop's invariant is the contract itself, for the records from the base to m.
use Prim.Native.Nat.{◌/◌, ◌<◌}
use native.Mathlib.Omega.{arith}
use mathlib.Core.Path.{◌≡◌, sym, ◌∙◌, ap, subst}
use lib.ListN.{length, set}
use Rattle.records.specs.Room.{foot_there, foot_from, number_there}
use Rattle.steps.proofs.StepLaws.{foot-fits}
use Rattle.records.proofs.RoomLaws.{number-there}
use Rattle.records.proofs.TableLaws.{number-within}
use Rattle.chart.proofs.FinishLaws.{found-bare, found-foot, finish-start, finish-turn, finish-end}
use Rattle.chart.proofs.cell.finish.Goals.{In-loop-m, then-foot-eq0, else-foot-eq0}
use Rattle.chart.proofs.cell.finish.Goals as goal

-- The byte of a number that was read stands among the marks.
inside : (c : In-loop-m) → number_there c.args.chart.now c.loop-m.m / 8 < length c.loop-m.marks
inside c =
    let loop = c.loop-m in
    let w = c.requires.0 in
    let n = c.args.cell.words in
    let N = c.args.cell.symbols in
    let chart = c.args.chart.now in
    omega (
      arith,
      number-there n N chart c.args.count w.exact loop.m c.loop-m-test.true,
      number-within n N (foot_there chart loop.m) (foot-fits loop.m w c.loop-m-test.true),
      w.marks_there,
    )

pub loop-m-init : goal.loop-m-init
loop-m-init c = finish-start c.args.chart.now c.args.cell.base c.args.marks.now

pub unmark-requires : goal.unmark-requires
unmark-requires c =
    subst (λ k. k / 8 < length c.loop-m.marks) (sym c.number_at-number.ensures) (inside (goal.at.unmark-requires c).In-loop-m)

pub loop-m-preserved : goal.loop-m-preserved
loop-m-preserved c =
    let loop = c.loop-m in
    let foot = c.foot_at-foot in
    let φ = foot_there c.args.chart.now loop.m in
    let read : foot_from foot.result ≡ φ = ap foot_from foot.ensures in
    finish-turn c.args.chart.now c.args.cell.base (omega arith) loop.invariant
    (inside (goal.at.loop-m-preserved c).In-loop-m)
    (c.unmark.ensures ∙ ap (λ k. set loop.marks (k / 8) 0) c.number_at-number.ensures)
    (elim c.if-foot-eq0.branch [
      | then-foot-eq0 w ↦ w.bare-is ∙ found-bare foot.result φ loop.m loop.bare read w.if-foot-eq0.true
      | else-foot-eq0 w ↦ w.bare-is ∙ found-foot foot.result φ loop.m loop.bare read w.if-foot-eq0.false
    ])

pub returns : goal.returns
returns c = finish-end c.args.chart.now c.args.cell.base (omega arith) (omega arith) c.loop-m.invariant
