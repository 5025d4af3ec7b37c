-- `give_one` adds the records of a give from one dependent: none where its foot has another index, and else those of the continuations, whose
-- positions the table has as one range. The number of the foot tells where.
use Prim.Native.Nat.{◌/◌}
use native.Mathlib.Omega.{arith}
use mathlib.Core.Path.{◌≡◌, refl, sym, ◌∙◌}
use Rattle.records.specs.declared.record.Foot as declared
use Rattle.records.specs.declared.cells.Range.{Range}
use Rattle.records.specs.Room.{foot_fields}
use Rattle.records.specs.Cells.{cell_at, range_in, SpanFits}
use Rattle.records.specs.Filling.{begun_with, over_range, RangeAt}
use Rattle.steps.specs.Candidates.{continues, gives}
use Rattle.steps.proofs.StepCandidates.{cell-range, given-span, given-at, given-none, given-each}
use Rattle.steps.proofs.StepCover.{advanced-kept, advanced-as, note-fits, look-fits, looked-at, passed_over}
use Rattle.steps.proofs.StepReads.{looked, read-at, read-below, as-read}
use Rattle.steps.proofs.give.give_one.Goals.{After-number_at-number}
use Rattle.steps.proofs.give.give_one.Goals as goal

-- The foot's index is the one to give, so its parts fit, and its number tells the place of its cell.
module _ (c : After-number_at-number) where
  abbrev foot : declared.Foot
  foot = foot_fields c.args.chart.now c.args.y

  same : foot.index ≡ c.args.g
  same = omega (arith, c.if-given-g.false)

  span : SpanFits c.args.cell.words c.args.cell.symbols foot.symbol foot.from foot.to
  span = let q = c.requires in given-span q.0.works _ _ q.1 q.0.begun same q.2

  place : c.number_at-number.result / 8 ≡ cell_at c.args.cell.symbols foot.symbol foot.from foot.to
  place = let q = c.requires in given-at q.0.works _ _ q.1 q.0.begun same q.2 c.number_at-number.ensures

  -- There the table has the positions of the cell's records, from which the records of the give are made.
  abbrev R : Range
  R = range_in c.args.cells.now (c.number_at-number.result / 8)

  abbrev continuations : RangeAt c.args.cell c.args.chart.now (c.number_at-number.result / 8) R
  continuations = cell-range c.args.chart.now c.args.cell.base c.requires.0.indexed span place refl

  given : let a = c.args in
      let b = begun_with a.cell a.chart.now in
      over_range (continues a.cell a.side a.y b) R ≡ gives a.cell a.side a.g b a.y
  given =
      let q = c.requires in
      given-each q.0.works _ _ q.1 q.0.begun same q.2 _ _ R continuations.stands

pub returns-then-given-g : goal.returns-then-given-g
returns-then-given-g c =
    let q = c.requires in
    advanced-kept q.0 record { added = given-none q.0.works _ _ q.1 q.0.begun _ _ (omega (arith, c.if-given-g.true)); within = q.0.works.count_fits }

-- The cell is looked for; the look changes no range.
pub is_covered-requires : goal.is_covered-requires
is_covered-requires c = look-fits c.requires.0 (continuations (goal.at.is_covered-requires c).After-number_at-number)

pub returns-then-is_covered : goal.returns-then-is_covered
returns-then-is_covered c =
    let n = (goal.at.returns-then-is_covered c).After-number_at-number in
    let a = c.args in
    let e = c.is_covered.ensures in
    advanced-as (given n)
    (passed_over c.requires.0 (continuations n) (continues a.cell a.side a.y (begun_with a.cell a.chart.now)) (λ x. refl)
    (sym e.0 ∙ c.if-is_covered.true) e.1)

pub range_of-range-requires : goal.range_of-range-requires
range_of-range-requires c =
    let d = continuations (goal.at.range_of-range-requires c).After-number_at-number in
    (note-fits (looked-at c.requires.0 d c.is_covered.ensures.1) d).1

-- What is read after the look is what the table had (`StepReads`).
pub take_over-requires : goal.take_over-requires
take_over-requires c =
    let h = c.requires.0 in
    let d = continuations (goal.at.take_over-requires c).After-number_at-number in
    let e = c.is_covered.ensures.1 in
    let r = c.range_of-range.ensures in
    (looked h d e r, read-at h d e r, read-below h d e r)

pub returns : goal.returns
returns c =
    let n = (goal.at.returns c).After-number_at-number in
    let a = c.args in
    advanced-as (given n)
    (as-read c.requires.0 (continuations n) c.is_covered.ensures.1 c.range_of-range.ensures
    (continues a.cell a.side a.y (begun_with a.cell a.chart.now)) c.take_over.ensures)
