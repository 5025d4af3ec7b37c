-- `by_action` adds what a production's action makes of its dependents, whose positions the table has as one range: what the model
-- makes from the list of positions is made place by place.
use Prim.Native.Nat.{◌≤◌}
use mathlib.Core.Path.{refl, sym, subst, ◌∙◌}
use Rattle.card.specs.Productions.{action_from}
use Rattle.records.specs.declared.cells.Range.{Range}
use Rattle.records.specs.Cells.{range_in}
use Rattle.records.specs.Filling.{begun_with, RangeAt}
use Rattle.steps.specs.Candidates.{reached, kept_origin}
use Rattle.steps.specs.Fits.{ActionFits}
use Rattle.steps.proofs.StepLaws.{added-to-as}
use Rattle.steps.proofs.StepCandidates.{to_below, cell-range, element-span, foot-made, foot-numbered, with-index, by-take, by-keep, by-give}
use Rattle.steps.proofs.StepCover.{advanced-kept, advanced-as, look-fits, looked-at, advanced-looked, passed_over}
use Rattle.steps.proofs.step.by_action.Goals.{After-number-number, In-Take}
use Rattle.steps.proofs.step.by_action.Goals as goal

-- The range of the dependent's cell in the table: positions below the base, those of the dependent's records.
module _ (c : After-number-number) where
  abbrev R : Range
  R = range_in c.args.cells.now c.number-number.result

  below : R.to ≤ c.args.cell.base
  below =
      let a = c.args in
      to_below a.chart.now a.cell.base c.requires.0.indexed c.number-number.result refl

  abbrev dependents : RangeAt c.args.cell c.args.chart.now c.number-number.result R
  dependents =
      let a = c.args in
      cell-range a.chart.now a.cell.base c.requires.0.indexed (element-span a.cell a.dependent c.requires.2) c.number-number.ensures.at refl

-- The index to take is counted.
taken : (c : In-Take) → (1 ≤ c.in-Take.g) × (c.in-Take.g ≤ 8)
taken c = subst (λ a. ActionFits (action_from a)) c.in-Take.is c.requires.1

pub take_one-requires : goal.take_one-requires
take_one-requires c =
    let at = goal.at.take_one-requires c in
    let n = at.After-number-number in
    let h = c.requires.0 in
    let (l, u) = taken at.In-Take in (
      record { works = h.works; begun = h.begun; below = rw c.range_of-range.ensures (below n) },
      record {
        fits = foot-made _ _ _ _ _ _ l u (element-span c.args.cell c.args.dependent c.requires.2);
        writable = with-index _ l;
        numbered = foot-numbered _ _ _ _ _ _ l (dependents n).number c.from.ensures refl;
      },
    )

pub is_covered-requires : goal.is_covered-requires
is_covered-requires c = look-fits c.requires.0 (dependents (goal.at.is_covered-requires c).After-number-number)

pub returns-then-is_covered : goal.returns-then-is_covered
returns-then-is_covered c =
    let n = (goal.at.returns-then-is_covered c).After-number-number in
    let a = c.args in
    let e = c.is_covered.ensures in
    advanced-as (by-keep _ _ _ _ _ _ _ _ _ (R n) (dependents n).stands c.in-Keep.is)
    (passed_over c.requires.0 (dependents n) (reached a.cell (kept_origin a.side) (begun_with a.cell a.chart.now)) (λ x. refl)
    (sym e.0 ∙ c.if-is_covered.true) e.1)

pub take_over-requires : goal.take_over-requires
take_over-requires c =
    let n = (goal.at.take_over-requires c).After-number-number in
    rw c.range_of-range.ensures (looked-at c.requires.0 (dependents n) c.is_covered.ensures.1, dependents n, below n)

pub give_each-requires : goal.give_each-requires
give_each-requires c =
    let n = (goal.at.give_each-requires c).After-number-number in
    let (l, u) = subst (λ a. ActionFits (action_from a)) c.in-Give.is c.requires.1 in
    (c.requires.0, rw c.range_of-range.ensures (below n), l)

pub returns-in-Take : goal.returns-in-Take
returns-in-Take c =
    let at = goal.at.returns-in-Take c in
    advanced-kept c.requires.0
    (added-to-as
    (by-take _ _ _ _ _ _ _ _ _ c.range_of-range.result (rw c.range_of-range.ensures (dependents at.After-number-number).stands) c.in-Take.is (taken at.In-Take).0)
    c.take_one.ensures)

pub returns-else-is_covered : goal.returns-else-is_covered
returns-else-is_covered c =
    let n = (goal.at.returns-else-is_covered c).After-number-number in
    advanced-looked c.requires.0 (dependents n) c.is_covered.ensures.1
    (advanced-as
    (by-keep _ _ _ _ _ _ _ _ _ c.range_of-range.result (rw c.range_of-range.ensures (dependents n).stands) c.in-Keep.is)
    c.take_over.ensures)

pub returns-in-Give : goal.returns-in-Give
returns-in-Give c =
    let n = (goal.at.returns-in-Give c).After-number-number in
    advanced-as
    (by-give _ _ _ _ _ _ _ _ _ c.range_of-range.result (rw c.range_of-range.ensures (dependents n).stands) c.in-Give.is) c.give_each.ensures
