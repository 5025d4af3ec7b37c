-- `take_over` adds the records of one cell, if it has any; once all of them are added, it is noted as covered.
use mathlib.Core.Path.{refl}
use Rattle.records.specs.Filling.{begun_with}
use Rattle.steps.specs.Candidates.{reached}
use Rattle.steps.proofs.StepCover.{advanced-kept, advanced-none, note-fits, taken-over}
use Rattle.steps.proofs.each.take_over.Goals as goal

pub returns-then-range : goal.returns-then-range
returns-then-range g c =
    let a = c.args in
    advanced-none c.requires.0 c.requires.1
    (reached a.cell (g.R.Reach.origin_at a.reach) (begun_with a.cell a.chart.now)) (λ x. refl) c.if-range.true

pub add_each-requires : goal.add_each-requires
add_each-requires g c = let h = c.requires.0 in record { works = h.works; begun = h.begun; below = c.requires.2 }

pub returns-in_err-total : goal.returns-in_err-total
returns-in_err-total g c = rw c.from_residual.ensures (advanced-kept c.requires.0 c.in_err-total.ensures)

pub note_cover-requires : goal.note_cover-requires
note_cover-requires g c = note-fits c.requires.0 c.requires.1

pub returns : goal.returns
returns g c =
    let a = c.args in
    taken-over c.requires.0 c.requires.1
    (reached a.cell (g.R.Reach.origin_at a.reach) (begun_with a.cell a.chart.now)) (λ x. refl) c.if-range.false c.in_ok-total.ensures
    c.note_cover.ensures
