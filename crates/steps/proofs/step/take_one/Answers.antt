-- `take_one` adds the one record of a take, with the origin of a keep from the first dependent, or none where the range is empty.
use mathlib.Core.List.{[], ◌∷◌}
use mathlib.Core.Path.{sym, ◌∙◌, ap}
use Rattle.records.specs.declared.record.Origin.{Origin}
use Rattle.records.specs.Room.{record_from}
use Rattle.steps.proofs.StepLaws.{nothing-added, added-to-as}
use Rattle.steps.proofs.StepCandidates.{taken_none, taken-one}
use Rattle.steps.proofs.step.take_one.Goals as goal

pub returns-then-range : goal.returns-then-range
returns-then-range c =
    added-to-as (sym (taken_none _ _ _ _ _ _ _ _ c.if-range.true)) (nothing-added c.requires.0.works)

pub returns : goal.returns
returns c =
    let a = c.args in
    added-to-as
    (ap (λ (o : Origin). record_from a.cell a.foot o ∷ []) c.origin-origin.ensures ∙ sym (taken-one _ _ _ _ _ _ _ _ c.if-range.false))
    c.add.ensures
