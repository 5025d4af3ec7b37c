-- Each way out is a law of the model's step, whatever goals the struct shows: it is stuck by the test that failed, or it replaces the first goal.
use native.Mathlib.Omega.{arith}
use mathlib.Core.Path.{sym, ◌∙◌}
use Rattle.std.proofs.Common.{rules}
use Rattle.goals.proofs.AdvanceLaws.{fits-room, advanced-start, advanced-end, advanced-missing, advanced-misfit, advanced-fit}
use Rattle.card.specs.Productions.{rule_from}
use Rattle.goals.proofs.replay.Goals.advance.Goals.{then-step-top-via-then-step-top, then-step-top-via-else-step-top+then-step-top-2}
use Rattle.goals.proofs.replay.Goals.advance.Goals as goal

pub returns-then-productions-number : goal.returns-then-productions-number
returns-then-productions-number c =
    let a = c.args in advanced-missing a.card.bytes.now a.places.now a.step a.self.now (omega (arith, c.productions.ensures.counts))

pub returns-then-not-fits : goal.returns-then-not-fits
returns-then-not-fits c =
    let a = c.args in
    advanced-misfit a.card.bytes.now a.places.now a.step a.self.now c.in-Some.top (search rules) c.production-production.result
    (omega (arith, c.productions.ensures.counts)) (search rules) (search rules) (search rules) (search rules)

pub returns : goal.returns
returns c =
    let a = c.args in
    rw c.replace.ensures
    (advanced-fit a.card.bytes.now a.places.now a.step a.self.now c.in-Some.top (search rules) c.production-production.result
    (omega (arith, c.productions.ensures.counts)) (search rules) (search rules) (search rules) c.requires.few_goals c.requires.few_indices (search rules))

pub returns-then-step-top : goal.returns-then-step-top
returns-then-step-top c =
    let a = c.args in
    elim c.then-step-top.branch [
      | then-step-top-via-then-step-top w ↦
          advanced-start a.card.bytes.now a.places.now a.step a.self.now c.in-Some.top (search rules) (λ e. omega (arith, w.if-step-top.true))
      | then-step-top-via-else-step-top+then-step-top-2 w ↦
          advanced-end a.card.bytes.now a.places.now a.step a.self.now c.in-Some.top (search rules) (omega (arith, w.if-step-top.false))
          (λ e. omega (arith, w.if-step-top-2.true))
    ]

pub replace-requires : goal.replace-requires
replace-requires c =
    fits-room (rule_from c.production-production.result) _ c.args.self.now c.in-Some.top c.args.step.split (search rules)
    (sym c.fits.ensures ∙ c.if-not-fits.false) c.requires
