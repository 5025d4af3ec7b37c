-- `cell::by_rule_over` meets its contract: over one word the rule adds what it does for the word, and over more what it does at the splits,
-- which are the model's own two cases.
use native.Mathlib.Omega.{arith}
use mathlib.Core.Path.{◌∙◌, ap}
use lib.ListN.{get_or}
use Rattle.grammar.specs.Rewriting.{Rule}
use Rattle.layout.specs.Card.{production}
use Rattle.places.specs.Places.{word_test}
use Rattle.chart_model.specs.Build.{by_word}
use Rattle.records.specs.Filling.{begun_with}
use Rattle.steps.proofs.StepLaws.{added-to-as}
use Rattle.steps.proofs.StepCover.{advanced-kept, advanced-as}
use Rattle.chart.specs.Cell.{one_of}
use Rattle.chart.proofs.CellLaws.{over_word, over-splits}
use Rattle.chart.proofs.cell.by_rule_over.Goals as goal

pub returns-then-to-from-eq1 : goal.returns-then-to-from-eq1
returns-then-to-from-eq1 c =
    let a = c.args in
    let from = c.from-from in
    advanced-kept c.requires.0
    (added-to-as
    (ap (λ (r : Rule). by_word (one_of (get_or a.input.words.now.places from.result 0)) a.cell.left a.cell.from a.p r) c.production.ensures
    ∙ over_word (begun_with a.cell a.chart.now) a.cell.left a.cell.from a.input.words.now.places a.cell.to from.result a.p
    (production a.input.card.bytes.now a.p) (omega arith) (omega arith))
    c.at_word.ensures)

pub returns : goal.returns
returns c =
    let a = c.args in
    advanced-as
    (over-splits (begun_with a.cell a.chart.now) a.cell.left a.cell.from (word_test a.input.words.now.places) a.cell.to a.p
    (production a.input.card.bytes.now a.p) c.requires.0.inside.1 (λ q. omega arith))
    c.across_splits.ensures
