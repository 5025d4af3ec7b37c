-- The candidates of a step, as the model has them, in terms of the structs that the functions pass on. b is the chart when the cell was begun.
use Rattle.std.specs.Prelude.{ℕ, ◌<◌, ◌≡◌, List, [], ◌∷◌}
use Rattle.grammar.specs.Lists.{concat_map}
use Rattle.grammar.specs.Items.{Foot}
use Rattle.grammar.specs.ItemList.{item}
use Rattle.grammar.specs.Chart.{Record, recorded, nowhere}
use Rattle.card.specs.Productions.{action_from, rule_from}
use Rattle.card.specs.declared.Action.{Action}
use Rattle.card.specs.declared.Production.{Production}
use Rattle.chart_model.specs.Build.{foot_at, bare_places, taken_from, continued, given_from, by_action, by_rule}
use Rattle.records.specs.declared.record.OpenCell.{OpenCell}
use Rattle.records.specs.declared.record.Origin.{Origin}
use Rattle.steps.specs.declared.element.Element.{Element}
use Rattle.steps.specs.declared.element.Elements.{Elements}
use Rattle.steps.specs.declared.element.Side.{Side}
use Rattle.steps.specs.Fits.{ActionFits}

-- Of one dependent: a take's, if the range has a record; a give's with one continuation; and a give's with all.
abbrev pub takes : OpenCell → Side → Foot → List ℕ → List Record
takes cell side φ dependents =
    taken_from cell.left cell.from cell.to side.production side.position φ dependents

abbrev pub continues : OpenCell → Side → ℕ → List Record → ℕ → List Record
continues cell side y b z = continued b cell.left cell.from cell.to side.production side.position y z

abbrev pub gives : OpenCell → Side → ℕ → List Record → ℕ → List Record
gives cell side g b y = given_from b cell.left cell.from cell.to side.production side.position g y

-- A keep's and a give's records are made alike: each has the foot of the record at a position, and the origin that is told for that position.
abbrev pub reached : OpenCell → (ℕ → Origin) → List Record → ℕ → List Record
reached cell o b m =
    recorded (item cell.left cell.from cell.to (foot_at b m)) (o m).production (o m).side (o m).dependent (o m).continuation ∷ []

abbrev pub kept_origin : Side → ℕ → Origin
kept_origin side y = record { production = side.production; side = side.position; dependent = y; continuation = nowhere }

abbrev pub continued_origin : Side → ℕ → ℕ → Origin
continued_origin side y z = record { production = side.production; side = side.position; dependent = y; continuation = z }

-- Of a dependent's cell; of the two elements; and of a production at a split.
abbrev pub acts : OpenCell → Side → Action → Element → List Record → List Record
acts cell side a d b =
    by_action b (action_from a) d.symbol d.span.from d.span.to cell.left cell.from cell.to side.production side.position

abbrev pub meets : OpenCell → ℕ → Elements → List Record → List Record
meets cell p met b =
    concat_map (by_action b (action_from met.action) met.dependent.symbol met.dependent.span.from met.dependent.span.to
    cell.left cell.from cell.to p) (bare_places b met.side.symbol met.side.span.from met.side.span.to)

abbrev pub produces : OpenCell → ℕ → ℕ → Production → List Record → List Record
produces cell k p rule b = by_rule b cell.left cell.from k cell.to p (rule_from rule)

-- Elements of the card and of the line in hand; that they lie within that line is told by their spans.
abbrev pub ElementFits : OpenCell → Element → Type 0
ElementFits cell x = (x.symbol < cell.symbols) × (x.span.words ≡ cell.words)

pub record ElementsFit (cell : OpenCell) (met : Elements) : Type 0 where
  pub action : ActionFits (action_from met.action)
  pub side : ElementFits cell met.side
  pub dependent : ElementFits cell met.dependent
