-- Document 01, "The plan": what unfolding promises. The room's records are those of a chart, whatever chart it is. The line is read
-- through a test: `at i w`, is the word at place i word number w?
use Rattle.std.specs.Prelude.{ℕ, ◌*◌, ◌≤◌, ◌<◌, ◌≡◌, Bool, cond, Option, Some, None, List, [], ◌++◌, map, length, drop}
use Rattle.grammar.specs.Lists.{Stands}
use Rattle.grammar.specs.Input.{Holds}
use Rattle.grammar.specs.Items.{bare}
use Rattle.grammar.specs.ItemList.{item, among}
use Rattle.grammar.specs.Chart.{Record, Justified, item_of}
use Rattle.grammar.specs.Plan.{PlanStep}
use Rattle.grammar.specs.Ways.{Way, Recorded}
use Rattle.layout.specs.Card.{grammar_of}
use Rattle.layout.specs.Records.{record_at, chart_in}
use Rattle.layout.specs.Steps.{plan_bytes, plan_steps, plan_room}

-- Each of the first count records of the room is justified, for the line of the test.
pub record Held (card : List ℕ) (at : ℕ → ℕ → Bool) (chart : List ℕ) (count : ℕ) : Type 0 where
  pub there : 16 * count ≤ length chart
  pub justified : (m : ℕ) (e : Record) → Stands (chart_in chart count) m e
      → Justified (grammar_of card) (Holds at) (chart_in chart count) m e

-- What unfolding asks: such a room, for some test and some count of records, with the item of the start over all words of a line at position
-- m, and room for its plan. That the card is accepted is `Card`'s own.
pub record Unfoldable (card chart : List ℕ) (m : ℕ) (plan : List ℕ) : Type 0 where
  pub at : ℕ → ℕ → Bool
  pub count : ℕ
  pub words : ℕ
  pub held : Held card at chart count
  pub inside : m < count
  pub whole : item_of (record_at chart m) ≡ item 0 0 words bare
  pub room : plan_room words ≤ length plan
  pub short : words ≤ 24

-- The plan that goes down from the record at m, with what is pending, by the recorded steps. Whether it is the first plan depends on which
-- steps the chart records: grammar/proofs/WaysPlans.antt.
abbrev pub RecordedWay : List ℕ → (ℕ → ℕ → Bool) → List ℕ → ℕ → ℕ → List ℕ → List PlanStep → Type 0
RecordedWay card at chart count m pending steps =
    Way (grammar_of card) (Holds at) (chart_in chart count) (Recorded (chart_in chart count)) m pending steps

-- The plan room got that plan from the record at m, with nothing pending, and has what it had past it.
pub record Planned (card : List ℕ) (at : ℕ → ℕ → Bool) (chart : List ℕ) (count m : ℕ) (old new : List ℕ) : Type 0 where
  pub steps : List PlanStep
  pub way : RecordedWay card at chart count m [] steps
  pub written : new ≡ plan_bytes steps ++ drop (4 * length steps) old

-- And it did so for every test and every count for which the room's records are justified, that at m among them.
abbrev pub Plans : List ℕ → List ℕ → ℕ → List ℕ → List ℕ → Type 0
Plans card chart m old new = (at : ℕ → ℕ → Bool) (count : ℕ) → Held card at chart count → m < count → Planned card at chart count m old new

-- Document 01's number for each answer of the search for the start, and the steps of a plan of n words that come with it.
abbrev pub start_number : Option ℕ → ℕ
start_number (Some m) = 0
start_number None = 25

abbrev pub start_steps : ℕ → Option ℕ → ℕ
start_steps n (Some m) = plan_steps n
start_steps n None = 0

-- Does the item of the start over all n words stand among the first count records?
abbrev pub start_stands : List ℕ → ℕ → ℕ → Bool
start_stands chart count n = among (item 0 0 n bare) (map item_of (chart_in chart count))

-- The position that is answered, if one is, has it.
abbrev pub StandsAt : List ℕ → ℕ → ℕ → Option ℕ → Type 0
StandsAt chart count n (Some m) = (m < count) × (item_of (record_at chart m) ≡ item 0 0 n bare)
StandsAt chart count n None = Unit {0}

-- 0 where the item stands among the records, and 25 where it does not. Which position, if several records had it, is free.
pub record Found (chart : List ℕ) (count n : ℕ) (s : Option ℕ) : Type 0 where
  pub number : start_number s ≡ cond (start_stands chart count n) 0 25
  pub place : StandsAt chart count n s
