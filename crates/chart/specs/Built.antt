-- What the builder promises, and what it asks of its tables.
use Rattle.std.specs.Prelude.{ℕ, ◌*◌, ◌≤◌, ◌<◌, ◌≡◌, Bool, cond, List, ◌++◌, length, drop, replicate, Option, Some, None}
use Rattle.grammar.specs.Input.{Holds}
use Rattle.grammar.specs.ItemList.{items}
use Rattle.grammar.specs.Chart.{Record, IsChart}
use Rattle.grammar.specs.Ways.{FirstSteps}
use Rattle.layout.specs.Card.{nonterminal_count, grammar_of}
use Rattle.layout.specs.Records.{record_length, chart_bytes, capacity}
use Rattle.layout.specs.Answers.{outnumber, ChartState, whole, zeroed, untouched, chart_state}
use Rattle.places.specs.Places.{word_test}
use Rattle.chart_model.specs.Build.{build}
use Rattle.records.specs.Cells.{spans}
use Rattle.sets.specs.Places.{set_count}
use Rattle.chart.specs.Fill.{Closed}

-- Lengths that are enough for n words under N nonterminals; and tables of such lengths, all 0.
pub record LongEnough (n N marks cells sets : ℕ) : Type 0 where
  pub marks_there : spans n * N < marks
  pub cells_there : 4 * (spans n * N) ≤ cells
  pub sets_there : set_count n ≤ sets

pub record TablesLent (n N : ℕ) (marks cells sets : List ℕ) : Type 0 where
  pub marks_zero : marks ≡ replicate (length marks) 0
  pub cells_zero : cells ≡ replicate (length cells) 0
  pub sets_zero : sets ≡ replicate (length sets) 0
  pub long : LongEnough n N (length marks) (length cells) (length sets)

-- The chart of n words was built in a room, with as many records as it holds at most.
abbrev pub ClosedIn : List ℕ → List ℕ → ℕ → List ℕ → List ℕ → Option ℕ → Type 0
ClosedIn card places n old new after =
    let room = capacity (length old) in
    Closed n (nonterminal_count card) room (build room (grammar_of card) (word_test places) (nonterminal_count card) n) old new after

-- Document 01's number and count of items for each answer. Whether a line with a chart is read or has no reading, 0 or 25, is seen only when
-- the start is looked for in it; till then its number is 0.
abbrev pub built_number : Option ℕ → ℕ
built_number None = 31
built_number (Some count) = 0

abbrev pub built_items : Option ℕ → ℕ
built_items None = 0
built_items (Some count) = count

-- The room as the state has it; the chart is one with first steps, so that unfolding it gives the first plan.
abbrev pub FirstChart : List ℕ → (ℕ → ℕ → Bool) → ChartState → List ℕ → List ℕ → Type 0
FirstChart card at whole before after =
    (c : List Record) × IsChart (grammar_of card) (Holds at) c × FirstSteps (grammar_of card) (Holds at) c
    × (after ≡ chart_bytes c ++ drop (record_length * length c) before)
FirstChart card at zeroed before after = after ≡ replicate (length before) 0
FirstChart card at untouched before after = after ≡ before

-- 31 exactly where the derivable items outnumber what the room holds, and else how many they are; the room is as this number has it. The
-- line is read through a test of the words at its places.
pub record BuiltRoom (card : List ℕ) (at : ℕ → ℕ → Bool) (n : ℕ) (b : Option ℕ) (old new : List ℕ) : Type 0 where
  pub number : built_number b ≡ cond (outnumber (items (grammar_of card) at n) (length old)) 31 0
  pub count : built_items b
      ≡ cond (outnumber (items (grammar_of card) at n) (length old)) 0 (length (items (grammar_of card) at n))
  pub room : FirstChart card at (chart_state (built_number b)) old new
