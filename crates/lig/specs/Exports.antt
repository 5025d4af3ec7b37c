-- What Read, Pairs and a sheet promise a caller who sees one 64-bit number: the packed answer, and every byte of the lent rooms.
use Rattle.std.specs.Prelude.{ℕ, ◌/◌, ◌%◌, ◌^◌, ◌≡◌, List, eqb, length}
use Rattle.layout.specs.Answers.{input_number, read_answer, read_packed, RoomEnough, HasDerivation, chart_state, ChartAfter, PlanAfter}
use Rattle.layout.specs.Answers.{pairs_answer, pairs_packed, pairs_after}
use Rattle.sheet.specs.Sheet.{pack_sheet}
use Rattle.sheet.specs.Promise.{Sheet}

-- The number of a packed answer: its lowest 16 bits.
abbrev pub number_in : ℕ → ℕ
number_in r = r % 2 ^ 16

pub record ReadPacked (card line old_chart old_plan new_chart new_plan : List ℕ) (r : ℕ) : Type 0 where
  -- the answer, from the inputs and the rooms' lengths alone
  pub answer : r ≡ read_packed (read_answer card line (length old_chart) (length old_plan))
  -- every byte of the rooms; which chart is free, and nothing of the plan
  pub chart : ChartAfter card line (chart_state (number_in r)) old_chart new_chart
  pub plan : PlanAfter card line (eqb (number_in r) 0) old_plan new_plan
  -- "read" comes with a derivation, 25 refutes every one, and a derivation with room enough is read
  pub read : number_in r ≡ 0 → HasDerivation card line
  pub none : number_in r ≡ 25 → HasDerivation card line → ⊥
  pub whole : input_number card line ≡ 0 → RoomEnough card line (length old_chart) (length old_plan) → HasDerivation card line
      → number_in r ≡ 0

pub record PairsPacked (card line plan before after : List ℕ) (r : ℕ) : Type 0 where
  pub answer : r ≡ pairs_packed (pairs_answer card line plan (length before))
  pub room : after ≡ pairs_after (pairs_answer card line plan (length before)).pairs before

-- A sheet's line and its count of records: the 8 bits and the 20 bits above the number.
abbrev pub line_in : ℕ → ℕ
line_in r = r / 2 ^ 16 % 2 ^ 8

abbrev pub records_in : ℕ → ℕ
records_in r = r / 2 ^ 24 % 2 ^ 20

pub record SheetPacked (card sheet old_chart old_output new_chart new_output : List ℕ) (r : ℕ) : Type 0 where
  pub says : Sheet card sheet old_chart old_output new_chart new_output (number_in r) (line_in r) (records_in r)
  -- and every other bit is 0
  pub packed : r ≡ pack_sheet (number_in r) (line_in r) (records_in r)
