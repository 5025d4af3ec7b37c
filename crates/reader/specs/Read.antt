-- What Read promises: the answer, every byte of both rooms, and what its number says of derivations.
use Rattle.std.specs.Prelude.{ℕ, ◌≡◌, List, eqb, length, Option, Some, None, Result, Ok, Err}
use Rattle.layout.specs.Answers.{input_number, ReadAnswer, refusal, read_answer, RoomEnough, HasDerivation, chart_state, ChartAfter, PlanAfter}
use Rattle.refusals.specs.declared.Refusal.{Refusal}
use Rattle.refusals.specs.declared.Refusal.TheVariants.{NoReading}
use Rattle.refusals.specs.Number.{number_of}
use Rattle.reader.specs.declared.read.Reading.{Reading}

-- Document 01's number and steps for either case of a plan: 0 where there is one, and 25, "no reading", where there is none.
abbrev pub plan_number : Option ℕ → ℕ
plan_number (Some steps) = 0
plan_number None = number_of NoReading

abbrev pub steps_in : Option ℕ → ℕ
steps_in (Some steps) = steps
steps_in None = 0

-- Its answer for each case of the code's.
abbrev pub answer_from : Result Reading Refusal → ReadAnswer
answer_from (Ok r) = record { number = plan_number r.steps; words = r.words; items = r.items; steps = steps_in r.steps }
answer_from (Err e) = refusal (number_of e)

abbrev pub read_number : Result Reading Refusal → ℕ
read_number r = (answer_from r).number

pub record Reads (card line old_chart old_plan new_chart new_plan : List ℕ) (r : Result Reading Refusal) : Type 0 where
  -- the answer, from the inputs and the rooms' lengths alone
  pub answer : answer_from r ≡ read_answer card line (length old_chart) (length old_plan)
  -- every byte of the rooms; which chart is free, and nothing of the plan
  pub chart : ChartAfter card line (chart_state (read_number r)) old_chart new_chart
  pub plan : PlanAfter card line (eqb (read_number r) 0) old_plan new_plan
  -- "read" comes with a derivation, 25 refutes every one, and a derivation with room enough is read
  pub read : read_number r ≡ 0 → HasDerivation card line
  pub none : read_number r ≡ 25 → HasDerivation card line → ⊥
  pub whole : input_number card line ≡ 0 → RoomEnough card line (length old_chart) (length old_plan) → HasDerivation card line
      → read_number r ≡ 0
