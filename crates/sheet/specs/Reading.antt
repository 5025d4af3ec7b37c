-- What the functions below a sheet promise: the records of one line, of a line that is read, of the lines up to the first that is not, and
-- of handing them out.
use Rattle.std.specs.Prelude.{ℕ, ◌+◌, ◌*◌, ◌≤◌, ◌≡◌, List, map, length, take, Result, Ok, Err}
use Rattle.grammar.specs.Plan.{PlanStep}
use Rattle.grammar.specs.Pairs.{pairs_of}
use Rattle.layout.specs.Card.{grammar_of}
use Rattle.layout.specs.Steps.{steps_of}
use Rattle.layout.specs.Answers.{chart_state, ChartAfter, plan_pairs}
use Rattle.layout.specs.Written.{Wrote}
use Rattle.split.specs.Lines.{lines_of}
use Rattle.sheet.specs.Sheet.{read_number, course, tried, ChartsAfter, SheetRecord, sheet_record, records_from, sheet_bytes}
use Rattle.sheet.specs.Sheet.{SheetAnswer, refused_at, records_within, course_answer, output_after}
use Rattle.sheet.specs.Promise.{LineRead, EachRead}
use Rattle.sheet.specs.Placed.{line_room, record_room}
use Rattle.refusals.specs.Number.{number_of}
use Rattle.sheet.specs.Answered.{answer_number, answer_line, answer_count}
use Rattle.sheet.specs.declared.Refused.{Refused}
use Rattle.sheet.specs.declared.sheet_records.Records.{Records}

-- Behind the records there is room for those of one line more.
abbrev pub RoomForLine : Records → Type 0
RoomForLine r = 3 * r.count + line_room ≤ record_room

-- The room has the records of the plan's pairs behind those before.
pub record AddsRecords (card plan : List ℕ) (k : ℕ) (old new : Records) : Type 0 where
  pub total : new.count ≡ old.count + length (plan_pairs card (steps_of plan))
  pub few : length (plan_pairs card (steps_of plan)) ≤ 11
  pub wrote : Wrote old.room (3 * old.count) (sheet_bytes (map (sheet_record k) (plan_pairs card (steps_of plan)))) new.room (3 * new.count)

-- A line that is read comes with its plan, whose records stand behind those before.
pub record AddsRead (card line : List ℕ) (k : ℕ) (old new : Records) : Type 0 where
  pub plan : List PlanStep
  pub read : LineRead card line plan
  pub total : new.count ≡ old.count + length (pairs_of (grammar_of card) plan)
  pub few : length (pairs_of (grammar_of card) plan) ≤ 11
  pub wrote : Wrote old.room (3 * old.count) (sheet_bytes (map (sheet_record k) (pairs_of (grammar_of card) plan))) new.room (3 * new.count)

-- One line: its own number, the chart room as Read leaves it, and with 0 its records.
pub record Adds (card line : List ℕ) (k : ℕ) (old_chart new_chart : List ℕ) (old new : Records) (r : ℕ) : Type 0 where
  pub number : r ≡ read_number card (length old_chart) line
  pub chart : ChartAfter card line (chart_state (read_number card (length old_chart) line)) old_chart new_chart
  pub read : r ≡ 0 → AddsRead card line k old new

-- How the lines end: what each case answers, with these records and so much output room.
abbrev pub ending_answer : Result (Unit {0}) Refused → List SheetRecord → ℕ → SheetAnswer
ending_answer (Ok x) records room = records_within records room
ending_answer (Err r) records room = refused_at (number_of r.refusal) r.line

-- Where all lines are read, there are so many records, and these are their bytes.
abbrev pub Kept : Records → List SheetRecord → Result (Unit {0}) Refused → Type 0
Kept r records (Ok x) = (r.count ≡ length records) × (take (3 * r.count) r.room ≡ sheet_bytes records)
Kept r records (Err e) = Unit {0}

-- The answer is that of the course which the lines' numbers give, whatever output room there is.
pub record Ends (card sheet old_chart new_chart : List ℕ) (records : Records) (r : Result (Unit {0}) Refused) : Type 0 where
  pub plans : List (List PlanStep)
  pub each : EachRead card (course (read_number card (length old_chart)) (lines_of sheet)).read plans
  pub chart : ChartsAfter card (read_number card (length old_chart))
      (tried (course (read_number card (length old_chart)) (lines_of sheet))) old_chart new_chart
  pub answer : (room : ℕ) → ending_answer r (records_from card 0 plans) room
      ≡ course_answer (read_number card (length old_chart)) (course (read_number card (length old_chart)) (lines_of sheet)) (records_from card 0 plans) room
  pub kept : Kept records (records_from card 0 plans) r

-- The bytes of records are handed out, `count` of them, whatever they are: 33 where the output room is too short.
pub record Handed (records : List SheetRecord) (before after : List ℕ) (r : Result ℕ Refused) : Type 0 where
  pub number : answer_number r ≡ (records_within records (length before)).number
  pub line : answer_line r ≡ (records_within records (length before)).line
  pub count : answer_count r ≡ length (records_within records (length before)).records
  pub output : after ≡ output_after (records_within records (length before)).records before

abbrev pub HandsOut : List ℕ → ℕ → List ℕ → List ℕ → Result ℕ Refused → Type 0
HandsOut bytes count before after r =
    (records : List SheetRecord) → count ≡ length records → bytes ≡ sheet_bytes records → Handed records before after r
