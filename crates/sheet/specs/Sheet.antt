-- Document 02, Paper 1, "A whole sheet": how reading goes over the lines, the records of the lines' pairs, and the answer. One list of plans,
-- those of the lines that are read, serves the whole answer; a line has one plan.
use Rattle.std.specs.Prelude.{ℕ, ◌+◌, ◌*◌, ◌^◌, ◌≡◌, cond, List, [], ◌∷◌, ◌++◌, map, eqb, leb, ltb, length, drop}
use Rattle.std.proofs.Math.Option.{Option, none, some}
use Rattle.grammar.specs.Lists.{concat_map}
use Rattle.grammar.specs.Plan.{PlanStep}
use Rattle.grammar.specs.Pairs.{Pair, pairs_of}
use Rattle.layout.specs.Refusals.{Refusal, unless, first_refusal}
use Rattle.layout.specs.Card.{grammar_of, card_refusals}
use Rattle.layout.specs.Line.{most_words}
use Rattle.layout.specs.Steps.{plan_room, pair_bytes}
use Rattle.layout.specs.Answers.{read_answer, chart_state, ChartAfter}
use Rattle.split.specs.Lines.{lines_of}

abbrev pub most_lines : ℕ
most_lines = 64

-- Before any line: the card's refusals, and then 41.
abbrev pub sheet_refusals : List ℕ → List ℕ → List Refusal
sheet_refusals card sheet = card_refusals card ++ (unless (leb (length (lines_of sheet)) most_lines) 41 ∷ [])

abbrev pub sheet_number : List ℕ → List ℕ → ℕ
sheet_number card sheet = first_refusal (sheet_refusals card sheet)

-- The lines that are to be read: none where the sheet is refused before any.
abbrev pub lines_to_read : List ℕ → List ℕ → List (List ℕ)
lines_to_read card sheet = cond (eqb (sheet_number card sheet) 0) (lines_of sheet) []

-- A line's own number is Read's, with a plan room of the reader's own that has room for any line.
abbrev pub own_plan_room : ℕ
own_plan_room = plan_room most_words

abbrev pub read_number : List ℕ → ℕ → List ℕ → ℕ
read_number card chart_room line = (read_answer card line chart_room own_plan_room).number

-- How reading goes: the lines that are read, one after the other, and the first that is not, where it ends.
pub record Course : Type 0 where
  pub read : List (List ℕ)
  pub failing : Option (List ℕ)

abbrev pub read_first : List ℕ → Course → Course
read_first line c = record { read = line ∷ c.read; failing = c.failing }

abbrev pub course : (List ℕ → ℕ) → List (List ℕ) → Course
course number [] = record { read = []; failing = none }
course number (line ∷ lines) =
    cond (eqb (number line) 0) (read_first line (course number lines)) (record { read = []; failing = some line })

abbrev pub sheet_course : List ℕ → List ℕ → ℕ → Course
sheet_course card sheet chart_room = course (read_number card chart_room) (lines_to_read card sheet)

-- The chart room: each read, the one that fails included, does with it what Read does, from where the one before left it.
abbrev pub alone : Option (List ℕ) → List (List ℕ)
alone none = []
alone (some line) = line ∷ []

abbrev pub tried : Course → List (List ℕ)
tried c = c.read ++ alone c.failing

abbrev pub ChartsAfter : List ℕ → (List ℕ → ℕ) → List (List ℕ) → List ℕ → List ℕ → Type 0
ChartsAfter card number [] before after = after ≡ before
ChartsAfter card number (line ∷ lines) before after =
    (between : List ℕ) × ChartAfter card line (chart_state (number line)) before between × ChartsAfter card number lines between after

-- A record: a line, counted from 0, and a pair of it. Those of all lines, in line order, from the plans of the lines from k on.
pub data SheetRecord : Type 0 where
  sheet_record : (line : ℕ) (places : Pair) → SheetRecord

abbrev pub records_from : List ℕ → ℕ → List (List PlanStep) → List SheetRecord
records_from card k [] = []
records_from card k (plan ∷ plans) = map (sheet_record k) (pairs_of (grammar_of card) plan) ++ records_from card (k + 1) plans

-- Its three bytes.
abbrev pub sheet_record_bytes : SheetRecord → List ℕ
sheet_record_bytes (sheet_record line places) = line ∷ pair_bytes places

abbrev pub sheet_bytes : List SheetRecord → List ℕ
sheet_bytes records = concat_map sheet_record_bytes records

-- The answer.
pub record SheetAnswer : Type 0 where
  pub number : ℕ
  pub line : ℕ
  pub records : List SheetRecord

abbrev pub refused_at : ℕ → ℕ → SheetAnswer
refused_at number line = record { number = number; line = line; records = [] }

-- Every line is read: only now 33, where the output room is under three bytes a record.
abbrev pub records_within : List SheetRecord → ℕ → SheetAnswer
records_within records room = cond (ltb room (3 * length records)) (refused_at 33 0) (record { number = 0; line = 0; records = records })

-- The first line that is not read gives its number and its place.
abbrev pub end_answer : (List ℕ → ℕ) → ℕ → Option (List ℕ) → List SheetRecord → ℕ → SheetAnswer
end_answer number place none records room = records_within records room
end_answer number place (some line) records room = refused_at (number line) place

-- Of a course: the place of the line that fails is how many are read before it.
abbrev pub course_answer : (List ℕ → ℕ) → Course → List SheetRecord → ℕ → SheetAnswer
course_answer number c records room = end_answer number (length c.read) c.failing records room

abbrev pub sheet_answer : List ℕ → List ℕ → ℕ → ℕ → List (List PlanStep) → SheetAnswer
sheet_answer card sheet chart_room room plans =
    cond (eqb (sheet_number card sheet) 0)
    (course_answer (read_number card chart_room) (sheet_course card sheet chart_room) (records_from card 0 plans) room)
    (refused_at (sheet_number card sheet) 0)

-- The output room afterwards: the records, and then what was there.
abbrev pub output_after : List SheetRecord → List ℕ → List ℕ
output_after records before = sheet_bytes records ++ drop (3 * length records) before

-- The answer as one 64-bit number: 16 bits, 8 bits and 20 bits from the low end.
abbrev pub pack_sheet : ℕ → ℕ → ℕ → ℕ
pack_sheet number line records = number + line * 2 ^ 16 + records * 2 ^ 24
