-- What a sheet promises: the answer, every byte of both rooms, and what its number says of the lines' derivations.
use Rattle.std.specs.Prelude.{ℕ, ◌*◌, ◌≤◌, ◌≡◌, length, get_or}
use mathlib.Core.List.{List, [], ◌∷◌, Memᴰ}
use Rattle.grammar.specs.Plan.{PlanStep}
use Rattle.layout.specs.Answers.{input_number, RoomEnough, HasDerivation, PlanFor}
use Rattle.split.specs.Lines.{lines_of}
use Rattle.sheet.specs.Sheet.{sheet_number, own_plan_room, read_number, sheet_course, tried, ChartsAfter}
use Rattle.sheet.specs.Sheet.{records_from, sheet_answer, output_after}

-- All that holds of a line that is read, with its plan.
pub record LineRead (card line : List ℕ) (plan : List PlanStep) : Type 0 where
  pub derivation : HasDerivation card line
  pub is_plan : PlanFor card line plan

-- Line by line.
pub data EachRead (card : List ℕ) : List (List ℕ) → List (List PlanStep) → Type 0 where
  none : EachRead card [] []
  more : {line : List ℕ} {lines : List (List ℕ)} {plan : List PlanStep} {plans : List (List PlanStep)}
      → LineRead card line plan → EachRead card lines plans → EachRead card (line ∷ lines) (plan ∷ plans)

-- An order, with chart room enough.
pub record Order (card : List ℕ) (chart_room : ℕ) (line : List ℕ) : Type 0 where
  pub accepted : input_number card line ≡ 0
  pub enough : RoomEnough card line chart_room own_plan_room
  pub derivation : HasDerivation card line

abbrev pub line_at : List ℕ → ℕ → List ℕ
line_at sheet k = get_or (lines_of sheet) k []

pub record Sheet (card sheet old_chart old_output new_chart new_output : List ℕ) (number line count : ℕ) : Type 0 where
  -- the plan of each line that is read; a line has one, so nothing but the chart is free (proofs/Decided.antt)
  pub plans : List (List PlanStep)
  pub each : EachRead card (sheet_course card sheet (length old_chart)).read plans
  -- the answer, from the inputs, the rooms' lengths and these plans alone; where a line fails, without them
  pub number_is : number ≡ (sheet_answer card sheet (length old_chart) (length old_output) plans).number
  pub line_is : line ≡ (sheet_answer card sheet (length old_chart) (length old_output) plans).line
  pub count_is : count ≡ length (sheet_answer card sheet (length old_chart) (length old_output) plans).records
  -- every byte of the rooms; which chart is free, as with Read
  pub chart : ChartsAfter card (read_number card (length old_chart)) (tried (sheet_course card sheet (length old_chart))) old_chart new_chart
  pub output : new_output ≡ output_after (sheet_answer card sheet (length old_chart) (length old_output) plans).records old_output
  -- an accepted sheet: every line is read; 25 refutes every derivation of the line that is given; 32 is never given; and a sheet of
  -- orders with room enough is accepted
  pub accepted : number ≡ 0 → EachRead card (lines_of sheet) plans
  pub none : number ≡ 25 → HasDerivation card (line_at sheet line) → ⊥
  pub own_room : number ≡ 32 → ⊥
  pub whole : sheet_number card sheet ≡ 0 → ((k : List ℕ) → Memᴰ k (lines_of sheet) → Order card (length old_chart) k)
      → 3 * length (records_from card 0 plans) ≤ length old_output → number ≡ 0
