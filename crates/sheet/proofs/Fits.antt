-- Each part of a sheet's answer fits its bits, so that packing loses nothing: numbers have two digits, places at most 64, and there are at
-- most 11 records a line.
use Prim.Native.Nat.{ℕ, ◌+◌, ◌*◌, ◌≤◌}
use native.Mathlib.Omega.{arith}
use mathlib.Core.Path.{◌≡◌, refl, sym, ◌∙◌, ap}
use mathlib.Core.Bool.{Bool, true, false, cond}
use mathlib.Core.List.{List, [], ◌∷◌, map}
use lib.Dec.{eqb, leb}
use lib.ListN.{length, length-append, length-map}
use borrow.Author.Tests.{eqb-true, leb-true}
use Rattle.grammar.specs.Lists.{here}
use Rattle.grammar.specs.Plan.{PlanStep}
use Rattle.grammar.specs.Pairs.{pairs_of}
use Rattle.layout.specs.Card.{grammar_of, card_refusals}
use Rattle.layout.specs.Refusals.{unless}
use Rattle.layout.specs.Steps.{plan_bytes}
use Rattle.layout.specs.Answers.{plan_pairs}
use Rattle.layout.proofs.RefusalLaws.{zero-holds, both-accept, first-most}
use Rattle.layout.proofs.Checking.{steps-bytes}
use Rattle.layout.proofs.Accepting.{most_number}
use Rattle.layout.proofs.Packing.{read_fits, passing-pairs-few}
use Rattle.split.specs.Lines.{lines_of}
use Rattle.sheet.specs.Sheet.{most_lines, sheet_refusals, sheet_number, lines_to_read, own_plan_room, read_number, Course, sheet_course}
use Rattle.sheet.specs.Sheet.{SheetRecord, sheet_record, records_from, SheetAnswer, refused_at, course_answer, sheet_answer}
use Rattle.sheet.specs.Promise.{LineRead, EachRead, none, more, Sheet}
use Rattle.sheet.proofs.Within.{Within, short, fits, within}
use Rattle.sheet.proofs.AnswerLaws.{output-short}
use Rattle.sheet.proofs.CourseLaws.{line-fails, Went, to_end, up_to, went}

pairs-few : {card line : List ℕ} {plan : List PlanStep} → LineRead card line plan → length (pairs_of (grammar_of card) plan) ≤ 11
pairs-few {card} {line} {plan} r =
    let few = passing-pairs-few card line (plan_bytes plan) r.is_plan.passes in
    omega (arith, ap (λ (o : _). length (plan_pairs card o)) (steps-bytes plan))

records-few : {card : List ℕ} {lines : List (List ℕ)} {plans : List (List PlanStep)} → EachRead card lines plans → (k : ℕ)
    → length (records_from card k plans) ≤ 11 * length lines
records-few none k = omega arith
records-few {card} (more {plan = plan} {plans = plans} r each) k =
    omega (
      arith,
      pairs-few r,
      records-few each (k + 1),
      length-append (map (sheet_record k) (pairs_of (grammar_of card) plan)) (records_from card (k + 1) plans),
      length-map (pairs_of (grammar_of card) plan) (sheet_record k),
    )

-- The lines to read are at most 64, and so are those that are read.
few-lines : (card sheet : List ℕ) → length (lines_to_read card sheet) ≤ most_lines
few-lines card sheet = by-test (eqb (sheet_number card sheet) 0) refl
  where
    by-test : (b : Bool) → eqb (sheet_number card sheet) 0 ≡ b → length (cond b (lines_of sheet) []) ≤ most_lines
    by-test true e =
        let l = unless (leb (length (lines_of sheet)) most_lines) 41 ∷ [] in
        let (_, f) = both-accept (card_refusals card) l (eqb-true (sheet_number card sheet) 0 e) refl in
        leb-true (length (lines_of sheet)) most_lines (zero-holds l refl f here)
    by-test false e = omega arith

course-few : {number : List ℕ → ℕ} {lines : List (List ℕ)} {c : Course} → Went number lines c → length c.read ≤ length lines
course-few (to_end a) = omega arith
course-few (up_to read line others a ne) = omega (arith, length-append read (line ∷ others))

-- The parts of an answer with at most n lines read and at most m records.
pub record SheetFits (n m : ℕ) (a : SheetAnswer) : Type 0 where
  pub number : a.number ≤ most_number
  pub line : a.line ≤ n
  pub records : length a.records ≤ m

refused-fits : (n m x : ℕ) → x ≤ most_number → SheetFits n m (refused_at x 0)
refused-fits n m x h = record { number = h; line = omega arith; records = omega arith }

within-fits : {records : List SheetRecord} {room : ℕ} {a : SheetAnswer} (n : ℕ) → Within records room a → SheetFits n (length records) a
within-fits {records} n (short h) = refused-fits n (length records) 33 (omega arith)
within-fits n (fits h) = record { number = omega arith; line = omega arith; records = omega arith }

ended-fits : {number : List ℕ → ℕ} {lines : List (List ℕ)} {c : Course} (records : List SheetRecord) (room : ℕ) → Went number lines c
    → ((line : List ℕ) → number line ≤ most_number)
    → SheetFits (length lines) (length records) (course_answer number c records room)
ended-fits {lines = lines} records room (to_end a) h = within-fits (length lines) (within records room)
ended-fits {number} records room (up_to read line others a ne) h =
    let few = h line in
    rw (line-fails number read line records room)
    (record { number = omega arith; line = omega (arith, length-append read (line ∷ others)); records = omega arith })

answer-fits : (card sheet : List ℕ) (chart_room room : ℕ) (plans : List (List PlanStep))
    → SheetFits (length (lines_to_read card sheet)) (length (records_from card 0 plans)) (sheet_answer card sheet chart_room room plans)
answer-fits card sheet chart_room room plans = by-test (eqb (sheet_number card sheet) 0)
  where
    by-test : (b : Bool)
        → SheetFits (length (lines_to_read card sheet)) (length (records_from card 0 plans))
        (cond b (course_answer (read_number card chart_room) (sheet_course card sheet chart_room) (records_from card 0 plans) room)
        (refused_at (sheet_number card sheet) 0))
    by-test true =
        ended-fits (records_from card 0 plans) room (went (read_number card chart_room) (lines_to_read card sheet))
        (λ line. (read_fits card line chart_room own_plan_room).number)
    by-test false = refused-fits _ _ (sheet_number card sheet) (omega (arith, first-most (sheet_refusals card sheet)))

-- Of the promise. The records of all lines are at most 704.
all-few : {card sheet old_chart old_output new_chart new_output : List ℕ} {number line count : ℕ}
    → (p : Sheet card sheet old_chart old_output new_chart new_output number line count) → length (records_from card 0 p.plans) ≤ 704
all-few {card} {sheet} {old_chart} p =
    omega (
      arith,
      records-few p.each 0,
      course-few (went (read_number card (length old_chart)) (lines_to_read card sheet)),
      few-lines card sheet,
    )

-- So an output room of 2,112 bytes is enough for every sheet.
pub output-enough : {card sheet old_chart old_output new_chart new_output : List ℕ} {number line count : ℕ}
    → Sheet card sheet old_chart old_output new_chart new_output number line count → 2112 ≤ length old_output → number ≡ 33 → ⊥
output-enough {card} {sheet} {old_chart} {old_output} p h e =
    omega (
      arith,
      all-few p,
      output-short card sheet (length old_chart) (length old_output) p.plans (sym p.number_is ∙ e),
    )

pub sheet-fits : {card sheet old_chart old_output new_chart new_output : List ℕ} {number line count : ℕ}
    → Sheet card sheet old_chart old_output new_chart new_output number line count → (number ≤ most_number) × (line ≤ 64) × (count ≤ 704)
sheet-fits {card} {sheet} {old_chart} {old_output} p =
    let m = length old_chart in
    let small = answer-fits card sheet m (length old_output) p.plans in
    let few = few-lines card sheet in
    let read = course-few (went (read_number card m) (lines_to_read card sheet)) in (
      omega (arith, p.number_is, small.number),
      omega (arith, p.line_is, small.line, few),
      omega (arith, p.count_is, small.records, records-few p.each 0, read, few),
    )
