-- What a sheet's answer says, from the definitions alone: 0 that every line was read, 25 that the given line has no derivation, 33 that the
-- output room is too short for the records. 32 is never given, and a sheet of orders with room enough is accepted.
use Prim.Native.Nat.{ℕ, ◌*◌, ◌≤◌, ◌<◌}
use native.Mathlib.Omega.{arith}
use mathlib.Core.Path.{◌≡◌, refl, sym, ◌∙◌, ap}
use mathlib.Core.Logic.{◌⊎◌, inl, inr}
use mathlib.Core.Bool.{Bool, true, false, cond, false≢true}
use mathlib.Core.List.{List, [], ◌∷◌, ◌++◌, Memᴰ}
use mathlib.Core.Option.{some}
use lib.Dec.{eqb, ltb}
use lib.ListN.{length, get_or}
use lib.Seq.{get_or-append_seam}
use borrow.Author.Tests.{eqb-true, eqb-false, eq-eqb, ne_eqb, le-ltb}
use Rattle.grammar.specs.Plan.{PlanStep}
use Rattle.grammar.specs.ItemList.{item, among}
use Rattle.grammar.specs.Items.{bare}
use Rattle.layout.specs.Steps.{plan_room}
use Rattle.layout.specs.Answers.{input_refusals, input_number, words_in, derivable, refusal, found, outnumber, ReadAnswer, HasDerivation}
use Rattle.layout.proofs.RefusalLaws.{first-other}
use Rattle.layout.proofs.Accepting.{accepted-line}
use Rattle.layout.proofs.Reading.{no-reading, read-never-15, derivation-read}
use Rattle.split.specs.Lines.{lines_of}
use Rattle.sheet.specs.Sheet.{sheet_refusals, sheet_number, own_plan_room, read_number, Course, course, sheet_course}
use Rattle.sheet.specs.Sheet.{SheetRecord, SheetAnswer, refused_at, records_from, course_answer, sheet_answer}
use Rattle.sheet.specs.Promise.{Order, line_at}
use Rattle.sheet.proofs.Within.{Within, short, fits, within}
use Rattle.sheet.proofs.CourseLaws.{AllRead, no_line, one_line, course-all, line-fails, Went, to_end, up_to, went}

-- A line's number is none above 25 but 31 and what card and line give. So it is never 32: the reader's own plan room is enough for 24 words.
no_other : (b s o f : Bool) (x n count v : ℕ) → (x ≡ v → ⊥) → (b ≡ true → s ≡ false) → 25 < v → (v ≡ 31 → ⊥)
    → (cond b (cond s (refusal 32) (cond o (refusal 31) (found f n count))) (refusal x)).number ≡ v → ⊥
no_other false s o f x n count v h k above not31 e = h e
no_other true true o f x n count v h k above not31 e = false≢true (sym (k refl))
no_other true false true f x n count v h k above not31 e = not31 (sym e)
no_other true false false true x n count v h k above not31 e = omega arith
no_other true false false false x n count v h k above not31 e = omega arith

never_other : (card : List ℕ) (chart_room : ℕ) (line : List ℕ) (v : ℕ) → (input_number card line ≡ v → ⊥) → 25 < v → (v ≡ 31 → ⊥)
    → read_number card chart_room line ≡ v → ⊥
never_other card chart_room line v other =
    let x = input_number card line in
    let n = words_in line in
    let all = derivable card line in
    no_other (eqb x 0) (ltb own_plan_room (plan_room n)) (outnumber all chart_room) (among (item 0 0 n bare) all) x n (length all) v
    other
    (λ e. le-ltb own_plan_room (plan_room n) (omega (arith, (accepted-line card line (eqb-true x 0 e)).most_words)))

pub never-short : (card : List ℕ) (chart_room : ℕ) (line : List ℕ) → read_number card chart_room line ≡ 32 → ⊥
never-short card chart_room line = never_other card chart_room line 32 (first-other 31 (input_refusals card line) refl) (omega arith) (omega arith)

-- The records' own numbers.
own-number : {records : List SheetRecord} {room : ℕ} {a : SheetAnswer} → Within records room a → (a.number ≡ 0) ⊎ (a.number ≡ 33)
own-number (short h) = inr refl
own-number (fits h) = inl refl

own-short : {records : List SheetRecord} {room : ℕ} {a : SheetAnswer} → Within records room a → a.number ≡ 33 → room < 3 * length records
own-short (short h) e = h
own-short (fits h) e = absurd (omega arith)

-- Of any numbers of lines.
module _ (number : List ℕ → ℕ) (records : List SheetRecord) (room : ℕ) where
  abbrev ended : Course → SheetAnswer
  ended c = course_answer number c records room

  own-number-is : (read : List (List ℕ)) (line : List ℕ) → number line ≡ (ended (record { read = read; failing = some line })).number
  own-number-is read line = sym (ap (λ (a : SheetAnswer). a.number) (line-fails number read line records room))

  zero-all : {lines : List (List ℕ)} {c : Course} → Went number lines c → (ended c).number ≡ 0 → c.read ≡ lines
  zero-all (to_end a) e = refl
  zero-all (up_to read line others a ne) e = absurd (ne (own-number-is read line ∙ e))

  -- A number that no records give is that of the line whose place is given.
  other-line : {lines : List (List ℕ)} {c : Course} (x : ℕ) → Went number lines c → (x ≡ 0 → ⊥) → (x ≡ 33 → ⊥) → (ended c).number ≡ x
      → number (get_or lines (ended c).line []) ≡ x
  other-line x (to_end a) n0 n33 e =
      absurd (elim (own-number (within records room)) [ inl z ↦ n0 (sym e ∙ z) | inr z ↦ n33 (sym e ∙ z) ])
  other-line x (up_to read line others a ne) n0 n33 e =
      ap (λ (a : SheetAnswer). number (get_or (read ++ (line ∷ others)) a.line [])) (line-fails number read line records room)
      ∙ ap number (get_or-append_seam read line others []) ∙ own-number-is read line ∙ e

  -- 33 is the records' own, and says that the room is too short for them.
  short-records : {lines : List (List ℕ)} {c : Course} → Went number lines c → ((line : List ℕ) → number line ≡ 33 → ⊥)
      → (ended c).number ≡ 33 → room < 3 * length records
  short-records (to_end a) never e = own-short (within records room) e
  short-records (up_to read line others a ne) never e = absurd (never line (own-number-is read line ∙ e))

module _ (card sheet : List ℕ) (chart_room room : ℕ) (plans : List (List PlanStep)) where
  abbrev number : List ℕ → ℕ
  number = read_number card chart_room

  abbrev records : List SheetRecord
  records = records_from card 0 plans

  -- Refused before any line.
  pub refused-answer : (sheet_number card sheet ≡ 0 → ⊥) → sheet_answer card sheet chart_room room plans ≡ refused_at (sheet_number card sheet) 0
  refused-answer ne = rw (ne_eqb (sheet_number card sheet) 0 ne)

  -- Not refused: the lines decide.
  pub lines-course : sheet_number card sheet ≡ 0 → sheet_course card sheet chart_room ≡ course number (lines_of sheet)
  lines-course z = rw (eq-eqb (sheet_number card sheet) 0 z)

  pub lines-answer : sheet_number card sheet ≡ 0
      → sheet_answer card sheet chart_room room plans ≡ ended number records room (course number (lines_of sheet))
  lines-answer z = rw (eq-eqb (sheet_number card sheet) 0 z)

  by_number : (x : ℕ) {P : Type 0} → (sheet_number card sheet ≡ x → sheet_number card sheet ≡ 0)
      → (sheet_number card sheet ≡ 0 → P) → (sheet_answer card sheet chart_room room plans).number ≡ x → P
  by_number x {P} f g e = by-test (eqb (sheet_number card sheet) 0) refl
    where
      by-test : (b : Bool) → eqb (sheet_number card sheet) 0 ≡ b → P
      by-test true t = g (eqb-true (sheet_number card sheet) 0 t)
      by-test false t =
          let ne = eqb-false (sheet_number card sheet) 0 t in
          absurd (ne (f (sym (ap (λ (a : SheetAnswer). a.number) (refused-answer ne)) ∙ e)))

  pub zero-reads-all : (sheet_answer card sheet chart_room room plans).number ≡ 0
      → (sheet_course card sheet chart_room).read ≡ lines_of sheet
  zero-reads-all e =
      by_number 0 (λ z. z)
      (λ z. ap (λ (c : Course). c.read) (lines-course z)
      ∙ zero-all number records room (went number (lines_of sheet))
      (sym (ap (λ (a : SheetAnswer). a.number) (lines-answer z)) ∙ e)) e

  line-has : (x : ℕ) → (sheet_number card sheet ≡ x → sheet_number card sheet ≡ 0) → (x ≡ 0 → ⊥) → (x ≡ 33 → ⊥)
      → (sheet_answer card sheet chart_room room plans).number ≡ x
      → number (line_at sheet (sheet_answer card sheet chart_room room plans).line) ≡ x
  line-has x f n0 n33 e =
      by_number x f
      (λ z. ap (λ (a : SheetAnswer). number (line_at sheet a.line)) (lines-answer z)
      ∙ other-line number records room x (went number (lines_of sheet)) n0 n33
      (sym (ap (λ (a : SheetAnswer). a.number) (lines-answer z)) ∙ e)) e

  pub refutes : (sheet_answer card sheet chart_room room plans).number ≡ 25
      → HasDerivation card (line_at sheet (sheet_answer card sheet chart_room room plans).line) → ⊥
  refutes e =
      no-reading card (line_at sheet (sheet_answer card sheet chart_room room plans).line) chart_room own_plan_room
      (line-has 25 (λ y. absurd (first-other 24 (sheet_refusals card sheet) refl y)) (omega arith) (omega arith) e)

  pub own-room-enough : (sheet_answer card sheet chart_room room plans).number ≡ 32 → ⊥
  own-room-enough e =
      never-short card chart_room (line_at sheet (sheet_answer card sheet chart_room room plans).line)
      (line-has 32 (λ y. absurd (first-other 31 (sheet_refusals card sheet) refl y)) (omega arith) (omega arith) e)

  pub sheet-never-15 : (sheet_answer card sheet chart_room room plans).number ≡ 15 → ⊥
  sheet-never-15 e =
      read-never-15 card (line_at sheet (sheet_answer card sheet chart_room room plans).line) chart_room own_plan_room
      (line-has 15 (λ y. absurd (first-other 14 (sheet_refusals card sheet) refl y)) (omega arith) (omega arith) e)

  orders-read : (lines : List (List ℕ)) → ((k : List ℕ) → Memᴰ k lines → Order card chart_room k) → AllRead number lines
  orders-read [] h = no_line
  orders-read (line ∷ lines) h =
      let o = h line (Memᴰ.head refl) in
      one_line (ap (λ (a : ReadAnswer). a.number) (derivation-read card line chart_room own_plan_room o.accepted o.enough o.derivation))
      (orders-read lines (λ k m. h k (Memᴰ.tail m)))

  pub orders-accepted : sheet_number card sheet ≡ 0 → ((k : List ℕ) → Memᴰ k (lines_of sheet) → Order card chart_room k)
      → 3 * length records ≤ room → (sheet_answer card sheet chart_room room plans).number ≡ 0
  orders-accepted z h roomy =
      ap (λ (a : SheetAnswer). a.number)
      (lines-answer z ∙ ap (ended number records room) (course-all (orders-read (lines_of sheet) h)))
      ∙ rw (le-ltb room (3 * length records) roomy) refl

  pub output-short : (sheet_answer card sheet chart_room room plans).number ≡ 33 → room < 3 * length records
  output-short e =
      by_number 33 (λ y. absurd (first-other 32 (sheet_refusals card sheet) refl y))
      (λ z. short-records number records room (went number (lines_of sheet))
      (λ line. never_other card chart_room line 33 (first-other 32 (input_refusals card line) refl) (omega arith) (omega arith))
      (sym (ap (λ (a : SheetAnswer). a.number) (lines-answer z)) ∙ e)) e

  -- Where a line fails, the answer is the same whatever plans the others have.
  pub fails-whatever : {line : List ℕ} (others : List (List PlanStep)) → (sheet_course card sheet chart_room).failing ≡ some line
      → sheet_answer card sheet chart_room room plans ≡ sheet_answer card sheet chart_room room others
  fails-whatever {line} others e =
      let read = (sheet_course card sheet chart_room).read in
      rw e
      (ap (λ (a : SheetAnswer). cond (eqb (sheet_number card sheet) 0) a (refused_at (sheet_number card sheet) 0))
      (line-fails number read line records room ∙ sym (line-fails number read line (records_from card 0 others) room)))
