-- The course of lines, to their end or up to the first that is not read; what was read and what the chart room went through, one line
-- more.
use Prim.Native.Nat.{ℕ, suc}
use mathlib.Core.Path.{◌≡◌, refl, ap, subst}
use mathlib.Core.Bool.{Bool, true, false, cond}
use mathlib.Core.List.{List, [], ◌∷◌, ◌++◌}
use mathlib.Core.Option.{none, some}
use lib.Dec.{eqb}
use lib.ListN.{length}
use borrow.Author.Tests.{eqb-true, eqb-false, eq-eqb, ne_eqb}
use Rattle.grammar.specs.Plan.{PlanStep}
use Rattle.layout.specs.Answers.{chart_state, ChartAfter}
use Rattle.sheet.specs.Sheet.{Course, read_first, course, ChartsAfter, SheetRecord, refused_at, course_answer}
use Rattle.sheet.specs.Promise.{LineRead, EachRead, none, more}

-- Every one of the lines has the number 0.
pub data AllRead (number : List ℕ → ℕ) : List (List ℕ) → Type 0 where
  no_line : AllRead number []
  one_line : {line : List ℕ} {lines : List (List ℕ)} → number line ≡ 0 → AllRead number lines → AllRead number (line ∷ lines)

pub all-one-more : {number : List ℕ → ℕ} {lines : List (List ℕ)} (line : List ℕ) → AllRead number lines → number line ≡ 0
    → AllRead number (lines ++ (line ∷ []))
all-one-more line no_line e = one_line e no_line
all-one-more line (one_line z a) e = one_line z (all-one-more line a e)

pub course-all : {number : List ℕ → ℕ} {lines : List (List ℕ)} → AllRead number lines
    → course number lines ≡ record { read = lines; failing = none }
course-all no_line = refl
course-all {number} (one_line {line} z a) = rw (eq-eqb (number line) 0 z) (ap (read_first line) (course-all a))

pub course-fails : {number : List ℕ → ℕ} {lines : List (List ℕ)} (line : List ℕ) (others : List (List ℕ)) → AllRead number lines
    → (number line ≡ 0 → ⊥) → course number (lines ++ (line ∷ others)) ≡ record { read = lines; failing = some line }
course-fails {number} line others no_line ne = rw (ne_eqb (number line) 0 ne)
course-fails {number} line others (one_line {line = first} z a) ne =
    rw (eq-eqb (number first) 0 z) (ap (read_first first) (course-fails line others a ne))

-- A line that fails gives its own number and its place, whatever the records and the room for them.
pub line-fails : (number : List ℕ → ℕ) (read : List (List ℕ)) (line : List ℕ) (records : List SheetRecord) (room : ℕ)
    → course_answer number (record { read = read; failing = some line }) records room ≡ refused_at (number line) (length read)
line-fails number read line records room = refl

-- How a course went, seen from its lines.
pub data Went (number : List ℕ → ℕ) : List (List ℕ) → Course → Type 0 where
  to_end : {lines : List (List ℕ)} → AllRead number lines → Went number lines (record { read = lines; failing = none })
  up_to : (read : List (List ℕ)) (line : List ℕ) (others : List (List ℕ)) → AllRead number read → (number line ≡ 0 → ⊥)
      → Went number (read ++ (line ∷ others)) (record { read = read; failing = some line })

went-first : {number : List ℕ → ℕ} {lines : List (List ℕ)} {c : Course} (line : List ℕ) → number line ≡ 0 → Went number lines c
    → Went number (line ∷ lines) (read_first line c)
went-first line z (to_end a) = to_end (one_line z a)
went-first first z (up_to read line others a ne) = up_to (first ∷ read) line others (one_line z a) ne

pub went : (number : List ℕ → ℕ) (lines : List (List ℕ)) → Went number lines (course number lines)
went number [] = to_end no_line
went number (line ∷ lines) = by-test (went number lines) (eqb (number line) 0) refl
  where
    by-test : Went number lines (course number lines) → (b : Bool) → eqb (number line) 0 ≡ b
        → Went number (line ∷ lines) (cond b (read_first line (course number lines)) (record { read = []; failing = some line }))
    by-test others true e = went-first line (eqb-true (number line) 0 e) others
    by-test others false e = up_to [] line lines no_line (eqb-false (number line) 0 e)

pub each-one-more : {card : List ℕ} {lines : List (List ℕ)} {plans : List (List PlanStep)} {line : List ℕ} {plan : List PlanStep}
    → EachRead card lines plans → LineRead card line plan → EachRead card (lines ++ (line ∷ [])) (plans ++ (plan ∷ []))
each-one-more none r = more r none
each-one-more (more s each) r = more s (each-one-more each r)

pub each-length : {card : List ℕ} {lines : List (List ℕ)} {plans : List (List PlanStep)} → EachRead card lines plans
    → length plans ≡ length lines
each-length none = refl
each-length (more s each) = ap suc (each-length each)

pub charts-one-more : (card : List ℕ) (number : List ℕ → ℕ) (lines : List (List ℕ)) (line before between after : List ℕ)
    → ChartsAfter card number lines before between → ChartAfter card line (chart_state (number line)) between after
    → ChartsAfter card number (lines ++ (line ∷ [])) before after
charts-one-more card number [] line before between after s c =
    (after, subst (λ (b : List ℕ). ChartAfter card line (chart_state (number line)) b after) s c, refl)
charts-one-more card number (first ∷ lines) line before between after (here, d, s) c =
    (here, d, charts-one-more card number lines line here between after s c)
