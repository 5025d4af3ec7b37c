-- Each way out of a sheet keeps the whole promise: a refusal before any line, a line that fails, and all lines read.
-- What the number says of derivations follows from the answer alone, so only the answer and the rooms differ.
use Prim.Native.Nat.{ℕ, ◌*◌}
use native.Mathlib.Omega.{arith}
use mathlib.Core.Path.{◌≡◌, refl, sym, ◌∙◌, ap, subst}
use mathlib.Core.Bool.{true, false}
use mathlib.Core.List.{List, [], ◌∷◌}
use mathlib.Core.Option.{none}
use lib.Dec.{leb}
use lib.ListN.{length, take}
use borrow.Author.Tests.{ne_eqb}
use Rattle.grammar.specs.Plan.{PlanStep}
use Rattle.layout.specs.Refusals.{unless}
use Rattle.layout.specs.Card.{card_number, card_refusals}
use Rattle.layout.specs.Answers.{HasDerivation}
use Rattle.layout.proofs.RefusalLaws.{before-refuses, before-accepts}
use Rattle.split.specs.Lines.{lines_of}
use Rattle.sheet.specs.Sheet.{most_lines, sheet_number, read_number, Course, sheet_course, tried, ChartsAfter, output_after}
use Rattle.sheet.specs.Sheet.{records_from, SheetAnswer, refused_at, records_within, sheet_answer}
use Rattle.sheet.specs.Promise.{EachRead, line_at, Sheet}
use Rattle.sheet.specs.Promise as promise
use Rattle.sheet.specs.declared.sheet_records.Records.{Records}
use Rattle.sheet.specs.Reading.{Ends, HandsOut}
use Rattle.std.specs.Prelude.{Result, Ok, Err}
use Rattle.refusals.specs.declared.Refusal.{Refusal}
use Rattle.refusals.specs.Number.{number_of}
use Rattle.refusals.proofs.NumberLaws.{numbered}
use Rattle.sheet.specs.declared.Refused.{Refused}
use Rattle.sheet.specs.Answered.{answer_number, answer_line, answer_count}
use Rattle.sheet.proofs.AnswerLaws.{refused-answer, lines-course, lines-answer, zero-reads-all, refutes, own-room-enough, orders-accepted}

-- The card's number, then 41.
module _ (card sheet : List ℕ) where
  pub by-card : (card_number card ≡ 0 → ⊥) → sheet_number card sheet ≡ card_number card
  by-card ne = before-refuses (card_refusals card) (unless (leb (length (lines_of sheet)) most_lines) 41 ∷ []) ne

  module _ (z : card_number card ≡ 0) where
    pub by_lines : leb (length (lines_of sheet)) most_lines ≡ false → sheet_number card sheet ≡ 41
    by_lines e = before-accepts (card_refusals card) (unless (leb (length (lines_of sheet)) most_lines) 41 ∷ []) refl z ∙ rw e refl

    pub by-none : leb (length (lines_of sheet)) most_lines ≡ true → sheet_number card sheet ≡ 0
    by-none e = before-accepts (card_refusals card) (unless (leb (length (lines_of sheet)) most_lines) 41 ∷ []) refl z ∙ rw e refl

module _ (card sheet old_chart old_output : List ℕ) where
  -- The answer is a, and the rooms are as it says.
  sheet-is : {new_chart new_output : List ℕ} {number line count : ℕ} (plans : List (List PlanStep)) (a : SheetAnswer)
      → sheet_answer card sheet (length old_chart) (length old_output) plans ≡ a → number ≡ a.number → line ≡ a.line
      → count ≡ length a.records → EachRead card (sheet_course card sheet (length old_chart)).read plans
      → ChartsAfter card (read_number card (length old_chart)) (tried (sheet_course card sheet (length old_chart))) old_chart new_chart
      → new_output ≡ output_after a.records old_output → Sheet card sheet old_chart old_output new_chart new_output number line count
  sheet-is {number = number} {line = line} plans a e n l c each charts out =
      let m = length old_chart in
      let k = length old_output in
      let n-is : number ≡ (sheet_answer card sheet m k plans).number = n ∙ sym (ap (λ (x : SheetAnswer). x.number) e) in
      let l-is : line ≡ (sheet_answer card sheet m k plans).line = l ∙ sym (ap (λ (x : SheetAnswer). x.line) e) in
      record {
        plans = plans;
        each = each;
        number_is = n-is;
        line_is = l-is;
        count_is = c ∙ sym (ap (λ (x : SheetAnswer). length x.records) e);
        chart = charts;
        output = out ∙ sym (ap (λ (x : SheetAnswer). output_after x.records old_output) e);
        accepted =
            λ z. subst (λ (lines : List (List ℕ)). EachRead card lines plans)
            (zero-reads-all card sheet m k plans (sym n-is ∙ z)) each;
        none =
            λ z d. refutes card sheet m k plans (sym n-is ∙ z)
            (subst (λ (at : ℕ). HasDerivation card (line_at sheet at)) l-is d);
        own_room = λ z. own-room-enough card sheet m k plans (sym n-is ∙ z);
        whole = λ z orders fits. n-is ∙ orders-accepted card sheet m k plans z orders fits;
      }

  -- Before any line.
  pub refused-first : (e : Refusal) → number_of e ≡ sheet_number card sheet
      → Sheet card sheet old_chart old_output old_chart old_output (number_of e) 0 0
  refused-first e n =
      let m = length old_chart in
      let some = numbered e in
      let no : sheet_number card sheet ≡ 0 → ⊥ = λ z. omega (arith, n, z, some.0) in
      let is : sheet_course card sheet m ≡ record { read = []; failing = none } = rw (ne_eqb (sheet_number card sheet) 0 no) refl in
      sheet-is [] (refused_at (sheet_number card sheet) 0) (refused-answer card sheet m (length old_output) [] no) n refl refl
      (subst (λ (x : Course). EachRead card x.read []) (sym is) promise.none)
      (subst (λ (x : Course). ChartsAfter card (read_number card m) (tried x) old_chart old_chart) (sym is) refl)
      refl

  -- After the lines: what holds of their course holds of the sheet's.
  module _ {new_chart : List ℕ} (z : sheet_number card sheet ≡ 0) where
    -- A line fails.
    pub failed : {records : Records} {why : Refused} → Ends card sheet old_chart new_chart records (Err why)
        → Sheet card sheet old_chart old_output new_chart old_output (number_of why.refusal) why.line 0
    failed {why = why} x =
        let m = length old_chart in
        let k = length old_output in
        let plans = x.plans in
        let course-is = lines-course card sheet m k plans z in
        sheet-is plans (refused_at (number_of why.refusal) why.line) (lines-answer card sheet m k plans z ∙ sym (x.answer k)) refl refl refl
        (subst (λ (y : Course). EachRead card y.read plans) (sym course-is) x.each)
        (subst (λ (y : Course). ChartsAfter card (read_number card m) (tried y) old_chart new_chart) (sym course-is) x.chart)
        refl

    -- All are read, and the bytes of their records are handed out.
    pub all_read : {records : Records} {bytes new_output : List ℕ} {r : Result ℕ Refused}
        → Ends card sheet old_chart new_chart records (Ok tt) → bytes ≡ take (3 * records.count) records.room
        → HandsOut bytes records.count old_output new_output r
        → Sheet card sheet old_chart old_output new_chart new_output (answer_number r) (answer_line r) (answer_count r)
    all_read x is hands =
        let m = length old_chart in
        let k = length old_output in
        let plans = x.plans in
        let (counted, taken) = x.kept in
        let all = records_from card 0 plans in
        let h = hands all counted (is ∙ taken) in
        let course-is = lines-course card sheet m k plans z in
        sheet-is plans (records_within all k) (lines-answer card sheet m k plans z ∙ sym (x.answer k)) h.number h.line h.count
        (subst (λ (y : Course). EachRead card y.read plans) (sym course-is) x.each)
        (subst (λ (y : Course). ChartsAfter card (read_number card m) (tried y) old_chart new_chart) (sym course-is) x.chart)
        h.output
