-- The smallest sheets. One of no bytes is accepted and touches nothing. One of one line without hex 0A is that line: it has the number that
-- Read gives with plan room enough, leaves the chart room as Read does, and its records are the pairs that Pairs gives for a plan that passes
-- Check.
use Prim.Native.Nat.{ℕ, ◌≤◌, ◌<◌}
use native.Mathlib.Omega.{arith}
use native.Mathlib.Decide.{ℕ_discrete}
use mathlib.Core.Path.{◌≡◌, refl, sym, ◌∙◌, ap, subst}
use mathlib.Core.Bool.{Bool, true, false, cond}
use mathlib.Core.List.{List, [], ◌∷◌, map, append-nil, Memᴰ}
use mathlib.Core.Option.{none, some}
use lib.Dec.{eqb, ltb}
use lib.ListN.{length}
use borrow.Author.Tests.{eqb-true, eq-eqb, ne_eqb, le-leb, le-ltb}
use Rattle.grammar.specs.ItemList.{item, among}
use Rattle.grammar.specs.Items.{bare}
use Rattle.grammar.specs.Plan.{PlanStep}
use Rattle.grammar.specs.Pairs.{pairs_of}
use Rattle.layout.specs.Card.{grammar_of, card_number}
use Rattle.layout.specs.Steps.{plan_bytes, plan_room}
use Rattle.layout.specs.Answers.{input_number, words_in, derivable, refusal, found, outnumber, ReadAnswer, read_answer, check_number}
use Rattle.layout.specs.Answers.{ChartState, chart_state, ChartAfter, PairsAnswer, plan_pairs, pairs_answer}
use Rattle.layout.proofs.Accepting.{accepted-line, input-of-card}
use Rattle.layout.proofs.Checking.{steps-bytes}
use Rattle.layout.proofs.Packing.{passing-pairs-few, passing-pairs}
use Rattle.reader.proofs.Answers.{answer-refused, no-chart}
use Rattle.split.specs.Lines.{newline, in_front, lines_of}
use Rattle.sheet.specs.Sheet.{most_lines, sheet_number, own_plan_room, read_number, Course, course, sheet_course, tried, ChartsAfter}
use Rattle.sheet.specs.Sheet.{SheetRecord, sheet_record, records_from, SheetAnswer, refused_at, records_within, course_answer, sheet_answer, output_after}
use Rattle.sheet.specs.Promise.{EachRead, more, Sheet}
use Rattle.sheet.specs.Promise as promise
use Rattle.sheet.proofs.Within.{Within, short, fits, within}
use Rattle.sheet.proofs.CourseLaws.{line-fails, each-length}
use Rattle.sheet.proofs.AnswerLaws.{refused-answer, lines-course, lines-answer}
use Rattle.sheet.proofs.Outcome.{by-card, by-none}

-- Its only line is itself.
one_of : (line : List ℕ) → 0 < length line → ((b : ℕ) → Memᴰ b line → b ≡ newline → ⊥) → lines_of line ≡ line ∷ []
one_of [] h n = absurd (omega arith)
one_of (b ∷ []) h n = rw (ne_eqb b newline (n b (Memᴰ.head refl)))
one_of (b ∷ c ∷ line) h n =
    rw (ne_eqb b newline (n b (Memᴰ.head refl)))
    (ap (in_front b) (one_of (c ∷ line) (omega arith) (λ x m. n x (Memᴰ.tail m))))

-- More plan room than any line needs changes no answer.
room-is : (b s t o f : Bool) (x n count : ℕ) → (b ≡ true → (s ≡ false) × (t ≡ false))
    → cond b (cond s (refusal 32) (cond o (refusal 31) (found f n count))) (refusal x)
    ≡ cond b (cond t (refusal 32) (cond o (refusal 31) (found f n count))) (refusal x)
room-is false s t o f x n count h = refl
room-is true s t o f x n count h = let (e, d) = h refl in rw (e, d) refl

more_room : (card line : List ℕ) (chart_room room : ℕ) → own_plan_room ≤ room
    → read_answer card line chart_room room ≡ read_answer card line chart_room own_plan_room
more_room card line chart_room room h =
    let x = input_number card line in
    let n = words_in line in
    let all = derivable card line in
    room-is (eqb x 0) (ltb room (plan_room n)) (ltb own_plan_room (plan_room n)) (outnumber all chart_room) (among (item 0 0 n bare) all) x n (length all)
    (λ e.
    let few = (accepted-line card line (eqb-true x 0 e)).most_words in
    (le-ltb room (plan_room n) (omega arith), le-ltb own_plan_room (plan_room n) (omega arith)))

-- The line that is given with records is 0.
line-zero : {records : List SheetRecord} {room : ℕ} {a : SheetAnswer} → Within records room a → a.line ≡ 0
line-zero (short h) = refl
line-zero (fits h) = refl

-- What Read and Pairs say of the line, with so much plan room and pair room.
pub record AsLine (card line old_chart old_output new_chart new_output : List ℕ) (plan_room' pair_room number at count : ℕ) : Type 0 where
  pub chart : ChartAfter card line (chart_state (read_answer card line (length old_chart) plan_room').number) old_chart new_chart
  pub place : at ≡ 0
  pub refused : ((read_answer card line (length old_chart) plan_room').number ≡ 0 → ⊥)
      → (number ≡ (read_answer card line (length old_chart) plan_room').number) × (count ≡ 0) × (new_output ≡ old_output)
  pub read : (read_answer card line (length old_chart) plan_room').number ≡ 0
      → (plan : List PlanStep) × (check_number card line (plan_bytes plan) ≡ 0)
      × (let a = records_within (map (sheet_record 0) (pairs_answer card line (plan_bytes plan) pair_room).pairs) (length old_output) in
      (number ≡ a.number) × (count ≡ length a.records) × (new_output ≡ output_after a.records old_output))

module _ {card line old_chart old_output new_chart new_output : List ℕ} {number at count : ℕ} (plan_room' pair_room : ℕ)
    (s : Sheet card line old_chart old_output new_chart new_output number at count) (some_bytes : 0 < length line)
    (no_end : (b : ℕ) → Memᴰ b line → b ≡ newline → ⊥) (plan-enough : own_plan_room ≤ plan_room') (pairs-enough : 22 ≤ pair_room) where
  abbrev m : ℕ
  m = length old_chart

  abbrev k : ℕ
  k = length old_output

  -- Read's number for the line, here and in the sheet.
  abbrev own : ℕ
  own = (read_answer card line m plan_room').number

  own_is : read_number card m line ≡ own
  own_is = sym (ap (λ (a : ReadAnswer). a.number) (more_room card line m plan_room' plan-enough))

  -- The parts of the answer, where it is a.
  module _ (a : SheetAnswer) (e : sheet_answer card line m k s.plans ≡ a) where
    number_told : number ≡ a.number
    number_told = s.number_is ∙ ap (λ (x : SheetAnswer). x.number) e

    at_in : at ≡ a.line
    at_in = s.line_is ∙ ap (λ (x : SheetAnswer). x.line) e

    count-in : count ≡ length a.records
    count-in = s.count_is ∙ ap (λ (x : SheetAnswer). length x.records) e

    output-in : new_output ≡ output_after a.records old_output
    output-in = s.output ∙ ap (λ (x : SheetAnswer). output_after x.records old_output) e

  as-refused : (own ≡ 0 → ⊥) → sheet_answer card line m k s.plans ≡ refused_at own 0
      → ChartAfter card line (chart_state own) old_chart new_chart
      → AsLine card line old_chart old_output new_chart new_output plan_room' pair_room number at count
  as-refused ne e c =
      record {
        chart = c;
        place = at_in (refused_at own 0) e;
        refused = λ _. (number_told (refused_at own 0) e, count-in (refused_at own 0) e, output-in (refused_at own 0) e);
        read = λ z. absurd (ne z);
      }

  -- The card is refused.
  by-a-card : (card_number card ≡ 0 → ⊥) → AsLine card line old_chart old_output new_chart new_output plan_room' pair_room number at count
  by-a-card ne =
      let input = input-of-card card line ne in
      let some_number : input_number card line ≡ 0 → ⊥ = λ z. ne (sym input ∙ z) in
      let own-input : own ≡ input_number card line = ap (λ (a : ReadAnswer). a.number) (answer-refused card line m plan_room' some_number) in
      let first : sheet_number card line ≡ own = by-card card line ne ∙ sym input ∙ sym own-input in
      let refuses : sheet_number card line ≡ 0 → ⊥ = λ z. some_number (sym own-input ∙ (sym first ∙ z)) in
      let is : sheet_course card line m ≡ record { read = []; failing = none } = rw (ne_eqb (sheet_number card line) 0 refuses) refl in
      let same : new_chart ≡ old_chart =
      subst (λ (c : Course). ChartsAfter card (read_number card m) (tried c) old_chart new_chart) is s.chart in
      as-refused (λ z. some_number (sym own-input ∙ z))
      (refused-answer card line m k s.plans refuses ∙ ap (λ (n : ℕ). refused_at n 0) first)
      (subst (λ (t : ChartState). ChartAfter card line t old_chart new_chart)
      (sym (ap chart_state own-input ∙ no-chart card line some_number)) same)

  -- It is not: the sheet's course is that of the one line.
  module _ (accepted : card_number card ≡ 0) where
    lines_are : lines_of line ≡ line ∷ []
    lines_are = one_of line some_bytes no_end

    none_first : sheet_number card line ≡ 0
    none_first = by-none card line accepted (le-leb (length (lines_of line)) most_lines (omega (arith, ap length lines_are)))

    course-is : sheet_course card line m ≡ course (read_number card m) (line ∷ [])
    course-is = lines-course card line m k s.plans none_first ∙ ap (course (read_number card m)) lines_are

    answer-is : {c : Course} → course (read_number card m) (line ∷ []) ≡ c
        → sheet_answer card line m k s.plans ≡ course_answer (read_number card m) c (records_from card 0 s.plans) k
    answer-is e =
        lines-answer card line m k s.plans none_first
        ∙ ap (λ (c : Course). course_answer (read_number card m) c (records_from card 0 s.plans) k)
        (ap (course (read_number card m)) lines_are ∙ e)

    -- The one read, whether or not it is of an order.
    chart-there : {c : Course} → course (read_number card m) (line ∷ []) ≡ c → tried c ≡ line ∷ []
        → ChartAfter card line (chart_state own) old_chart new_chart
    chart-there e t =
        let charts = subst (λ (c : Course). ChartsAfter card (read_number card m) (tried c) old_chart new_chart) (course-is ∙ e) s.chart in
        let (between, c, last) = subst (λ (l : List (List ℕ)). ChartsAfter card (read_number card m) l old_chart new_chart) t charts in
        subst (λ (n : ℕ). ChartAfter card line (chart_state n) old_chart new_chart) own_is
        (subst (ChartAfter card line (chart_state (read_number card m line)) old_chart) (sym last) c)

    by-a-line : (own ≡ 0 → ⊥) → AsLine card line old_chart old_output new_chart new_output plan_room' pair_room number at count
    by-a-line ne =
        let e : course (read_number card m) (line ∷ []) ≡ record { read = []; failing = some line } =
        rw (ne_eqb (read_number card m line) 0 (λ z. ne (sym own_is ∙ z))) refl in
        let fails = line-fails (read_number card m) [] line (records_from card 0 s.plans) k in
        as-refused ne (answer-is e ∙ fails ∙ ap (λ (n : ℕ). refused_at n 0) own_is) (chart-there e refl)

    -- An order: its one plan.
    as_read : (plans : List (List PlanStep)) → s.plans ≡ plans → own ≡ 0 → EachRead card (line ∷ []) plans
        → course (read_number card m) (line ∷ []) ≡ record { read = line ∷ []; failing = none }
        → AsLine card line old_chart old_output new_chart new_output plan_room' pair_room number at count
    as_read [] is z each e = elim each [ ]
    as_read (plan ∷ (other ∷ plans)) is z each e = absurd (omega (arith, each-length each))
    as_read (plan ∷ []) is z (more r promise.none) e =
        let bytes = plan_bytes plan in
        let passes = r.is_plan.passes in
        let pairs = (pairs_answer card line bytes pair_room).pairs in
        let few = passing-pairs-few card line bytes passes in
        let pairs-are : pairs ≡ pairs_of (grammar_of card) plan =
        ap (λ (a : PairsAnswer). a.pairs) (passing-pairs card line bytes pair_room passes (omega arith)) ∙ ap (plan_pairs card) (steps-bytes plan) in
        let records-are : records_from card 0 s.plans ≡ map (sheet_record 0) pairs =
        ap (records_from card 0) is ∙ append-nil (map (sheet_record 0) (pairs_of (grammar_of card) plan))
        ∙ ap (map (sheet_record 0)) (sym pairs-are) in
        let a = records_within (map (sheet_record 0) pairs) k in
        let answered : sheet_answer card line m k s.plans ≡ a =
        answer-is e ∙ ap (λ (records : List SheetRecord). records_within records k) records-are in
        record {
          chart = chart-there e refl;
          place = at_in a answered ∙ line-zero (within (map (sheet_record 0) pairs) k);
          refused = λ ne. absurd (ne z);
          read = λ _. (plan, passes, (number_told a answered, count-in a answered, output-in a answered));
        }

    by-an-order : own ≡ 0 → AsLine card line old_chart old_output new_chart new_output plan_room' pair_room number at count
    by-an-order z =
        let e : course (read_number card m) (line ∷ []) ≡ record { read = line ∷ []; failing = none } =
        rw (eq-eqb (read_number card m line) 0 (own_is ∙ z)) refl in
        as_read s.plans refl z (subst (λ (c : Course). EachRead card c.read s.plans) (course-is ∙ e) s.each) e

  pub one_line : AsLine card line old_chart old_output new_chart new_output plan_room' pair_room number at count
  one_line =
      elim (ℕ_discrete (card_number card) 0) [
        | yes accepted ↦ elim (ℕ_discrete own 0) [ yes z ↦ by-an-order accepted z | no ne ↦ by-a-line accepted ne ]
        | no ne ↦ by-a-card ne
      ]

-- A sheet of no bytes under an accepted card is accepted, with no records, and no room is touched.
pub no_bytes : {card old_chart old_output new_chart new_output : List ℕ} {number at count : ℕ}
    → Sheet card [] old_chart old_output new_chart new_output number at count → card_number card ≡ 0
    → (number ≡ 0) × (at ≡ 0) × (count ≡ 0) × (new_chart ≡ old_chart) × (new_output ≡ old_output)
no_bytes {card} {old_chart} {old_output} {new_chart} s accepted =
    let m = length old_chart in
    let k = length old_output in
    let z = by-none card [] accepted refl in
    let is = lines-course card [] m k s.plans z in
    let none_read = subst (λ (c : Course). EachRead card c.read s.plans) is s.each in
    let plans-are : s.plans ≡ [] = no-plans s.plans (omega (arith, each-length none_read)) in
    let e : sheet_answer card [] m k s.plans ≡ record { number = 0; line = 0; records = [] } =
    lines-answer card [] m k s.plans z
    ∙ ap (λ (plans : List (List PlanStep)). records_within (records_from card 0 plans) k) plans-are
    ∙ rw (le-ltb k 0 (omega arith)) refl in (
      s.number_is ∙ ap (λ (a : SheetAnswer). a.number) e,
      s.line_is ∙ ap (λ (a : SheetAnswer). a.line) e,
      s.count_is ∙ ap (λ (a : SheetAnswer). length a.records) e,
      subst (λ (c : Course). ChartsAfter card (read_number card m) (tried c) old_chart new_chart) is s.chart,
      s.output ∙ ap (λ (a : SheetAnswer). output_after a.records old_output) e,
    )
  where
    no-plans : (plans : List (List PlanStep)) → length plans ≡ 0 → plans ≡ []
    no-plans [] h = refl
    no-plans (plan ∷ plans) h = absurd (omega arith)
