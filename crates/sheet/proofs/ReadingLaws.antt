-- Lines read one after the other: their records stand at the start of the room, and the others are left.
use Prim.Native.Nat.{ℕ, ◌+◌, ◌*◌, ◌≤◌, ◌<◌}
use native.Mathlib.Omega.{arith}
use mathlib.Core.Path.{Path, ◌≡◌, refl, sym, ◌∙◌, ap, subst}
use mathlib.Core.Bool.{Bool, true, false, false≢true}
use mathlib.Core.List.{List, [], ◌∷◌, ◌++◌, map, append_assoc, append-nil}
use mathlib.Core.Option.{none, some}
use lib.ListN.{length, take, length-append, length-map}
use Rattle.grammar.specs.Plan.{PlanStep}
use Rattle.grammar.specs.Pairs.{pairs_of}
use Rattle.layout.specs.Card.{grammar_of}
use Rattle.layout.proofs.Writing.{wrote-front}
use Rattle.split.specs.Lines.{lines_of}
use Rattle.sheet.specs.Sheet.{read_number, Course, course, tried, ChartsAfter, sheet_record, records_from, sheet_bytes, most_lines}
use Rattle.sheet.specs.Sheet.{refused_at, course_answer}
use Rattle.sheet.specs.Promise.{EachRead}
use Rattle.sheet.specs.Promise as promise
use Rattle.sheet.specs.Reading.{RoomForLine, Adds, Ends}
use Rattle.sheet.specs.declared.sheet_records.Records.{Records}
use Rattle.std.specs.Prelude.{Result, Ok, Err}
use Rattle.std.specs.Result.{is_ok, MatchResult}
use Rattle.sheet.specs.declared.Refused.{Refused}
use Rattle.refusals.specs.declared.Refusal.{Refusal}
use Rattle.refusals.specs.Number.{number_of, number_told}
use Rattle.refusals.proofs.NumberLaws.{numbered}
use Rattle.sheet.specs.Answered.{refused}
use Rattle.sheet.proofs.RecordLaws.{sheet-bytes-join, records-one-more}
use Rattle.sheet.proofs.CourseLaws.{AllRead, no_line, all-one-more, course-all, course-fails, line-fails, each-one-more, each-length, charts-one-more}

-- Lines are read, as many as `place` says, and the others are left: the records of the read ones.
pub record SoFar (card sheet old chart : List ℕ) (records : Records) (place : ℕ) (left : List (List ℕ)) : Type 0 where
  pub lines : List (List ℕ)
  pub split : lines_of sheet ≡ lines ++ left
  pub places : place ≡ length lines
  pub zeros : AllRead (read_number card (length old)) lines
  pub plans : List (List PlanStep)
  pub each : EachRead card lines plans
  pub charts : ChartsAfter card (read_number card (length old)) lines old chart
  pub same_length : length chart ≡ length old
  pub counted : records.count ≡ length (records_from card 0 plans)
  pub few : records.count ≤ 11 * place
  pub bytes : take (3 * records.count) records.room ≡ sheet_bytes (records_from card 0 plans)

pub none_yet : (card sheet chart : List ℕ) (records : Records) {left : List (List ℕ)} → left ≡ lines_of sheet → records.count ≡ 0
    → SoFar card sheet chart chart records 0 left
none_yet card sheet chart records e z =
    record {
      lines = [];
      split = sym e;
      places = refl;
      zeros = no_line;
      plans = [];
      each = promise.none;
      charts = refl;
      same_length = refl;
      counted = z;
      few = omega arith;
      bytes = rw z;
    }

pub at-place : {card sheet old chart : List ℕ} {records : Records} {place here : ℕ} {left : List (List ℕ)} → SoFar card sheet old chart records place left
    → here ≡ place → SoFar card sheet old chart records here left
at-place s e = rw e s

-- A result is one or the other.
abbrev is_err : {A E : Type 0} → Result A E → Bool
is_err (Ok x) = false
is_err (Err e) = true

err-ok : {A E : Type 0} {e : E} {x : A} → Path (Result A E) (Err e) (Ok x) → ⊥
err-ok p = false≢true (sym (ap is_err p))

pub ok-number : {A : Type 0} (x : Result A Refusal) → true ≡ is_ok x → number_told x ≡ 0
ok-number (Ok x) e = refl
ok-number (Err refusal) e = absurd (false≢true (sym e))

module _ {card sheet old chart : List ℕ} {records : Records} {place : ℕ} {left : List (List ℕ)}
    (s : SoFar card sheet old chart records place left) (most : length (lines_of sheet) ≤ most_lines) where
  pub few-places : place ≤ most_lines
  few-places = omega (arith, s.places, ap length s.split, length-append s.lines left)

  -- A line is to come: its place and its records have room.
  module _ {line : List ℕ} {rest : List (List ℕ)} (e : left ≡ line ∷ rest) where
    pub place-below : place < most_lines
    place-below = omega (arith, s.places, ap length s.split, length-append s.lines left, ap length e)

    pub line-fits : RoomForLine records
    line-fits = omega (arith, s.few, place-below)

    split-there : lines_of sheet ≡ s.lines ++ (line ∷ rest)
    split-there = s.split ∙ ap (λ (l : List (List ℕ)). s.lines ++ l) e

    module _ {new_chart : List ℕ} {new : Records} {r : ℕ} (a : Adds card line place chart new_chart records new r)
        (long : length new_chart ≡ length chart) where
      number_is : r ≡ read_number card (length old) line
      number_is = a.number ∙ ap (λ (n : ℕ). read_number card n line) s.same_length

      charts-there : ChartsAfter card (read_number card (length old)) (s.lines ++ (line ∷ [])) old new_chart
      charts-there =
          let c = rw s.same_length at a.chart in
          charts-one-more card (read_number card (length old)) s.lines line old chart new_chart s.charts c

      -- It is read.
      pub one_more : r ≡ 0 → SoFar card sheet old new_chart new (place + 1) rest
      one_more z =
          let read = a.read z in
          let own = map (sheet_record place) (pairs_of (grammar_of card) read.plan) in
          let lines_are : length s.plans ≡ place = each-length s.each ∙ sym s.places in
          let zero : 0 + length s.plans ≡ place = omega (arith, lines_are) in
          let all : records_from card 0 (s.plans ++ (read.plan ∷ [])) ≡ records_from card 0 s.plans ++ own =
          records-one-more card s.plans read.plan 0
          ∙ ap (λ (k : ℕ). records_from card 0 s.plans ++ map (sheet_record k) (pairs_of (grammar_of card) read.plan)) zero in
          record {
            lines = s.lines ++ (line ∷ []);
            split = split-there ∙ sym (append_assoc s.lines (line ∷ []) rest);
            places = omega (arith, s.places, length-append s.lines (line ∷ []));
            zeros = all-one-more line s.zeros (sym number_is ∙ z);
            plans = s.plans ++ (read.plan ∷ []);
            each = each-one-more s.each read.read;
            charts = charts-there;
            same_length = long ∙ s.same_length;
            counted =
                omega (
                  arith,
                  read.total,
                  s.counted,
                  ap length all,
                  length-append (records_from card 0 s.plans) own,
                  length-map (pairs_of (grammar_of card) read.plan) (sheet_record place),
                );
            few = omega (arith, read.total, read.few, s.few);
            bytes =
                wrote-front read.wrote
                ∙ ap (λ (l : List ℕ). l ++ sheet_bytes own) s.bytes
                ∙ sym (sheet-bytes-join (records_from card 0 s.plans) own)
                ∙ ap sheet_bytes (sym all);
          }

      -- It is not: reading ends here.
      pub fails-there : {refusal : Refusal} → number_of refusal ≡ r → Ends card sheet old new_chart new (Err (refused refusal place))
      fails-there {refusal} same =
          let number = read_number card (length old) in
          let is : course number (lines_of sheet) ≡ record { read = s.lines; failing = some line } =
          ap (course number) split-there
          ∙ course-fails line rest s.zeros (λ z. omega (arith, same, number_is, z, (numbered refusal).0)) in
          record {
            plans = s.plans;
            each = subst (λ (c : Course). EachRead card c.read s.plans) (sym is) s.each;
            chart = subst (λ (c : Course). ChartsAfter card number (tried c) old new_chart) (sym is) charts-there;
            answer =
                λ room. ap (λ (n : ℕ). refused_at n place) (same ∙ number_is) ∙ ap (refused_at (number line)) s.places
                ∙ sym (line-fails number s.lines line (records_from card 0 s.plans) room)
                ∙ ap (λ (c : Course). course_answer number c (records_from card 0 s.plans) room) (sym is);
            kept = tt;
          }

      -- The same where the refusal came with its place.
      pub fails-placed : (x : Result (Unit {0}) Refusal) {e : Refused} {Says : Refusal → Type 0} → number_told x ≡ r
          → MatchResult x (λ (u : Unit {0}). Path (Result (Unit {0}) Refused) (Err e) (Ok u)) Says
          → ((refusal : Refusal) → Says refusal → e ≡ refused refusal place) → Ends card sheet old new_chart new (Err e)
      fails-placed (Ok u) same cases says = absurd (err-ok cases)
      fails-placed (Err refusal) same cases says = rw (says refusal cases) (fails-there same)

  -- No line is left: every line is read.
  pub at-end : left ≡ [] → Ends card sheet old chart records (Ok tt)
  at-end e =
      let number = read_number card (length old) in
      let all : lines_of sheet ≡ s.lines = s.split ∙ ap (λ (l : List (List ℕ)). s.lines ++ l) e ∙ append-nil s.lines in
      let is : course number (lines_of sheet) ≡ record { read = s.lines; failing = none } = ap (course number) all ∙ course-all s.zeros in
      record {
        plans = s.plans;
        each = subst (λ (c : Course). EachRead card c.read s.plans) (sym is) s.each;
        chart =
            subst (λ (c : Course). ChartsAfter card number (tried c) old chart) (sym is)
            (subst (λ (l : List (List ℕ)). ChartsAfter card number l old chart) (sym (append-nil s.lines)) s.charts);
        answer = λ room. ap (λ (c : Course). course_answer number c (records_from card 0 s.plans) room) (sym is);
        kept = (s.counted, s.bytes);
      }
