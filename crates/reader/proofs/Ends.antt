-- Each way out of Read keeps the whole promise: a refusal of the input, 32, 31, and what was found in the chart.
-- What the number says of derivations follows from the answer alone, so only the answer and the rooms differ.
use Prim.Native.Nat.{ℕ, ◌≤◌, ◌<◌}
use native.Mathlib.Omega.{arith}
use mathlib.Core.Path.{Path, ◌≡◌, refl, sym, ◌∙◌, ap, subst}
use mathlib.Core.Bool.{Bool, true, false}
use mathlib.Core.List.{List}
use lib.Dec.{eqb}
use lib.ListN.{length}
use borrow.Author.Tests.{ne_eqb}
use Rattle.layout.specs.Card.{card_number}
use Rattle.layout.specs.Steps.{plan_room}
use Rattle.layout.specs.Answers.{input_number, words_in, line_test, derivable, start_found, ReadAnswer, refusal, found, read_answer}
use Rattle.layout.specs.Answers.{ChartState, chart_state, ChartAfter, PlanAfter}
use Rattle.layout.proofs.Accepting.{accepted-line, input-of-card}
use Rattle.layout.proofs.Planning.{plan-written}
use Rattle.layout.proofs.Reading.{read-derivation, no-reading, derivation-read}
use Rattle.places.specs.declared.Words.{Words}
use Rattle.refusals.specs.declared.Refusal.{Refusal}
use Rattle.refusals.specs.declared.Refusal.TheVariants.{ChartRoom, PlanRoom}
use Rattle.refusals.specs.Number.{number_of}
use Rattle.refusals.proofs.NumberLaws.{numbered}
use Rattle.line.specs.Accepted.{Accepts}
use Rattle.places.specs.Places.{word_test}
use Rattle.line.proofs.AcceptedLaws.{answered-number, answered-line, answered-count, answered_test, answered-refusal}
use Rattle.chart.specs.Built.{BuiltRoom}
use Rattle.unfold.specs.Unfold.{Held, start_number, start_steps, Found}
use Rattle.std.specs.Prelude.{Option, Some, None, Result, Ok, Err}
use Rattle.std.specs.Option.{ok_or}
use Rattle.std.proofs.lemmas.Result.{IfErr-at_err}
use Rattle.reader.specs.declared.read.Reading.{Reading}
use Rattle.reader.specs.Read.{answer_from, read_number, Reads}
use Rattle.chart.proofs.BuiltLaws.{built-more}
use Rattle.reader.specs.Ended.{Charted, RoomAfter, PlanOf}
use Rattle.reader.proofs.Answers.{answer-refused, answer-short, answer-over, answer-found, no-chart}
use Rattle.reader.proofs.Starts.{room_after, held, counts-items, items-fit, start-there, start_first, start-missing}

-- The answer is a, and the rooms are as its number says.
reads : {card line old_chart old_plan new_chart new_plan : List ℕ} {r : Result Reading Refusal} (a : ReadAnswer) → answer_from r ≡ a
    → read_answer card line (length old_chart) (length old_plan) ≡ a → ChartAfter card line (chart_state a.number) old_chart new_chart
    → PlanAfter card line (eqb a.number 0) old_plan new_plan → Reads card line old_chart old_plan new_chart new_plan r
reads {card} {line} {old_chart} {old_plan} {new_chart} {new_plan} {r} a same due chart plan =
    let m = length old_chart in
    let k = length old_plan in
    let number : read_number r ≡ (read_answer card line m k).number = ap (λ (x : ReadAnswer). x.number) (same ∙ sym due) in
    record {
      answer = same ∙ sym due;
      chart = subst (λ (x : ReadAnswer). ChartAfter card line (chart_state x.number) old_chart new_chart) (sym same) chart;
      plan = subst (λ (x : ReadAnswer). PlanAfter card line (eqb x.number 0) old_plan new_plan) (sym same) plan;
      read = λ e. read-derivation card line m k (sym number ∙ e);
      none = λ e. no-reading card line m k (sym number ∙ e);
      whole = λ i enough d. number ∙ ap (λ (x : ReadAnswer). x.number) (derivation-read card line m k i enough d);
    }

-- With the chart in its room.
module _ (card line old_chart old_plan new_chart new_plan : List ℕ) (r : Reading) (count : ℕ) (input : input_number card line ≡ 0)
    (enough : plan_room (words_in line) ≤ length old_plan)
    (built : BuiltRoom card (line_test card line) (words_in line) (Some count) old_chart new_chart) where
  card_accepted : card_number card ≡ 0
  card_accepted = (accepted-line card line input).card_accepted

  answer-due : (b : Bool) → start_found card line ≡ b
      → read_answer card line (length old_chart) (length old_plan) ≡ found b (words_in line) count
  answer-due b e =
      answer-found card line (length old_chart) (length old_plan) input enough
      (items-fit card line old_chart new_chart count card_accepted built)
      ∙ (ap (λ (t : Bool). found t (words_in line) (length (derivable card line))) e
      ∙ ap (found b (words_in line)) (sym (counts-items card line old_chart new_chart count card_accepted built)))

  found-ends : (start : Option ℕ) → Found new_chart count (words_in line) start
      → answer_from (Ok r) ≡ record { number = start_number start; words = words_in line; items = count; steps = start_steps (words_in line) start }
      → RoomAfter card (line_test card line) new_chart count start old_plan new_plan
      → Reads card line old_chart old_plan new_chart new_plan (Ok r)
  found-ends (Some m) f e plan =
      reads (found true (words_in line) count) e
      (answer-due true (start-there card line old_chart new_chart count card_accepted built m f))
      (room_after card line old_chart new_chart count card_accepted built)
      (plan-written card line plan.steps input
      (start_first card line old_chart new_chart count card_accepted built m f plan.way) plan.written)
  found-ends None f e plan =
      reads (found false (words_in line) count) e
      (answer-due false (start-missing card line old_chart new_chart count card_accepted built f))
      (room_after card line old_chart new_chart count card_accepted built) plan

-- A refusal of card or line.
pub ends-input : (card line old_chart old_plan : List ℕ) (e : Refusal) → number_of e ≡ input_number card line
    → Reads card line old_chart old_plan old_chart old_plan (Err e)
ends-input card line old_chart old_plan e same =
    let number = input_number card line in
    let some = numbered e in
    let other : number ≡ 0 → ⊥ = λ z. omega (arith, same, z, some.0) in
    reads (refusal number) (ap refusal same) (answer-refused card line (length old_chart) (length old_plan) other)
    (subst (λ (t : ChartState). ChartAfter card line t old_chart old_chart) (sym (no-chart card line other)) refl)
    (subst (λ (t : Bool). PlanAfter card line t old_plan old_plan) (sym (ne_eqb number 0 other)) refl)

pub ends-card : (card line old_chart old_plan : List ℕ) (e : Refusal) → number_of e ≡ card_number card
    → Reads card line old_chart old_plan old_chart old_plan (Err e)
ends-card card line old_chart old_plan e same =
    let some = numbered e in
    ends-input card line old_chart old_plan e (same ∙ sym (input-of-card card line λ z. absurd (omega (arith, same, z, some.0))))

pub ends-line : (card line old_chart old_plan : List ℕ) {refusal : Refusal} → Accepts card line (Err refusal)
    → Reads card line old_chart old_plan old_chart old_plan (Err refusal)
ends-line card line old_chart old_plan {refusal} x = ends-input card line old_chart old_plan refusal (answered-refusal x)

module _ (card line old_chart old_plan : List ℕ) {w : Words} (x : Accepts card line (Ok w)) where
  pub ends-short : length old_plan < plan_room w.count → Reads card line old_chart old_plan old_chart old_plan (Err PlanRoom)
  ends-short h =
      reads (refusal 32) refl
      (answer-short card line (length old_chart) (length old_plan) (answered-number x)
      (subst (λ (n : ℕ). length old_plan < plan_room n) (answered-count x) h))
      refl refl

  module _ (new_chart : List ℕ) (enough : plan_room w.count ≤ length old_plan) where
    line-built : (b : Option ℕ) → BuiltRoom card (word_test w.places) w.count b old_chart new_chart
        → BuiltRoom card (line_test card line) (words_in line) b old_chart new_chart
    line-built b made =
        subst (λ (n : ℕ). BuiltRoom card (line_test card line) n b old_chart new_chart) (answered-count x)
        (subst (λ (test : ℕ → ℕ → Bool). BuiltRoom card test w.count b old_chart new_chart) (answered_test x) made)

    room-enough : plan_room (words_in line) ≤ length old_plan
    room-enough = subst (λ (n : ℕ). plan_room n ≤ length old_plan) (answered-count x) enough

    pub ends-over : BuiltRoom card (word_test w.places) w.count None old_chart new_chart
        → Reads card line old_chart old_plan new_chart old_plan (Err ChartRoom)
    ends-over made =
        let full = line-built None made in
        reads (refusal 31) refl
        (answer-over card line (length old_chart) (length old_plan) (answered-number x) room-enough
        (built-more card (line_test card line) (words_in line) full))
        full.room refl

    -- As `ok_or` answers it: the room is too short where no count came.
    pub ends-full : {e : Refusal} {b : Option ℕ} → Path (Result ℕ Refusal) (Err e) (ok_or b ChartRoom) → b ≡ None
        → BuiltRoom card (word_test w.places) w.count b old_chart new_chart → Reads card line old_chart old_plan new_chart old_plan (Err e)
    ends-full {b = b} v none made =
        IfErr-at_err (λ e. Reads card line old_chart old_plan new_chart old_plan (Err e))
        (sym (v ∙ ap (λ (b : Option ℕ). ok_or b ChartRoom) none)) (ends-over (rw none at made))

    module _ (count : ℕ) (made : BuiltRoom card (word_test w.places) w.count (Some count) old_chart new_chart) where
      chart-held : Held card (line_test card line) new_chart count
      chart-held = held card line old_chart new_chart count (answered-line x).card_accepted (line-built (Some count) made)

      pub charted : Charted card new_chart w.count count old_plan
      charted =
          record {
            at = line_test card line;
            held = chart-held;
            some_words = x.words.some;
            short = w.few;
            room = enough;
          }

      pub ends_found : {new_plan : List ℕ} {r : Reading} → PlanOf card new_chart w.count count old_plan new_plan r
          → Reads card line old_chart old_plan new_chart new_plan (Ok r)
      ends_found {new_plan} {r} p =
          let q = subst (λ (n : ℕ). PlanOf card new_chart n count old_plan new_plan r) (answered-count x) p in
          found-ends card line old_chart old_plan new_chart new_plan r count (answered-number x) room-enough
          (line-built (Some count) made) q.start q.searched q.answer (q.plan (line_test card line) chart-held)
