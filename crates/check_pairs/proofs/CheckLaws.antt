-- Check's and Pairs' answers at each way that the code ends, with the tests before it as they were decided.
-- The replay's answer is the plan test's, since the machine on goals is the plan test and the places have the line's own test.
use Prim.Native.Nat.{ℕ, ◌*◌, ◌≤◌, ◌<◌}
use native.Mathlib.Omega.{arith}
use mathlib.Core.Path.{◌≡◌, refl, sym, ◌∙◌, ap}
use mathlib.Core.Bool.{Bool, true, false}
use mathlib.Core.List.{List, [], ◌∷◌}
use mathlib.Core.Option.{Option, none, some}
use lib.Dec.{eqb}
use lib.ListN.{length}
use borrow.Author.Tests.{eq-eqb, ne_eqb, lt-ltb, le-ltb}
use Rattle.grammar.specs.Plan.{PlanStep}
use Rattle.layout.specs.Refusals.{unless}
use Rattle.layout.specs.Card.{grammar_of, card_number}
use Rattle.layout.specs.Steps.{steps_of}
use Rattle.layout.specs.Answers.{words_in, line_test, plan_passes, check_number, plan_pairs, pairs_after}
use Rattle.layout.proofs.CardLaws.{card-one-sided}
use Rattle.layout.proofs.RefusalLaws.{accepts, holding, failing, decides-first}
use Rattle.layout.proofs.Accepting.{input-of-card, check-of-input, check-of-plan}
use Rattle.places.specs.Places.{word_test}
use Rattle.line.specs.Accepted.{Accepts}
use Rattle.places.specs.declared.Words.{Words}
use Rattle.refusals.specs.declared.Refusal.{Refusal}
use Rattle.refusals.specs.declared.Refusal.TheVariants.{OutputRoom}
use Rattle.refusals.specs.Number.{number_of}
use Rattle.refusals.proofs.NumberLaws.{numbered}
use Rattle.std.proofs.Common.{Result, Ok, Err}
use Rattle.line.proofs.AcceptedLaws.{answered-number, answered-count, answered_test, answered-refusal}
use Rattle.goals.specs.Goals.{goals_start, replay_from}
use Rattle.goals.proofs.GoalsTest.{goals-pass}
use Rattle.check_pairs.specs.Paired.{PairsOf, Pairs}

-- The card's number where it is refused, and then the line's.
pub check-card : (card line plan : List ℕ) (refusal : Refusal) → number_of refusal ≡ card_number card → number_of refusal ≡ check_number card line plan
check-card card line plan refusal e =
    let some = numbered refusal in
    let same = input-of-card card line λ z. absurd (omega (arith, e, z, some.0)) in
    e ∙ sym same ∙ sym (check-of-input card line plan λ z. absurd (omega (arith, e, same, z, some.0)))

pub check-refused : (card line plan : List ℕ) {refusal : Refusal} → Accepts card line (Err refusal) → number_of refusal ≡ check_number card line plan
check-refused card line plan {refusal} x =
    let some = numbered refusal in
    answered-refusal x ∙ sym (check-of-input card line plan λ z. absurd (omega (arith, answered-refusal x, z, some.0)))

replay-passes : (card line : List ℕ) (o : Option (List PlanStep))
    → replay_from (grammar_of card) (line_test card line) (goals_start (words_in line)) o ≡ plan_passes card line o
replay-passes card line none = refl
replay-passes card line (some plan) = goals-pass (grammar_of card) (line_test card line) (card-one-sided card) (words_in line) plan

module _ (card line plan : List ℕ) {words : Words} (x : Accepts card line (Ok words)) {b : Bool}
    (e : b ≡ replay_from (grammar_of card) (word_test words.places) (goals_start words.count) (steps_of plan)) where
  decided : b ≡ plan_passes card line (steps_of plan)
  decided =
      let g = grammar_of card in
      let o = steps_of plan in
      e
      ∙ ap (λ (test : ℕ → ℕ → Bool). replay_from g test (goals_start words.count) o) (answered_test x)
      ∙ ap (λ (n : ℕ). replay_from g (line_test card line) (goals_start n) o) (answered-count x)
      ∙ replay-passes card line o

  pub check-fails : b ≡ false → 34 ≡ check_number card line plan
  check-fails f =
      decides-first (unless (plan_passes card line (steps_of plan)) 34 ∷ []) (failing (sym decided ∙ f))
      ∙ sym (check-of-plan card line plan (answered-number x))

  pub check-passes : b ≡ true → 0 ≡ check_number card line plan
  check-passes f =
      decides-first (unless (plan_passes card line (steps_of plan)) 34 ∷ []) (holding (sym decided ∙ f) accepts)
      ∙ sym (check-of-plan card line plan (answered-number x))

-- The pairs of a plan that passes.
module _ (card plan room : List ℕ) (count : ℕ) (c : count ≡ length (plan_pairs card (steps_of plan))) where
  pub pairs-short : length room < 2 * count → PairsOf card plan room room (Err OutputRoom)
  pairs-short h =
      let d = lt-ltb (length room) (2 * length (plan_pairs card (steps_of plan))) (rw c at h) in
      record { number = rw d; count = rw d; room = rw d }

  pub pairs-written : (after : List ℕ) → 2 * count ≤ length room → after ≡ pairs_after (plan_pairs card (steps_of plan)) room
      → PairsOf card plan room after (Ok count)
  pairs-written after h w =
      let d = le-ltb (length room) (2 * length (plan_pairs card (steps_of plan))) (rw c at h) in
      record { number = rw d; count = rw d c; room = rw d w }

-- Pairs: Check's refusals first.
module _ (card line plan room : List ℕ) where
  pub pairs-refused : (refusal : Refusal) → number_of refusal ≡ check_number card line plan → Pairs card line plan room room (Err refusal)
  pairs-refused refusal e =
      let some = numbered refusal in
      let d : eqb (check_number card line plan) 0 ≡ false = ne_eqb (check_number card line plan) 0 (λ z. omega (arith, e, z, some.0)) in
      record { number = rw d e; count = rw d; room = rw d }

  pub pairs-passed : {after : List ℕ} {r : Result ℕ Refusal} → check_number card line plan ≡ 0 → PairsOf card plan room after r
      → Pairs card line plan room after r
  pairs-passed z p =
      let d = eq-eqb (check_number card line plan) 0 z in
      record { number = rw d p.number; count = rw d p.count; room = rw d p.room }
