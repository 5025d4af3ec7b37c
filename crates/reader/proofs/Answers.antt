-- Read's answer in each of its cases, and what the rooms hold with a number that says nothing of a chart.
-- The tests are decided in their order; no number of card and line is 25 or 31.
use Prim.Native.Nat.{ℕ, ◌≤◌, ◌<◌}
use mathlib.Core.Path.{◌≡◌, refl}
use mathlib.Core.Bool.{true}
use mathlib.Core.List.{List}
use lib.Dec.{eqb}
use lib.ListN.{length}
use borrow.Author.Tests.{eq-eqb, ne_eqb, lt-ltb, le-ltb}
use Rattle.layout.specs.Refusals.{first_refusal}
use Rattle.layout.specs.Records.{capacity}
use Rattle.layout.specs.Steps.{plan_room}
use Rattle.layout.specs.Answers.{input_refusals, input_number, words_in, derivable, start_found, refusal, found, read_answer, chart_state, untouched}
use Rattle.layout.proofs.RefusalLaws.{first-other}

module _ (card line : List ℕ) (chart_room room : ℕ) where
  pub answer-refused : (input_number card line ≡ 0 → ⊥) → read_answer card line chart_room room ≡ refusal (input_number card line)
  answer-refused h = rw (ne_eqb (input_number card line) 0 h)

  module _ (accepted : input_number card line ≡ 0) where
    passed : eqb (input_number card line) 0 ≡ true
    passed = eq-eqb (input_number card line) 0 accepted

    pub answer-short : room < plan_room (words_in line) → read_answer card line chart_room room ≡ refusal 32
    answer-short h = rw (passed, lt-ltb room (plan_room (words_in line)) h)

    module _ (enough : plan_room (words_in line) ≤ room) where
      pub answer-over : capacity chart_room < length (derivable card line) → read_answer card line chart_room room ≡ refusal 31
      answer-over h =
          rw (
            passed,
            le-ltb room (plan_room (words_in line)) enough,
            lt-ltb (capacity chart_room) (length (derivable card line)) h,
          )

      pub answer-found : length (derivable card line) ≤ capacity chart_room
          → read_answer card line chart_room room ≡ found (start_found card line) (words_in line) (length (derivable card line))
      answer-found h =
          rw (
            passed,
            le-ltb room (plan_room (words_in line)) enough,
            le-ltb (capacity chart_room) (length (derivable card line)) h,
          )

pub no-chart : (card line : List ℕ) → (input_number card line ≡ 0 → ⊥) → chart_state (input_number card line) ≡ untouched
no-chart card line h =
    let l = input_refusals card line in
    rw (ne_eqb (first_refusal l) 0 h, ne_eqb (first_refusal l) 25 (first-other 24 l refl), ne_eqb (first_refusal l) 31 (first-other 30 l refl))
