-- What the builder's answer says, by its cases: a chart that fits counts every derivable item, and too many are more than the room holds.
use Prim.Native.Nat.{ℕ, ◌*◌, ◌≤◌, ◌<◌}
use native.Mathlib.Omega.{arith}
use mathlib.Core.Path.{◌≡◌, refl, ◌∙◌, ap}
use mathlib.Core.Bool.{Bool, true, false, cond}
use mathlib.Core.List.{List, ◌++◌}
use lib.ListN.{length, drop, replicate}
use Rattle.std.specs.Prelude.{Some, None}
use borrow.Author.Tests.{lt-ltb, le-ltb, ltb-true, ltb-false}
use Rattle.grammar.specs.Input.{Holds, Below}
use Rattle.grammar.specs.ItemList.{items}
use Rattle.grammar.specs.Chart.{Record, IsChart}
use Rattle.grammar.specs.Ways.{FirstSteps}
use Rattle.layout.specs.Card.{grammar_of}
use Rattle.layout.specs.Records.{chart_bytes, capacity}
use Rattle.layout.specs.Answers.{outnumber}
use Rattle.layout.proofs.Charts.{chart-length}
use Rattle.chart.specs.Built.{BuiltRoom}

-- Which of two numbers was answered tells the test.
was-false : (b : Bool) → ◌≡◌ {A = ℕ} 0 (cond b 31 0) → b ≡ false
was-false true e = absurd (omega arith)
was-false false e = refl

was-true : (b : Bool) → ◌≡◌ {A = ℕ} 31 (cond b 31 0) → b ≡ true
was-true true e = refl
was-true false e = absurd (omega arith)

module _ (card : List ℕ) (at : ℕ → ℕ → Bool) (n : ℕ) {old new : List ℕ} where
  pub too_many : capacity (length old) < length (items (grammar_of card) at n) → new ≡ replicate (length old) 0
      → BuiltRoom card at n None old new
  too_many h e =
      let over = lt-ltb (capacity (length old)) (length (items (grammar_of card) at n)) h in
      record { number = rw over; count = rw over; room = e }

  pub fitting : {count : ℕ} (c : List Record) → Below (Holds at) n → IsChart (grammar_of card) (Holds at) c
      → FirstSteps (grammar_of card) (Holds at) c → count ≡ length c → length c ≤ capacity (length old)
      → new ≡ chart_bytes c ++ drop (16 * length c) old → BuiltRoom card at n (Some count) old new
  fitting c below chart firsts same fits e =
      let all = chart-length (grammar_of card) at n below c chart in
      let within = le-ltb (capacity (length old)) (length (items (grammar_of card) at n)) (omega (arith, fits, all)) in
      record { number = rw within; count = rw within (same ∙ all); room = (c, chart, firsts, e) }

  pub built-more : BuiltRoom card at n None old new → capacity (length old) < length (items (grammar_of card) at n)
  built-more b = ltb-true (capacity (length old)) (length (items (grammar_of card) at n)) (was-true _ b.number)

  module _ {count : ℕ} (b : BuiltRoom card at n (Some count) old new) where
    pub built-count : count ≡ length (items (grammar_of card) at n)
    built-count =
        b.count ∙ ap (λ (t : Bool). cond t 0 (length (items (grammar_of card) at n)))
        (was-false (outnumber (items (grammar_of card) at n) (length old)) b.number)

    pub built-fits : length (items (grammar_of card) at n) ≤ capacity (length old)
    built-fits =
        ltb-false (capacity (length old)) (length (items (grammar_of card) at n))
        (was-false (outnumber (items (grammar_of card) at n) (length old)) b.number)
