-- Each part of a call's answer fits 16 bits, so that `pack` loses nothing: numbers have two digits, words are at most 24, items 65535, steps 47,
-- and a plan that passes has fewer than half as many pairs as words.
use Prim.Native.Nat.{ℕ, ◌+◌, ◌*◌, ◌≤◌}
use native.Mathlib.Omega.{arith}
use mathlib.Core.Path.{◌≡◌, refl}
use mathlib.Core.Bool.{Bool, true, false, cond}
use mathlib.Core.List.{List, []}
use lib.Dec.{eqb, ltb}
use lib.ListN.{length}
use borrow.Author.Tests.{eqb-true, eq-eqb, le-ltb, ltb-false}
use Rattle.grammar.specs.ItemList.{item, among}
use Rattle.grammar.specs.Items.{bare}
use Rattle.grammar.specs.Pairs.{Pair}
use Rattle.grammar.proofs.PairsCount.{pairs-half}
use Rattle.layout.specs.Records.{capacity}
use Rattle.layout.specs.Steps.{plan_room, steps_of}
use Rattle.layout.specs.Answers.{input_number, words_in, derivable, ReadAnswer, refusal, found, read_answer}
use Rattle.layout.specs.Answers.{check_number, plan_pairs, PairsAnswer, pairs_within, pairs_answer}
use Rattle.layout.proofs.Accepting.{most_number, accepted-line, input-small, check-small}
use Rattle.layout.proofs.CardLaws.{card-one-sided}
use Rattle.layout.proofs.Checking.{check_sound, steps-bytes}

-- Read.
pub record ReadFits (r : ReadAnswer) : Type 0 where
  pub number : r.number ≤ most_number
  pub words : r.words ≤ 24
  pub items : r.items ≤ 65535
  pub steps : r.steps ≤ 47

refusal-fits : (x : ℕ) → x ≤ most_number → ReadFits (refusal x)
refusal-fits x h = record { number = h; words = omega arith; items = omega arith; steps = omega arith }

found-fits : (f : Bool) (n count : ℕ) → n ≤ 24 → count ≤ 65535 → ReadFits (found f n count)
found-fits true n count h k = record { number = omega arith; words = h; items = k; steps = omega arith }
found-fits false n count h k = record { number = omega arith; words = h; items = k; steps = omega arith }

answer-fits : (b r o f : Bool) (x n count : ℕ) → x ≤ most_number → (b ≡ true → n ≤ 24) → (o ≡ false → count ≤ 65535)
    → ReadFits (cond b (cond r (refusal 32) (cond o (refusal 31) (found f n count))) (refusal x))
answer-fits false r o f x n count h k l = refusal-fits x h
answer-fits true true o f x n count h k l = refusal-fits 32 (omega arith)
answer-fits true false true f x n count h k l = refusal-fits 31 (omega arith)
answer-fits true false false f x n count h k l = found-fits f n count (k refl) (l refl)

pub read_fits : (card line : List ℕ) (chart_room room : ℕ) → ReadFits (read_answer card line chart_room room)
read_fits card line chart_room room =
    let x = input_number card line in
    let n = words_in line in
    let all = derivable card line in
    answer-fits (eqb x 0) (ltb room (plan_room n)) (ltb (capacity chart_room) (length all)) (among (item 0 0 n bare) all) x n (length all)
    (input-small card line) (λ e. (accepted-line card line (eqb-true x 0 e)).most_words)
    (λ e. omega (arith, ltb-false (capacity chart_room) (length all) e))

-- Pairs: a plan of n words that passes has at most (n − 1) / 2.
pub passing-pairs-half : (card line bytes : List ℕ) → check_number card line bytes ≡ 0
    → 2 * length (plan_pairs card (steps_of bytes)) + 1 ≤ words_in line
passing-pairs-half card line bytes e =
    let (e₁, plan, e₂, d) = check_sound card line bytes e in
    rw (e₂, steps-bytes plan) (pairs-half (card-one-sided card) d)

pub passing-pairs-few : (card line bytes : List ℕ) → check_number card line bytes ≡ 0 → length (plan_pairs card (steps_of bytes)) ≤ 11
passing-pairs-few card line bytes e =
    omega (arith, passing-pairs-half card line bytes e, (accepted-line card line (check_sound card line bytes e).0).most_words)

-- With room for them Pairs answers all of them.
pub passing-pairs : (card line bytes : List ℕ) (room : ℕ) → check_number card line bytes ≡ 0
    → 2 * length (plan_pairs card (steps_of bytes)) ≤ room
    → pairs_answer card line bytes room ≡ record { number = 0; pairs = plan_pairs card (steps_of bytes) }
passing-pairs card line bytes room e h =
    rw (eq-eqb (check_number card line bytes) 0 e, le-ltb room (2 * length (plan_pairs card (steps_of bytes))) h)

pub record PairsFit (r : PairsAnswer) : Type 0 where
  pub number : r.number ≤ most_number
  pub count : length r.pairs ≤ 47

within-fit : (short : Bool) (pairs : List Pair) → length pairs ≤ 47
    → PairsFit (cond short (record { number = 33; pairs = [] }) (record { number = 0; pairs = pairs }))
within-fit true pairs h = record { number = omega arith; count = omega arith }
within-fit false pairs h = record { number = omega arith; count = h }

pub pairs-fit : (card line plan : List ℕ) (room : ℕ) → PairsFit (pairs_answer card line plan room)
pairs-fit card line plan room = go (eqb (check_number card line plan) 0) refl
  where
    go : (b : Bool) → eqb (check_number card line plan) 0 ≡ b
        → PairsFit (cond b (pairs_within (plan_pairs card (steps_of plan)) room) (record { number = check_number card line plan; pairs = [] }))
    go true e =
        let pairs = plan_pairs card (steps_of plan) in
        let few = passing-pairs-few card line plan (eqb-true (check_number card line plan) 0 e) in
        within-fit (ltb room (2 * length pairs)) pairs (omega arith)
    go false e = record { number = check-small card line plan; count = omega arith }
