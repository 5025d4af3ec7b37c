-- Bits of a number, for sets of small numbers.
use Rattle.std.specs.Prelude.{ℕ, zero, suc, ◌/◌, ◌%◌, ◌^◌, ◌<◌, ◌≡◌, Bool, cond, List, [], ◌∷◌, eqb, Option, MatchOption}
use Rattle.std.specs.Int.Bits.{bit_and, bit_or}

abbrev pub bit_of : ℕ → ℕ → ℕ
bit_of zero x = x % 2
bit_of (suc b) x = bit_of b (x / 2)

-- Is b in the set x?
abbrev pub holds_bit : ℕ → ℕ → Bool
holds_bit b x = eqb (bit_of b x) 1

-- A set with one more number, and with several; and the numbers below n that pass a test.
abbrev pub with_number : ℕ → ℕ → ℕ
with_number set b = bit_or set (2 ^ b)

abbrev pub with_numbers : ℕ → List ℕ → ℕ
with_numbers set [] = set
with_numbers set (b ∷ l) = with_numbers (with_number set b) l

abbrev pub set_below : ℕ → (ℕ → Bool) → ℕ
set_below zero test = 0
set_below (suc n) test = cond (test n) (with_number (set_below n test) n) (set_below n test)

-- Is every number of one set in the other?
abbrev pub is_part : ℕ → ℕ → Bool
is_part part whole = eqb (bit_and part whole) part

-- The least number of a set, which is below 64; and a set without one of its numbers.
pub record Least (set k : ℕ) : Type 0 where
  pub small : k < 64
  pub has : bit_of k set ≡ 1
  pub first : (q : ℕ) → q < k → bit_of q set ≡ 0

pub record Without (set k rest : ℕ) : Type 0 where
  pub gone : bit_of k rest ≡ 0
  pub kept : (q : ℕ) → (q ≡ k → ⊥) → bit_of q rest ≡ bit_of q set
  pub less : rest < set

-- One step of a walk over a set, least first: it gives the least number and leaves the set without it; from the empty set it gives none.
abbrev pub TakesLeast : ℕ → Option ℕ → ℕ → Type 0
TakesLeast set next rest = MatchOption next ((set ≡ 0) × (rest ≡ 0)) (λ k. Least set k × Without set k rest)
