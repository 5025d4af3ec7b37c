-- Bits of a number. `bit_of` goes down the binary digits as the bit operations do, so each law is one step of theirs and an
-- induction on the place. The laws hold of all numbers, whatever their width.
use Prim.Native.Nat.{ℕ, zero, suc, ◌+◌, ◌*◌, ◌/◌, ◌%◌, ◌^◌, ◌≤◌, ◌<◌, min, max}
use native.Mathlib.Nat.{pow-succ'}
use native.Mathlib.Omega.{arith}
use native.Mathlib.Decide.{ℕ_discrete}
use mathlib.Core.Path.{◌≡◌, refl, sym, ap, ap₂, ◌∙◌}
use mathlib.Core.Bool.{true, false, not, ◌||◌}
use mathlib.Core.Logic.{◌⊎◌, inl, inr, ⊎_elim}
use lib.Dec.{eqb}
use lib.ListN.{get_or, replicate}
use lib.Pow.{pow_pos, shl_exact}
use lib.Bits.{bit_and, bit_or, and_step, or_step, and_zero_r}
use borrow.Author.Tests.{eq-eqb, ne_eqb, le-leb, lt-leb}
use Rattle.bits.specs.Bits.{bit_of, holds_bit}

pub bit_of-below : (b x : ℕ) → bit_of b x < 2
bit_of-below zero x = omega arith
bit_of-below (suc b) x = bit_of-below b (x / 2)

pub bit_of-zero : (b : ℕ) → bit_of b 0 ≡ 0
bit_of-zero zero = refl
bit_of-zero (suc b) = bit_of-zero b

-- A table of sets, or of any numbers, that is all 0 is 0 everywhere.
pub zero-at : (n s : ℕ) → ◌≡◌ {A = ℕ} (get_or (replicate n 0) s 0) 0
zero-at zero s = refl
zero-at (suc n) zero = refl
zero-at (suc n) (suc s) = zero-at n s

-- Of the bits of two numbers, the greater and the smaller.
or-half : (x y : ℕ) → bit_or x y / 2 ≡ bit_or (x / 2) (y / 2)
or-half x y = omega (arith, or_step x y)

and-half : (x y : ℕ) → bit_and x y / 2 ≡ bit_and (x / 2) (y / 2)
and-half x y = omega (arith, and_step x y)

pub bit_of-or : (b x y : ℕ) → bit_of b (bit_or x y) ≡ max (bit_of b x) (bit_of b y)
bit_of-or zero x y = omega (arith, or_step x y)
bit_of-or (suc b) x y = ap (bit_of b) (or-half x y) ∙ bit_of-or b (x / 2) (y / 2)

pub bit_of-and : (b x y : ℕ) → bit_of b (bit_and x y) ≡ min (bit_of b x) (bit_of b y)
bit_of-and zero x y = omega (arith, and_step x y)
bit_of-and (suc b) x y = ap (bit_of b) (and-half x y) ∙ bit_of-and b (x / 2) (y / 2)

-- The number whose only bit is b.
power-half : (b : ℕ) → 2 ^ suc b / 2 ≡ 2 ^ b
power-half b = omega (arith, pow-succ' 2 b)

power-even : (b : ℕ) → 2 ^ suc b % 2 ≡ 0
power-even b = omega (arith, pow-succ' 2 b)

pub bit_of-power : (b : ℕ) → bit_of b (2 ^ b) ≡ 1
bit_of-power zero = refl
bit_of-power (suc b) = ap (bit_of b) (power-half b) ∙ bit_of-power b

pub bit_of-other : (a b : ℕ) → (a ≡ b → ⊥) → bit_of a (2 ^ b) ≡ 0
bit_of-other zero zero h = absurd (h refl)
bit_of-other zero (suc b) h = power-even b
bit_of-other (suc a) zero h = bit_of-zero a
bit_of-other (suc a) (suc b) h = ap (bit_of a) (power-half b) ∙ bit_of-other a b (λ e. h (ap suc e))

-- `x & (1 << b)` is that bit of x, at its place: not 0 exactly when the bit is set.
pub and-power : (b x : ℕ) → bit_and x (2 ^ b) ≡ bit_of b x * 2 ^ b
and-power zero x = omega (arith, and_step x 1, and_zero_r (x / 2))
and-power (suc b) x =
    let step : bit_and x (2 ^ suc b) ≡ bit_and (x / 2) (2 ^ b) * 2 + min (x % 2) 0 =
    and_step x (2 ^ suc b) ∙ ap₂ (λ (u v : ℕ). bit_and (x / 2) u * 2 + min (x % 2) v) (power-half b) (power-even b)
    in
    omega (arith, step, and-power b (x / 2), ap (λ (k : ℕ). bit_of b (x / 2) * k) (pow-succ' 2 b))

pub bit-set : (b x : ℕ) → (bit_and x (2 ^ b) ≡ 0 → ⊥) → bit_of b x ≡ 1
bit-set b x h = elim (ℕ_discrete (bit_of b x) 0) [
  | yes e ↦ absurd (h (omega (arith, and-power b x, ap (λ (k : ℕ). k * 2 ^ b) e)))
  | no d ↦ omega (arith, bit_of-below b x)
]

pub bit-clear : (b x : ℕ) → bit_and x (2 ^ b) ≡ 0 → bit_of b x ≡ 0
bit-clear b x h = elim (ℕ_discrete (bit_of b x) 0) [
  | yes e ↦ e
  | no d ↦
      let one : bit_of b x ≡ 1 = omega (arith, bit_of-below b x) in
      absurd (omega (arith, pow_pos b, and-power b x, ap (λ (k : ℕ). k * 2 ^ b) one))
]

-- The same of a set: that number is not 0 where the set has b, and 0 where it has not.
pub bit-decides : (b x : ℕ) → ((0 < bit_and x (2 ^ b)) × (holds_bit b x ≡ true)) ⊎ ((bit_and x (2 ^ b) ≡ 0) × (holds_bit b x ≡ false))
bit-decides b x = elim (ℕ_discrete (bit_and x (2 ^ b)) 0) [
  | yes e ↦ inr (e, ne_eqb (bit_of b x) 1 (λ o. absurd (omega (arith, bit-clear b x e))))
  | no d ↦ inl (omega arith, eq-eqb (bit_of b x) 1 (bit-set b x d))
]

-- A test by `!=`, from the fact.
pub ne_test : (a b : ℕ) → (a ≡ b → ⊥) → not (eqb a b) ≡ true
ne_test a b h = ap not (ne_eqb a b h)

pub eq_test : (a b : ℕ) → a ≡ b → not (eqb a b) ≡ false
eq_test a b h = ap not (eq-eqb a b h)

-- However a test of numbers is written, arithmetic decides it: `omega (arith, tests)`.
pub ruleset tests = (le-leb, lt-leb, eq-eqb, ne_eqb, ne_test, eq_test)

pub test_bit : (b x : ℕ) → not (eqb (bit_and x (2 ^ b)) 0) ≡ holds_bit b x
test_bit b x = ⊎_elim (λ (some, has). rw has (omega (arith, tests, some))) (λ (none, has). rw has (omega (arith, tests, none))) (bit-decides b x)

-- One bit more: bit a of `x | (1 << b)`.
pub holds_bit-more : (a b x : ℕ) → holds_bit a (bit_or x (2 ^ b)) ≡ (eqb a b || holds_bit a x)
holds_bit-more a b x = elim (ℕ_discrete a b) [
  | yes e ↦
      let set : bit_of a (2 ^ b) ≡ 1 = ap (λ (k : ℕ). bit_of a (2 ^ k)) (sym e) ∙ bit_of-power a in
      let most : bit_of a (bit_or x (2 ^ b)) ≡ 1 = omega (arith, bit_of-or a x (2 ^ b), bit_of-below a x) in
      rw (eq-eqb a b e, eq-eqb _ 1 most)
  | no d ↦
      let same : bit_of a (bit_or x (2 ^ b)) ≡ bit_of a x = omega (arith, bit_of-or a x (2 ^ b), bit_of-other a b d) in
      rw (ne_eqb a b d, same)
]

-- `1 << b` in w bits.
pub one_shifted : (b w : ℕ) → b < w → (1 * 2 ^ b) % 2 ^ w ≡ 2 ^ b
one_shifted b w h = shl_exact {a = 1} 1 b w (omega arith) (omega arith) ∙ omega arith

-- A number below 2 ^ w has no bit from w on.
pub bit-beyond : (w b x : ℕ) → x < 2 ^ w → w ≤ b → bit_of b x ≡ 0
bit-beyond zero b x h l = let e : x ≡ 0 = omega arith in ap (bit_of b) e ∙ bit_of-zero b
bit-beyond (suc w) zero x h l = absurd (omega arith)
bit-beyond (suc w) (suc b) x h l = bit-beyond w b (x / 2) (omega (arith, pow-succ' 2 w)) (omega arith)
