-- Sets of numbers as bits: the numbers that pass a test, the least number, a set without one of its numbers, and the walk over a set that
-- takes its least number away until none is left.
use Prim.Native.Nat.{ℕ, zero, suc, ◌+◌, ◌-◌, ◌/◌, ◌%◌, ◌^◌, ◌≤◌, ◌<◌}
use native.Mathlib.Omega.{arith}
use native.Mathlib.Nat.{pow-succ'}
use native.Mathlib.Decide.{dec_le, ℕ_discrete}
use mathlib.Core.Path.{◌≡◌, refl, sym, ◌∙◌, ap}
use mathlib.Core.Bool.{Bool, true, false, cond, ◌&&◌}
use mathlib.Core.Logic.{◌⊎◌, inl, inr}
use mathlib.Core.List.{List, [], ◌∷◌, Memᴰ}
use lib.Bits.{bit_and, bit_or, and_step, and_self, and_zero_l}
use lib.Count.{count_trailing_zeros}
use lib.Dec.{ltb}
use lib.Pow.{pow_pos}
use borrow.Author.Tests.{eq-eqb, ne_eqb, lt-ltb, le-ltb}
use Rattle.bits.specs.Bits.{bit_of, holds_bit, with_number, with_numbers, set_below, is_part, Least, Without}
use Rattle.bits.proofs.BitLaws.{bit_of-below, bit_of-zero, bit_of-power, bit_of-other, bit_of-or, bit_of-and, holds_bit-more}

-- A set with one more number is not empty.
pub with-some : (set b : ℕ) → with_number set b ≡ 0 → ⊥
with-some set b e =
    omega (arith, ap (bit_of b) e, bit_of-or b set (2 ^ b), bit_of-power b, bit_of-zero b)

below_next : (b n : ℕ) → (b ≡ n → ⊥) → ltb b (suc n) ≡ ltb b n
below_next b n d = elim (dec_le (suc b) n) [
  | yes l ↦ rw (lt-ltb b n l, lt-ltb b (suc n) (omega arith))
  | no l ↦ rw (le-ltb b n (omega arith), le-ltb b (suc n) (omega arith))
]

-- The numbers below n that pass a test: the set has them and no others, and it is that of the numbers below m where none from m on passes.
pub set_holds : (n : ℕ) (test : ℕ → Bool) (b : ℕ) → holds_bit b (set_below n test) ≡ (ltb b n && test b)
set_holds zero test b = rw (bit_of-zero b, le-ltb b 0 (omega arith))
set_holds (suc n) test b = go (test n) refl (ℕ_discrete b n) (set_holds n test b)
  where
    go : (t : Bool) → test n ≡ t → Dec (b ≡ n) → holds_bit b (set_below n test) ≡ (ltb b n && test b)
        → holds_bit b (cond t (with_number (set_below n test) n) (set_below n test)) ≡ (ltb b (suc n) && test b)
    go true e (yes s) h =
        holds_bit-more b n (set_below n test) ∙ rw (eq-eqb b n s, lt-ltb b (suc n) (omega arith), ap test s, e)
    go true e (no d) h =
        holds_bit-more b n (set_below n test) ∙ rw (ne_eqb b n d, h, below_next b n d)
    go false e (yes s) h = h ∙ rw (ap test s, e, le-ltb b n (omega arith), lt-ltb b (suc n) (omega arith))
    go false e (no d) h = h ∙ rw (below_next b n d)

pub set-passed : (n m : ℕ) (test : ℕ → Bool) → m ≤ n → ((k : ℕ) → m ≤ k → k < n → test k ≡ false) → set_below n test ≡ set_below m test
set-passed zero m test l none = let e : m ≡ 0 = omega arith in rw e
set-passed (suc n) m test l none =
    elim (ℕ_discrete m (suc n)) [
      | yes e ↦ rw e
      | no d ↦ rw (none n (omega arith) (omega arith)) (set-passed n m test (omega arith) λ k g h. none k g (omega arith))
    ]

-- A set with several numbers more has them and what it had, and nothing else.
number-from : (set b q : ℕ) → bit_of q (with_number set b) ≡ 1 → (q ≡ b) ⊎ (bit_of q set ≡ 1)
number-from set b q o = elim (ℕ_discrete q b) [
  | yes e ↦ inl e
  | no d ↦ inr (omega (arith, bit_of-or q set (2 ^ b), bit_of-other q b d))
]

number-kept : (set b q : ℕ) → bit_of q set ≡ 1 → bit_of q (with_number set b) ≡ 1
number-kept set b q o = omega (arith, bit_of-or q set (2 ^ b), bit_of-below q (2 ^ b))

pub numbers-kept : (l : List ℕ) (set q : ℕ) → bit_of q set ≡ 1 → bit_of q (with_numbers set l) ≡ 1
numbers-kept [] set q o = o
numbers-kept (b ∷ l) set q o = numbers-kept l (with_number set b) q (number-kept set b q o)

pub numbers-there : (l : List ℕ) (set q : ℕ) → Memᴰ q l → bit_of q (with_numbers set l) ≡ 1
numbers-there [] set q m = elim m [ ]
numbers-there (b ∷ l) set q (Memᴰ.head e) =
    numbers-kept l (with_number set b) q
    (omega (arith, bit_of-or q set (2 ^ b), ap (λ (k : ℕ). bit_of q (2 ^ k)) (sym e), bit_of-power q, bit_of-below q set))
numbers-there (b ∷ l) set q (Memᴰ.tail m) = numbers-there l (with_number set b) q m

pub numbers-from : (l : List ℕ) (set q : ℕ) → bit_of q (with_numbers set l) ≡ 1 → Memᴰ q l ⊎ (bit_of q set ≡ 1)
numbers-from [] set q o = inr o
numbers-from (b ∷ l) set q o = elim (numbers-from l (with_number set b) q o) [
  | inl m ↦ inl (Memᴰ.tail m)
  | inr p ↦ elim (number-from set b q p) [ inl e ↦ inl (Memᴰ.head e) | inr r ↦ inr r ]
]

-- One set is part of another where the other has each of its numbers, and not where it lacks one.
below_power : (k : ℕ) → k < 2 ^ k
below_power zero = omega arith
below_power (suc k) = omega (arith, below_power k, pow-succ' 2 k)

part_same : (w part whole : ℕ) → part < 2 ^ w → ((q : ℕ) → bit_of q part ≡ 1 → bit_of q whole ≡ 1) → bit_and part whole ≡ part
part_same zero part whole h each = let e : part ≡ 0 = omega arith in rw e (and_zero_l whole)
part_same (suc w) part whole h each =
    let rest = part_same w (part / 2) (whole / 2) (omega (arith, pow-succ' 2 w)) λ q. each (suc q) in
    elim (ℕ_discrete (part % 2) 1) [
      | yes o ↦ omega (arith, and_step part whole, each 0 o, rest)
      | no d ↦ omega (arith, and_step part whole, rest)
    ]

pub part-each : (part whole : ℕ) → ((q : ℕ) → bit_of q part ≡ 1 → bit_of q whole ≡ 1) → is_part part whole ≡ true
part-each part whole each = eq-eqb (bit_and part whole) part (part_same part part whole (below_power part) each)

pub part-lacks : (part whole q : ℕ) → bit_of q part ≡ 1 → bit_of q whole ≡ 0 → is_part part whole ≡ false
part-lacks part whole q has lacks =
    ne_eqb (bit_and part whole) part λ e. omega (arith, ap (bit_of q) e, bit_of-and q part whole)

-- The lowest bit of a number that is not 0: it is there, no bit is below it, and it is within the width.
abbrev Lowest : ℕ → ℕ → ℕ → Type 0
Lowest w x s = (s < w) × (bit_of s x ≡ 1) × ((q : ℕ) → q < s → bit_of q x ≡ 0)

lowest : (w x : ℕ) → x < 2 ^ w → (x ≡ 0 → ⊥) → Lowest w x (count_trailing_zeros w x)
unfolding count_trailing_zeros
lowest zero x h d = absurd (d (omega arith))
lowest (suc w) x h d = go (ℕ_discrete (x % 2) 0) (lowest w (x / 2))
  where
    up : {s : ℕ} → x % 2 ≡ 0 → Lowest w (x / 2) s → Lowest (suc w) x (suc s)
    up {s} even (a, b, c) = (omega arith, b, below)
      where
        below : (q : ℕ) → q < suc s → bit_of q x ≡ 0
        below zero l = even
        below (suc q) l = c q (omega arith)

    go : Dec (x % 2 ≡ 0) → (x / 2 < 2 ^ w → (x / 2 ≡ 0 → ⊥) → Lowest w (x / 2) (count_trailing_zeros w (x / 2)))
        → Lowest (suc w) x (count_trailing_zeros (suc w) x)
    go (yes even) half = rw even (up even (half (omega (arith, pow-succ' 2 w)) (omega arith)))
    go (no odd) half =
        let one : x % 2 ≡ 1 = omega arith in
        rw one (omega arith, one, λ q l. absurd (omega arith))

pub least-there : (set : ℕ) → set < 2 ^ 64 → (set ≡ 0 → ⊥) → Least set (count_trailing_zeros 64 set)
least-there set h d = let (a, b, c) = lowest 64 set h d in record { small = a; has = b; first = c }

-- A number with bit k is at least 2 ^ k, and less by that it lacks the bit and keeps the others.
pub bit-size : (k x : ℕ) → bit_of k x ≡ 1 → 2 ^ k ≤ x
bit-size zero x e = omega arith
bit-size (suc k) x e = omega (arith, pow-succ' 2 k, bit-size k (x / 2) e)

half-less : (k x : ℕ) → bit_of (suc k) x ≡ 1 → (x - 2 ^ suc k) / 2 ≡ x / 2 - 2 ^ k
half-less k x e = omega (arith, pow-succ' 2 k, bit-size k (x / 2) e)

less-gone : (k x : ℕ) → bit_of k x ≡ 1 → bit_of k (x - 2 ^ k) ≡ 0
less-gone zero x e = omega arith
less-gone (suc k) x e = ap (bit_of k) (half-less k x e) ∙ less-gone k (x / 2) e

less-kept : (q k x : ℕ) → bit_of k x ≡ 1 → (q ≡ k → ⊥) → bit_of q (x - 2 ^ k) ≡ bit_of q x
less-kept zero zero x e d = absurd (d refl)
less-kept zero (suc k) x e d = omega (arith, pow-succ' 2 k, bit-size k (x / 2) e)
less-kept (suc q) zero x e d = let half : (x - 1) / 2 ≡ x / 2 = omega arith in ap (bit_of q) half
less-kept (suc q) (suc k) x e d = ap (bit_of q) (half-less k x e) ∙ less-kept q k (x / 2) e (λ s. d (ap suc s))

-- A number and the one before it have in common what is left without the lowest bit.
and-before : (k x : ℕ) → bit_of k x ≡ 1 → ((q : ℕ) → q < k → bit_of q x ≡ 0) → bit_and x (x - 1) ≡ x - 2 ^ k
and-before zero x e f =
    let half : (x - 1) / 2 ≡ x / 2 = omega arith in
    omega (arith, and_step x (x - 1), ap (bit_and (x / 2)) half, and_self (x / 2))
and-before (suc k) x e f =
    let even : x % 2 ≡ 0 = f 0 (omega arith) in
    let size = bit-size k (x / 2) e in
    let half : (x - 1) / 2 ≡ x / 2 - 1 = omega (arith, pow_pos k) in
    let rest = and-before k (x / 2) e (λ q l. f (suc q) (omega arith)) in
    omega (arith, and_step x (x - 1), ap (bit_and (x / 2)) half, rest, pow-succ' 2 k)

pub without-there : (set k rest : ℕ) → bit_of k set ≡ 1 → rest ≡ set - 2 ^ k → Without set k rest
without-there set k rest one e =
    record {
      gone = ap (bit_of k) e ∙ less-gone k set one;
      kept = λ q d. ap (bit_of q) e ∙ less-kept q k set one d;
      less = omega (arith, bit-size k set one, pow_pos k);
    }

pub without-lowest : (set rest : ℕ) → rest ≡ bit_and set (set - 1) → (k : ℕ) → Least set k → Without set k rest
without-lowest set rest e k least = without-there set k rest least.has (e ∙ and-before k set least.has least.first)

-- What the rest has the set had; what it lacks is that number, or was lacking.
module _ {set k rest : ℕ} (w : Without set k rest) where
  pub without-has : (q : ℕ) → bit_of q rest ≡ 1 → bit_of q set ≡ 1
  without-has q o = elim (ℕ_discrete q k) [
    | yes e ↦ absurd (omega (arith, w.gone, ap (λ (m : ℕ). bit_of m rest) e))
    | no d ↦ sym (w.kept q d) ∙ o
  ]

  pub without-lacks : (q : ℕ) → bit_of q rest ≡ 0 → (q ≡ k) ⊎ (bit_of q set ≡ 0)
  without-lacks q z = elim (ℕ_discrete q k) [
    | yes e ↦ inl e
    | no d ↦ inr (sym (w.kept q d) ∙ z)
  ]

-- A walk from the lowest number up: the numbers from y on are left.
pub record Walk (set rest y : ℕ) : Type 0 where
  pub below : (q : ℕ) → q < y → bit_of q rest ≡ 0
  pub left : (q : ℕ) → y ≤ q → bit_of q rest ≡ bit_of q set

pub walk_start : (set y : ℕ) → ((q : ℕ) → q < y → bit_of q set ≡ 0) → Walk set set y
walk_start set y none = record { below = none; left = λ q l. refl }

module _ {set rest y : ℕ} (walk : Walk set rest y) where
  pub walk_end : rest ≡ 0 → (q : ℕ) → y ≤ q → bit_of q set ≡ 0
  walk_end z q l = sym (walk.left q l) ∙ (ap (bit_of q) z ∙ bit_of-zero q)

  module _ {k : ℕ} (least : Least rest k) where
    pub walk_from : y ≤ k
    walk_from = elim (dec_le y k) [
      | yes l ↦ l
      | no d ↦ absurd (omega (arith, walk.below k (omega arith), least.has))
    ]

    pub walk-has : bit_of k set ≡ 1
    walk-has = sym (walk.left k walk_from) ∙ least.has

    pub walk-passed : (q : ℕ) → y ≤ q → q < k → bit_of q set ≡ 0
    walk-passed q l h = sym (walk.left q l) ∙ least.first q h

    pub walk-next : {rest' : ℕ} → Without rest k rest' → Walk set rest' (k + 1)
    walk-next {rest'} w =
        record {
          below = λ q l. elim (ℕ_discrete q k) [
            | yes e ↦ ap (λ (m : ℕ). bit_of m rest') e ∙ w.gone
            | no d ↦ w.kept q d ∙ least.first q (omega arith)
          ];
          left = λ q l. w.kept q (λ e. absurd (omega arith)) ∙ walk.left q (omega (arith, walk_from));
        }

-- A bit that is in none of two sets.
pub or-bits : (q x y : ℕ) → bit_of q (bit_or x y) ≡ 0 → (bit_of q x ≡ 0) × (bit_of q y ≡ 0)
or-bits q x y z = (omega (arith, bit_of-or q x y), omega (arith, bit_of-or q x y))

-- A bit that two sets do not share is missing in one of them; one that they share is in both.
pub and_zero : (p x y : ℕ) → bit_of p (bit_and x y) ≡ 0 → (bit_of p x ≡ 0) ⊎ (bit_of p y ≡ 0)
and_zero p x y e = elim (ℕ_discrete (bit_of p x) 0) [
  | yes z ↦ inl z
  | no d ↦ inr (omega (arith, bit_of-and p x y))
]

pub and_one : (p x y : ℕ) → bit_of p (bit_and x y) ≡ 1 → (bit_of p x ≡ 1) × (bit_of p y ≡ 1)
and_one p x y e =
    (omega (arith, bit_of-and p x y, bit_of-below p x, bit_of-below p y), omega (arith, bit_of-and p x y, bit_of-below p x, bit_of-below p y))

-- A bit is 1 where it cannot be 0, and 0 where it cannot be 1.
pub bit-one : (p x : ℕ) → (bit_of p x ≡ 0 → ⊥) → bit_of p x ≡ 1
bit-one p x d = omega (arith, bit_of-below p x)

pub bit-zero-unless : (p x : ℕ) → (bit_of p x ≡ 1 → ⊥) → bit_of p x ≡ 0
bit-zero-unless p x d = omega (arith, bit_of-below p x)
