-- Bits that go into the set at a place. `|` only adds bits, so no set loses a production, and the set there has just what it had and the
-- bits that were added.
use Prim.Native.Nat.{ℕ, ◌^◌, ◌<◌, max}
use native.Mathlib.Omega.{arith}
use native.Mathlib.Decide.{ℕ_discrete}
use mathlib.Core.Path.{◌≡◌, refl, sym, ap, subst, ◌∙◌}
use mathlib.Core.Bool.{Bool, true, false, false≢true, ◌||◌, ◌&&◌}
use mathlib.Core.List.{List}
use lib.Bits.{bit_or}
use lib.Dec.{eqb}
use lib.ListN.{length, get_or, set}
use lib.Seq.{get_or-set_same, get_or-set_other}
use borrow.Author.Tests.{eq-eqb, ne_eqb}
use Rattle.bits.specs.Bits.{bit_of, holds_bit}
use Rattle.bits.proofs.BitLaws.{bit_of-or, bit_of-power, holds_bit-more}
use Rattle.bits.proofs.BitSets.{bit-zero-unless}
use Rattle.sets.specs.Classes.{with_bit}

-- Is a number in a set, and the bit.
pub bit-lacks : (q x : ℕ) → holds_bit q x ≡ false → bit_of q x ≡ 0
bit-lacks q x h = bit-zero-unless q x (λ o. false≢true (sym h ∙ eq-eqb (bit_of q x) 1 o))

pub lacks-bit : (q x : ℕ) → bit_of q x ≡ 0 → holds_bit q x ≡ false
lacks-bit q x z = ne_eqb (bit_of q x) 1 (λ o. absurd (omega arith))

abbrev pub or_into : List ℕ → ℕ → ℕ → List ℕ
or_into old at x = set old at (bit_or (get_or old at 0) x)

module _ (old : List ℕ) (at x : ℕ) (inside : at < length old) where
  pub into-here : (q : ℕ) → bit_of q (get_or (or_into old at x) at 0) ≡ max (bit_of q (get_or old at 0)) (bit_of q x)
  into-here q = ap (bit_of q) (get_or-set_same old at _ 0 inside) ∙ bit_of-or q (get_or old at 0) x

  pub into-kept : (s q : ℕ) → bit_of q (get_or (or_into old at x) s 0) ≡ 0 → bit_of q (get_or old s 0) ≡ 0
  into-kept s q z = elim (ℕ_discrete s at) [
    | yes e ↦
        let in_place : bit_of q (get_or (or_into old at x) at 0) ≡ 0 =
        subst (λ (k : ℕ). bit_of q (get_or (or_into old at x) k 0) ≡ 0) e z in
        subst (λ (k : ℕ). bit_of q (get_or old k 0) ≡ 0) (sym e) (omega (arith, into-here q, in_place))
    | no d ↦ sym (ap (bit_of q) (get_or-set_other old at s _ 0 d)) ∙ z
  ]

-- One production: it is there, and no other bit changes.
swapped : (a b : Bool) → (a || b) ≡ (b || (a && true))
swapped true true = refl
swapped true false = refl
swapped false true = refl
swapped false false = refl

unchanged : (a b : Bool) → a ≡ (a || (b && false))
unchanged true b = refl
unchanged false true = refl
unchanged false false = refl

module _ (sets : List ℕ) (at p : ℕ) (inside : at < length sets) where
  pub with-exact : (s q : ℕ) → holds_bit q (get_or (with_bit sets at p) s 0) ≡ (holds_bit q (get_or sets s 0) || (eqb q p && eqb s at))
  with-exact s q = elim (ℕ_discrete s at) [
    | yes e ↦
        let in_place : holds_bit q (get_or (with_bit sets at p) at 0) ≡ (holds_bit q (get_or sets at 0) || (eqb q p && true)) =
        ap (holds_bit q) (get_or-set_same sets at _ 0 inside)
        ∙ (holds_bit-more q p (get_or sets at 0) ∙ swapped (eqb q p) (holds_bit q (get_or sets at 0))) in
        rw (e, eq-eqb at at refl) in_place
    | no d ↦ ap (holds_bit q) (get_or-set_other sets at s _ 0 d)
        ∙ rw (ne_eqb s at d) (unchanged (holds_bit q (get_or sets s 0)) (eqb q p))
  ]

  pub with-there : bit_of p (get_or (with_bit sets at p) at 0) ≡ 0 → ⊥
  with-there z = omega (arith, into-here sets at (2 ^ p) inside p, bit_of-power p, z)

  pub with-others : (s q : ℕ) → (q ≡ p → ⊥) → bit_of q (get_or sets s 0) ≡ 0 → bit_of q (get_or (with_bit sets at p) s 0) ≡ 0
  with-others s q d z =
      bit-lacks q (get_or (with_bit sets at p) s 0) (with-exact s q ∙ rw (lacks-bit q (get_or sets s 0) z, ne_eqb q p d))
