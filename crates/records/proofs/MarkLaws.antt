-- Marks. A number's mark is one bit of one byte, no two numbers share one, so a bit that is set marks one number and leaves the others;
-- and no two feet share a number. The byte is looked up by its place, and the bit is a power of 2.
use Prim.Native.Nat.{ℕ, ◌/◌, ◌%◌, ◌^◌, ◌<◌}
use native.Mathlib.Omega.{arith}
use native.Mathlib.Decide.{ℕ_discrete}
use mathlib.Core.Path.{◌≡◌, sym, ◌∙◌, ap}
use mathlib.Core.Bool.{Bool, not, ◌||◌}
use mathlib.Core.List.{List}
use lib.Dec.{eqb}
use lib.ListN.{length, get_or, set, length-set}
use lib.Seq.{get_or-set_same, get_or-set_other}
use lib.Bits.{bit_and, bit_or}
use borrow.Author.Tests.{eq-eqb, ne_eqb}
use Rattle.grammar.specs.Items.{Foot}
use Rattle.grammar.specs.ItemList.{same_foot}
use Rattle.grammar.proofs.ItemTests.{foot-true, foot-self}
use Rattle.chart_model.proofs.FillModel.{not_so}
use Rattle.bits.specs.Bits.{holds_bit}
use Rattle.records.specs.Room.{FootFits, foot_number, mark_at, MarkAdded}
use Rattle.bits.proofs.BitLaws.{test_bit, holds_bit-more}
use Rattle.records.proofs.TableLaws.{number_same}

-- The test on feet is equality, so it may be made on their numbers.
pub same_number : (n N : ℕ) (φ ψ : Foot) → FootFits n N φ → FootFits n N ψ → eqb (foot_number n N φ) (foot_number n N ψ) ≡ same_foot φ ψ
same_number n N φ ψ h k = elim (ℕ_discrete (foot_number n N φ) (foot_number n N ψ)) [
  | yes e ↦ eq-eqb _ _ e ∙ sym (ap (same_foot φ) (sym (number_same n N φ ψ h k e)) ∙ foot-self φ)
  | no d ↦ ne_eqb _ _ d ∙ sym (not_so (same_foot φ ψ) (λ t. d (ap (foot_number n N) (foot-true φ ψ t))))
]

-- Looking at a mark, and setting it.
pub mark-seen : (marks : List ℕ) (number : ℕ) {bit : ℕ} → bit ≡ 2 ^ (number % 8)
    → not (eqb (bit_and (get_or marks (number / 8) 0) bit) 0) ≡ mark_at marks number
mark-seen marks number d = rw d (test_bit (number % 8) (get_or marks (number / 8) 0))

module _ (number : ℕ) (old : List ℕ) (inside : number / 8 < length old) where
  abbrev byte : ℕ
  byte = bit_or (get_or old (number / 8) 0) (2 ^ (number % 8))

  abbrev after : List ℕ
  after = set old (number / 8) byte

  here : (k : ℕ) → k / 8 ≡ number / 8 → eqb (k % 8) (number % 8) ≡ eqb k number
  here k e = elim (ℕ_discrete k number) [
    | yes s ↦ eq-eqb _ _ (ap (λ (m : ℕ). m % 8) s) ∙ sym (eq-eqb _ _ s)
    | no d ↦ ne_eqb _ _ (λ (s : k % 8 ≡ number % 8). d (omega arith)) ∙ sym (ne_eqb _ _ d)
  ]

  others : (k : ℕ) → mark_at after k ≡ (eqb k number || mark_at old k)
  others k = elim (ℕ_discrete (k / 8) (number / 8)) [
    | yes e ↦
        let there : get_or after (k / 8) 0 ≡ bit_or (get_or old (k / 8) 0) (2 ^ (number % 8)) =
        rw e (get_or-set_same old (number / 8) byte 0 inside)
        in
        ap (holds_bit (k % 8)) there ∙ holds_bit-more (k % 8) (number % 8) (get_or old (k / 8) 0)
        ∙ ap (λ (b : Bool). b || mark_at old k) (here k e)
    | no d ↦
        ap (holds_bit (k % 8)) (get_or-set_other old (number / 8) (k / 8) byte 0 d)
        ∙ ap (λ (b : Bool). b || mark_at old k) (sym (ne_eqb k number (λ s. d (ap (λ (m : ℕ). m / 8) s))))
  ]

  pub mark_set : {bit : ℕ} {new : List ℕ} → bit ≡ 2 ^ (number % 8) → new ≡ set old (number / 8) (bit_or (get_or old (number / 8) 0) bit)
      → MarkAdded number old new
  mark_set d e = rw (e, d) (record { same_length = simp length-set; others = others })
