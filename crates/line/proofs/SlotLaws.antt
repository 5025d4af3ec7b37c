-- Where the entries of a slot stand, as they are met one after the other: the range of the entry's slot begins with it, if no entry of
-- that slot was met before, and ends after it.
use Prim.Native.Nat.{ℕ, zero, suc, ◌+◌, ◌-◌, ◌≤◌, ◌<◌}
use native.Mathlib.Omega.{arith}
use native.Mathlib.Decide.{ℕ_discrete}
use mathlib.Core.Path.{◌≡◌, refl, sym, ◌∙◌, ap, ap₂}
use mathlib.Core.List.{List}
use lib.ListN.{length, set, length-set, replicate}
use lib.Seq.{get_or-set_same, get_or-set_other}
use borrow.Author.Tests.{eq-eqb, ne_eqb}
use Rattle.layout.specs.Bytes.{byte_at}
use Rattle.layout.specs.Card.{word_count, entry_at, spelling_length, spelling, card_number}
use Rattle.line.specs.declared.slots.Slot.{Slot}
use Rattle.line.specs.Slots.{slot_of, entry_slot, no_slot, slot_at, NextInSlot, Ranged}
use Rattle.line.proofs.CardLaws.{spelling-some, spelling-byte, spelling-size}

-- The slot by the card's own bytes: those of its first and its last letter.
pub slot-there : (card : List ℕ) (v at size : ℕ) {h : ℕ} → card_number card ≡ 0 → v < word_count card → at ≡ entry_at card v
    → size ≡ spelling_length card v → h ≡ slot_of (byte_at card (at + 1)) (byte_at card (at + size)) → h ≡ entry_slot card v
slot-there card v at size ok few place letters e =
    let some = spelling-some card v ok few in
    let all = spelling-size card v ok few in
    let first : at + 1 ≡ entry_at card v + 1 + 0 = omega (arith, place) in
    let last : at + size ≡ entry_at card v + 1 + (length (spelling card v) - 1) = omega (arith, place, letters, some, all) in
    e ∙ ap₂ slot_of
    (ap (byte_at card) first ∙ sym (spelling-byte card v 0 some))
    (ap (byte_at card) last ∙ sym (spelling-byte card v (length (spelling card v) - 1) (omega (arith, some, all))))

none-at : (n h : ℕ) → slot_at (replicate n no_slot) h ≡ no_slot
none-at zero h = refl
none-at (suc n) zero = refl
none-at (suc n) (suc h) = none-at n h

pub ranged-none : (card : List ℕ) → Ranged card 0 (replicate 32 no_slot)
ranged-none card =
    record {
      all = refl;
      order = λ h. rw (none-at 32 h) (omega arith);
      within = λ h. rw (none-at 32 h) (omega arith);
      after = λ v l. absurd (omega arith);
      before = λ v l. absurd (omega arith);
    }

-- Entry v, in its slot h, of which x is what is noted.
module _ {card : List ℕ} {slots : List Slot} {v h : ℕ} {x : Slot} (r : Ranged card v slots) (i : h ≡ entry_slot card v) (few : h < 32)
    (next : NextInSlot (slot_at slots h) v x) where
  -- The range begins with the entry or before it, and where an entry of this slot was met, where it did.
  from-least : x.from ≤ v
  from-least = elim (ℕ_discrete (slot_at slots h).to 0) [
    | yes e ↦ rw (next.from, eq-eqb (slot_at slots h).to 0 e) (omega arith)
    | no d ↦ rw (next.from, ne_eqb (slot_at slots h).to 0 d) (omega (arith, r.order h, r.within h))
  ]

  from-kept : (u : ℕ) → u < v → entry_slot card u ≡ h → x.from ≤ u
  from-kept u l e = elim (ℕ_discrete (slot_at slots h).to 0) [
    | yes z ↦ absurd (omega (arith, z, r.before u l, ap (λ (k : ℕ). (slot_at slots k).to) e))
    | no d ↦ rw (next.from, ne_eqb (slot_at slots h).to 0 d) (omega (arith, r.after u l, ap (λ (k : ℕ). (slot_at slots k).from) e))
  ]

  stored : (k : ℕ) → k ≡ h → slot_at (set slots h x) k ≡ x
  stored k e = rw e (get_or-set_same slots h x no_slot (omega (arith, r.all, few)))

  kept : (k : ℕ) → (k ≡ h → ⊥) → slot_at (set slots h x) k ≡ slot_at slots k
  kept k d = get_or-set_other slots h k x no_slot d

  pub ranged-more : Ranged card (v + 1) (set slots h x)
  ranged-more =
      record {
        all = length-set slots h x ∙ r.all;
        order = λ k. elim (ℕ_discrete k h) [
          | yes e ↦ rw (stored k e) (omega (arith, from-least, next.to))
          | no d ↦ rw (kept k d) (r.order k)
        ];
        within = λ k. elim (ℕ_discrete k h) [
          | yes e ↦ rw (stored k e) (omega (arith, next.to))
          | no d ↦ rw (kept k d) (omega (arith, r.within k))
        ];
        after = λ u l. elim (ℕ_discrete (entry_slot card u) h) [
          | yes e ↦ rw (stored (entry_slot card u) e) (elim (ℕ_discrete u v) [
            | yes same ↦ omega (arith, from-least, same)
            | no other ↦ from-kept u (omega (arith, l)) e
          ])
          | no d ↦ rw (kept (entry_slot card u) d) (r.after u (earlier u l d))
        ];
        before = λ u l. elim (ℕ_discrete (entry_slot card u) h) [
          | yes e ↦ rw (stored (entry_slot card u) e) (omega (arith, next.to, l))
          | no d ↦ rw (kept (entry_slot card u) d) (r.before u (earlier u l d))
        ];
      }
    where
      earlier : (u : ℕ) → u < v + 1 → (entry_slot card u ≡ h → ⊥) → u < v
      earlier u l d = elim (ℕ_discrete u v) [
        | yes same ↦ absurd (d (ap (entry_slot card) same ∙ sym i))
        | no other ↦ omega (arith, l)
      ]
