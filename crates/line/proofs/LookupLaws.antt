-- Looking a word up entry by entry: one entry is compared with the word byte by byte, if it is as long, and another length or a mismatch
-- passes the entry over. An equal entry is in the word's slot, so none stands outside the range
-- of that slot; those that were found are the equal entries below the place from which the search goes on.
use Prim.Native.Nat.{ℕ, ◌+◌, ◌≤◌, ◌<◌}
use native.Mathlib.Numerals.{add-one}
use native.Mathlib.Omega.{arith}
use native.Mathlib.Decide.{ℕ_discrete}
use mathlib.Core.Path.{◌≡◌, refl, sym, ◌∙◌, ap}
use mathlib.Core.Bool.{Bool, true, false}
use mathlib.Core.List.{List}
use lib.ListN.{length, drop}
use lib.Seq.{drop-cons}
use borrow.Author.Tests.{eq-eqb, ne_eqb}
use Rattle.layout.specs.Bytes.{byte_at, same_bytes}
use Rattle.layout.specs.Card.{word_count, entry_at, spelling_length, spelling, card_number}
use Rattle.layout.specs.Line.{equals_entry}
use Rattle.layout.proofs.TestLaws.{same_length, same-equal, unless-true}
use Rattle.bits.specs.Bits.{with_number, set_below}
use Rattle.bits.proofs.BitSets.{set-passed}
use Rattle.line.specs.declared.slots.Slot.{Slot}
use Rattle.line.specs.Slots.{word_slot, entry_slot, slot_at, Ranged}
use Rattle.line.specs.Lookup.{word_set, NextEqual}
use Rattle.line.proofs.CardLaws.{spelling-byte, spelling-size}

-- Two lists of bytes, compared from a place on.
module _ (a b : List ℕ) (i : ℕ) where
  abbrev same_from : Bool
  same_from = same_bytes (drop i a) (drop i b)

  byte-agrees : i < length a → i < length b → byte_at a i ≡ byte_at b i → same_from ≡ same_bytes (drop (i + 1) a) (drop (i + 1) b)
  byte-agrees g h e = rw (add-one, drop-cons a i 0 g, drop-cons b i 0 h, eq-eqb (byte_at a i) (byte_at b i) e)

  byte-differs : i < length a → i < length b → (byte_at a i ≡ byte_at b i → ⊥) → same_from ≡ false
  byte-differs g h n = rw (drop-cons a i 0 g, drop-cons b i 0 h, ne_eqb (byte_at a i) (byte_at b i) n)

-- A search from one entry on up to another: no entry from `from` up to `next` equals the word.
pub record Looking (card word : List ℕ) (from to next : ℕ) : Type 0 where
  pub after : from ≤ next
  pub within : next ≤ to
  pub passed : (k : ℕ) → from ≤ k → k < next → equals_entry card word k ≡ false

-- Entry k is as long as the word, and they agree up to i.
pub record Comparing (card word : List ℕ) (k i : ℕ) : Type 0 where
  pub size : length word ≡ length (spelling card k)
  pub left : same_bytes word (spelling card k) ≡ same_from word (spelling card k) i

-- The turn for entry k of an accepted card.
pub record Turn (card word : List ℕ) (from to k : ℕ) : Type 0 where
  pub accepted : card_number card ≡ 0
  pub counted : k < word_count card
  pub before : k < to
  pub looking : Looking card word from to k

module _ {card word : List ℕ} {from to k : ℕ} (t : Turn card word from to k) where
  turn-missed : equals_entry card word k ≡ false → Looking card word from to (k + 1)
  turn-missed e =
      record {
        after = omega (arith, t.looking.after);
        within = omega (arith, t.before);
        passed = λ m l g. elim (ℕ_discrete m k) [
          | yes s ↦ ap (equals_entry card word) s ∙ e
          | no d ↦ t.looking.passed m l (omega arith)
        ];
      }

  -- The entry's length byte as n.
  module _ {n : ℕ} (first : n ≡ spelling_length card k) where
    size : n ≡ length (spelling card k)
    size = first ∙ sym (spelling-size card k t.accepted t.counted)

    pub turn-other : (n ≡ length word → ⊥) → Looking card word from to (k + 1)
    turn-other ne = turn-missed (sym (same_length word (spelling card k) λ e. ne (size ∙ sym e)))

    pub comparing-first : n ≡ length word → Comparing card word k 0
    comparing-first e = record { size = sym e ∙ size; left = refl }

  -- Byte i, up to which they agree.
  module _ {i : ℕ} (c : Comparing card word k i) (g : i < length word) where
    in-spelling : i < length (spelling card k)
    in-spelling = omega (arith, c.size)

    byte-is : byte_at (spelling card k) i ≡ byte_at card (entry_at card k + 1 + i)
    byte-is = spelling-byte card k i (omega (arith, in-spelling, spelling-size card k t.accepted t.counted))

    pub comparing-on : byte_at card (entry_at card k + 1 + i) ≡ byte_at word i → Comparing card word k (i + 1)
    comparing-on e =
        record {
          size = c.size;
          left = c.left ∙ byte-agrees word (spelling card k) i g in-spelling (sym e ∙ sym byte-is);
        }

    pub other_byte : (byte_at card (entry_at card k + 1 + i) ≡ byte_at word i → ⊥) → Looking card word from to (k + 1)
    other_byte n =
        turn-missed (c.left ∙ byte-differs word (spelling card k) i g in-spelling (λ e. n (sym byte-is ∙ sym e)))

-- No entry before `from`, and none from `to` on, equals the word.
pub record Inside (card word : List ℕ) (from to : ℕ) : Type 0 where
  pub order : from ≤ to
  pub within : to ≤ word_count card
  pub none_before : (v : ℕ) → v < from → equals_entry card word v ≡ false
  pub none_after : (v : ℕ) → to ≤ v → v < word_count card → equals_entry card word v ≡ false

-- So it is with the range of the word's slot: every equal entry is in that slot.
module _ {card : List ℕ} {slots : List Slot} (word : List ℕ) (r : Ranged card (word_count card) slots) where
  slot_same : (v : ℕ) → equals_entry card word v ≡ true → entry_slot card v ≡ word_slot word
  slot_same v e = ap word_slot (sym (same-equal word (spelling card v) e))

  pub slot-inside : {h from to : ℕ} → h ≡ word_slot word → from ≡ (slot_at slots h).from → to ≡ (slot_at slots h).to
      → Inside card word from to
  slot-inside {h} {from} {to} i l g =
      record {
        order = omega (arith, l, g, r.order h);
        within = omega (arith, g, r.within h);
        none_before = λ v b. unless-true (equals_entry card word v) λ e.
            let few : v < word_count card = omega (arith, b, l, r.order h, r.within h) in
            absurd (omega (arith, b, l, r.after v few, ap (λ (k : ℕ). (slot_at slots k).from) (slot_same v e ∙ sym i)));
        none_after = λ v b few. unless-true (equals_entry card word v) λ e.
            absurd (omega (arith, b, g, r.before v few, ap (λ (k : ℕ). (slot_at slots k).to) (slot_same v e ∙ sym i)));
      }

-- The equal entries below `at` are in the set.
pub record Gathered (card word : List ℕ) (to at set : ℕ) : Type 0 where
  pub within : at ≤ to
  pub gathered : set ≡ set_below at (equals_entry card word)

pub gathered_none : {card word : List ℕ} {from to : ℕ} → Inside card word from to → Gathered card word to from 0
gathered_none {card} {word} {from} r =
    record {
      within = r.order;
      gathered = sym (set-passed from 0 (equals_entry card word) (omega arith) λ k l g. r.none_before k g);
    }

pub gathered-all : {card word : List ℕ} {from to set : ℕ} → Inside card word from to → Gathered card word to to set → set ≡ word_set card word
gathered-all {card} {word} {from} {to} r s =
    s.gathered ∙ sym (set-passed (word_count card) to (equals_entry card word) r.within r.none_after)

module _ {card word : List ℕ} {to at set next : ℕ} (s : Gathered card word to at set) (n : NextEqual card word at to next) where
  pub gathered-on : Gathered card word to next set
  gathered-on =
      record {
        within = n.within;
        gathered = s.gathered ∙ sym (set-passed next at (equals_entry card word) n.after n.passed);
      }

  pub gathered-more : next < to → Gathered card word to (next + 1) (with_number set next)
  gathered-more h =
      record {
        within = omega arith;
        gathered = rw (add-one next, n.equal h) (ap (λ (so : ℕ). with_number so next) gathered-on.gathered);
      }
