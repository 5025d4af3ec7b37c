-- γ of a derived item is 0 or one of the card's indices; and where it is not 0, the part after the bar is a nonterminal of the card over
-- some words, so never 255, 0, 0. Only a take makes a foot, from its rule's index and its dependent's stretch; a keep and a give hand one on.
-- So the bytes of a record are read back as the record.
use Prim.Native.Nat.{ℕ, ◌+◌, ◌*◌, ◌≤◌, ◌<◌}
use native.Mathlib.Omega.{arith}
use mathlib.Core.Path.{◌≡◌}
use mathlib.Core.List.{List}
use borrow.Author.Tests.{ne_eqb}
use Rattle.grammar.specs.Items.{Foot, bare, foot, Derived, word_step, take_step, keep_step, give_step}
use Rattle.grammar.specs.ItemList.{item}
use Rattle.grammar.specs.Chart.{recorded}
use Rattle.grammar.proofs.Unfolding.{derived-longer}
use Rattle.layout.specs.Bytes.{low_byte, high_byte}
use Rattle.layout.specs.Card.{card_number, nonterminal_count, index_count, grammar_of}
use Rattle.layout.specs.Records.{record_bytes, record_at}
use Rattle.layout.proofs.RuleLaws.{rule-counted}

abbrev pub FootOnCard : List ℕ → Foot → Type 0
FootOnCard card bare = Unit {0}
FootOnCard card (foot γ B p q) = (1 ≤ γ) × (γ ≤ index_count card) × (B < nonterminal_count card) × (p < q)

module _ (card : List ℕ) (accepted : card_number card ≡ 0) where
  pub derived-on-card : {at : ℕ → ℕ → Type 0} {A i j : ℕ} {φ : Foot} → Derived (grammar_of card) at A i j φ → FootOnCard card φ
  derived-on-card (word_step s a) = tt
  derived-on-card (take_step s l d r) =
      let f = rule-counted card accepted s in (f.1.0, f.1.1, f.3, derived-longer d)
  derived-on-card (keep_step s l d r) = derived-on-card d
  derived-on-card (give_step s l d r e) = derived-on-card e

-- So where γ is not 0, what stands after the bar is not what stands there for none.
pub foot-told : (card : List ℕ) {γ B p q : ℕ} → FootOnCard card (foot γ B p q) → (B ≡ 255) × (p ≡ 0) × (q ≡ 0) → ⊥
foot-told card f e = omega (arith, f.3, e.2)

-- A record, alone in its 16 bytes, is read back as it was written.
pub word-halves : (x : ℕ) → low_byte x + 256 * high_byte x ≡ x
word-halves x = omega arith

pub record-read-back : (card : List ℕ) (A i j : ℕ) (φ : Foot) (p x y z : ℕ) → FootOnCard card φ
    → record_at (record_bytes (recorded (item A i j φ) p x y z)) 0 ≡ recorded (item A i j φ) p x y z
record-read-back card A i j bare p x y z f = rw (word-halves x, word-halves y, word-halves z)
record-read-back card A i j (foot γ B q t) p x y z f = rw (ne_eqb γ 0 (λ e. omega (arith, f.0)), word-halves x, word-halves y, word-halves z)
