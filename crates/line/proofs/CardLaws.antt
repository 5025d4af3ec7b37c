-- What an accepted card tells of its word table: the tests behind refusals 12 to 14 hold, so the table lies within the card and each
-- entry has 1 to 11 letters, as many as its spelling.
use Prim.Native.Nat.{ℕ, ◌+◌, ◌≤◌, ◌<◌}
use native.Mathlib.Omega.{arith}
use mathlib.Core.Path.{◌≡◌, ◌∙◌}
use mathlib.Core.List.{List}
use lib.ListN.{length, drop, length-drop}
use lib.Seq.{length-take-le, get_or-take, get_or-drop}
use Rattle.layout.specs.Bytes.{byte_at}
use Rattle.layout.specs.Card.{word_count, most_letters, entry_at, spelling_length, spelling, within, entry_fits, card_number}
use Rattle.layout.proofs.TestLaws.{both, limits, below_all}
use Rattle.layout.proofs.Accepting.{accepted-card, entry-inside}

-- The letters of an entry.
pub spelling-byte : (card : List ℕ) (k i : ℕ) → i < spelling_length card k
    → byte_at (spelling card k) i ≡ byte_at card (entry_at card k + 1 + i)
spelling-byte card k i h =
    get_or-take (spelling_length card k) (drop (entry_at card k + 1) card) i 0 h ∙ get_or-drop (entry_at card k + 1) card i 0

-- An entry of an accepted card.
module _ (card : List ℕ) (v : ℕ) (ok : card_number card ≡ 0) (h : v < word_count card) where
  letters : (1 ≤ spelling_length card v) × (spelling_length card v ≤ most_letters)
  letters =
      let entry = below_all (word_count card) (entry_fits card) (accepted-card card ok).fit v h in
      limits 1 most_letters (spelling_length card v) (both (within 1 most_letters (spelling_length card v)) _ entry).0

  pub most-letters : spelling_length card v ≤ most_letters
  most-letters = letters.1

  pub spelling-some : 1 ≤ spelling_length card v
  spelling-some = letters.0

  pub spelling-size : length (spelling card v) ≡ spelling_length card v
  spelling-size =
      length-take-le (spelling_length card v) (drop (entry_at card v + 1) card)
      (omega (arith, length-drop (entry_at card v + 1) card, entry-inside card v ok h, most-letters))
