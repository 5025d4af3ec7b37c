-- Where a word has to be looked for: a word's slot is five bits of its first and last letters, and for each of the 32 slots a table says
-- from which entry on and up to which entry those in it stand.
use Rattle.std.specs.Prelude.{ℕ, ◌+◌, ◌*◌, ◌-◌, ◌≤◌, ◌<◌, ◌≡◌, cond, List, eqb, length, get_or}
use Rattle.std.specs.Int.Bits.{bit_and}
use Rattle.layout.specs.Bytes.{byte_at}
use Rattle.layout.specs.Card.{spelling}
use Rattle.line.specs.declared.slots.Slot.{Slot}

abbrev pub slot_of : ℕ → ℕ → ℕ
slot_of first last = bit_and (2 * first + last) 31

abbrev pub word_slot : List ℕ → ℕ
word_slot word = slot_of (byte_at word 0) (byte_at word (length word - 1))

abbrev pub entry_slot : List ℕ → ℕ → ℕ
entry_slot card v = word_slot (spelling card v)

-- A slot that no entry has been met of, and one with its next entry.
abbrev pub no_slot : Slot
no_slot = record { from = 0; to = 0 }

pub record NextInSlot (before : Slot) (v : ℕ) (after : Slot) : Type 0 where
  pub from : after.from ≡ cond (eqb before.to 0) v before.from
  pub to : after.to ≡ v + 1

-- The slot of a number.
abbrev pub slot_at : List Slot → ℕ → Slot
slot_at slots h = get_or slots h no_slot

-- The first n entries stand where the table says.
pub record Ranged (card : List ℕ) (n : ℕ) (slots : List Slot) : Type 0 where
  pub all : length slots ≡ 32
  pub order : (h : ℕ) → (slot_at slots h).from ≤ (slot_at slots h).to
  pub within : (h : ℕ) → (slot_at slots h).to ≤ n
  pub after : (v : ℕ) → v < n → (slot_at slots (entry_slot card v)).from ≤ v
  pub before : (v : ℕ) → v < n → v < (slot_at slots (entry_slot card v)).to
