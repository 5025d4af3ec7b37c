-- Document 01, "The chart": a record's 16 bytes, written and read, and how many records a room holds.
use Rattle.std.specs.Prelude.{ℕ, ◌+◌, ◌*◌, ◌/◌, min, cond, List, [], ◌∷◌, map, eqb}
use Rattle.grammar.specs.Lists.{concat_map}
use Rattle.grammar.specs.Items.{Foot, bare, foot}
use Rattle.grammar.specs.ItemList.{item}
use Rattle.grammar.specs.Chart.{Record, recorded}
use Rattle.layout.specs.Bytes.{byte_at, number16_at, low_byte, high_byte, counted}

-- A, γ, i, j, B (255 for none), p, q, production; the positions of side, dependent and continuation, low byte first; two zeros.
abbrev pub record_bytes : Record → List ℕ
record_bytes (recorded (item A i j bare) production x y z) =
    A ∷ 0 ∷ i ∷ j ∷ 255 ∷ 0 ∷ 0 ∷ production
    ∷ low_byte x ∷ high_byte x ∷ low_byte y ∷ high_byte y ∷ low_byte z ∷ high_byte z ∷ 0 ∷ 0 ∷ []
record_bytes (recorded (item A i j (foot γ B p q)) production x y z) =
    A ∷ γ ∷ i ∷ j ∷ B ∷ p ∷ q ∷ production
    ∷ low_byte x ∷ high_byte x ∷ low_byte y ∷ high_byte y ∷ low_byte z ∷ high_byte z ∷ 0 ∷ 0 ∷ []

abbrev pub chart_bytes : List Record → List ℕ
chart_bytes c = concat_map record_bytes c

-- The same read back: γ = 0 is no foot. The record at position m, and the first count of them.
abbrev pub as_foot : ℕ → ℕ → ℕ → ℕ → Foot
as_foot γ B p q = cond (eqb γ 0) bare (foot γ B p q)

abbrev pub foot_there : List ℕ → ℕ → Foot
foot_there bytes m = let at = 16 * m in
    as_foot (byte_at bytes (at + 1)) (byte_at bytes (at + 4)) (byte_at bytes (at + 5)) (byte_at bytes (at + 6))

abbrev pub record_at : List ℕ → ℕ → Record
record_at bytes m = let at = 16 * m in
    recorded (item (byte_at bytes at) (byte_at bytes (at + 2)) (byte_at bytes (at + 3)) (foot_there bytes m))
    (byte_at bytes (at + 7)) (number16_at bytes (at + 8)) (number16_at bytes (at + 10)) (number16_at bytes (at + 12))

abbrev pub chart_in : List ℕ → ℕ → List Record
chart_in bytes count = map (record_at bytes) (counted 0 count)

abbrev pub record_length : ℕ
record_length = 16

-- The items that a room of so many bytes holds.
abbrev pub capacity : ℕ → ℕ
capacity room = min (room / record_length) 65535
