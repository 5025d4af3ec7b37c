-- The records of a chart in the bytes of a room, and what adding to them promises.
use Rattle.std.specs.Prelude.{ℕ, zero, suc, ◌+◌, ◌*◌, ◌-◌, ◌/◌, ◌%◌, ◌≤◌, ◌<◌, ◌≡◌}
use Rattle.std.specs.Prelude.{Bool, cond, ◌||◌, List, [], ◌∷◌, ◌++◌, map, eqb, leb, length, take, drop, get_or, set}
use Rattle.std.proofs.Math.Option.{Option, none, some}
use Rattle.grammar.specs.Lists.{concat_map}
use Rattle.grammar.specs.Items.{Foot, bare, foot}
use Rattle.grammar.specs.ItemList.{item, among}
use Rattle.grammar.specs.Chart.{Record, recorded, item_of}
use Rattle.layout.specs.Bytes.{byte_at, number16_at, low_byte, high_byte}
use Rattle.layout.specs.Card.{max_nonterminals, max_indices}
use Rattle.layout.specs.Line.{most_words}
pub use Rattle.layout.specs.Records.{record_bytes, chart_bytes, as_foot, foot_there, record_at, chart_in}
use Rattle.chart_model.specs.Build.{foot_at, add_each}
use Rattle.records.specs.declared.record.OpenCell.{OpenCell}
use Rattle.records.specs.declared.record.Foot as declared
use Rattle.records.specs.declared.record.Origin.{Origin}
use Rattle.bits.specs.Bits.{holds_bit}
use Rattle.records.specs.Cells.{spans, cell_at}

-- The same as the model has it: a count above the room says that an item did not fit.
abbrev pub state_of : ℕ → List ℕ → ℕ → Option (List Record)
state_of room bytes count = cond (leb count room) (some (chart_in bytes count)) none

-- What the code's structs stand for.
abbrev pub foot_from : declared.Foot → Foot
foot_from f = as_foot f.index f.symbol f.from f.to

abbrev pub record_from : OpenCell → declared.Foot → Origin → Record
record_from c f o =
    recorded (item c.left c.from c.to (foot_from f)) o.production o.side o.dependent o.continuation

-- The four bytes of a foot as they stand in the record at position m.
abbrev pub foot_fields : List ℕ → ℕ → declared.Foot
foot_fields bytes m = let at = 16 * m in
    record { index = byte_at bytes (at + 1); symbol = byte_at bytes (at + 4); from = byte_at bytes (at + 5); to = byte_at bytes (at + 6) }

-- A foot that may be written as it is: without an index it has the bytes of a record without a foot.
abbrev pub Writable : declared.Foot → Type 0
Writable f = f.index ≡ 0 → (f.symbol ≡ 255) × (f.from ≡ 0) × (f.to ≡ 0)

-- Feet whose parts lie within n words and N nonterminals.
abbrev pub FootFits : ℕ → ℕ → Foot → Type 0
FootFits n N bare = Unit {0}
FootFits n N (foot γ B p q) = (1 ≤ γ) × (γ ≤ max_indices) × (B < N) × (p < q) × (q ≤ n)

abbrev pub FeetFit : ℕ → ℕ → List Record → Type 0
FeetFit n N c = (m : ℕ) → m < length c → FootFits n N (foot_at c m)

-- The number of a foot: eight for each cell of n words and N nonterminals, one for each index; after them all the bare item's.
abbrev pub foot_number : ℕ → ℕ → Foot → ℕ
foot_number n N bare = 8 * (spans n * N)
foot_number n N (foot γ B p q) = 8 * cell_at N B p q + (γ - 1)

-- A record's bytes with a number in place of the last two, low byte first.
abbrev pub with_number : ℕ → Record → List ℕ
with_number k r = take 14 (record_bytes r) ++ (low_byte k ∷ high_byte k ∷ [])

-- While a chart is being built, the two last bytes of a record hold the number of its foot.
abbrev pub numbered : ℕ → ℕ → Record → List ℕ
numbered n N (recorded (item A i j φ) p x y z) = with_number (foot_number n N φ) (recorded (item A i j φ) p x y z)

abbrev pub numbered_chart : ℕ → ℕ → List Record → List ℕ
numbered_chart n N c = concat_map (numbered n N) c

abbrev pub number_there : List ℕ → ℕ → ℕ
number_there bytes m = number16_at bytes (16 * m + 14)

-- The bytes with zeros in place of the numbers of the first so many records.
abbrev pub numbers_cleared : ℕ → List ℕ → List ℕ
numbers_cleared zero bytes = bytes
numbers_cleared (suc m) bytes = set (set (numbers_cleared m bytes) (16 * m + 14) 0) (16 * m + 15) 0

-- A mark is a bit for each number, eight to a byte.
abbrev pub mark_at : List ℕ → ℕ → Bool
mark_at marks k = holds_bit (k % 8) (get_or marks (k / 8) 0)

abbrev pub mark_of : ℕ → ℕ → List ℕ → Foot → Bool
mark_of n N marks φ = mark_at marks (foot_number n N φ)

-- One number more is marked.
pub record MarkAdded (number : ℕ) (old new : List ℕ) : Type 0 where
  pub same_length : length new ≡ length old
  pub others : (k : ℕ) → mark_at new k ≡ (eqb k number || mark_at old k)

-- The marks are those of the cell of A over i to j.
abbrev pub Marked : ℕ → ℕ → ℕ → ℕ → ℕ → List Record → List ℕ → Type 0
Marked n N A i j c marks = (φ : Foot) → FootFits n N φ → mark_of n N marks φ ≡ among (item A i j φ) (map item_of c)

-- A cell is being filled: the room, its count and the marks agree.
pub record Working (n N room A i j : ℕ) (chart marks : List ℕ) (count : ℕ) : Type 0 where
  pub words_fit : n ≤ most_words
  pub symbols_fit : N ≤ max_nonterminals
  pub room_small : room ≤ 65535
  pub room_there : 16 * room ≤ length chart
  pub marks_there : spans n * N < length marks
  pub count_fits : count ≤ room
  pub exact : take (16 * count) chart ≡ numbered_chart n N (chart_in chart count)
  pub marked : Marked n N A i j (chart_in chart count) marks
  pub feet : FeetFit n N (chart_in chart count)

-- What adding the records rs, those whose items are new, leaves of a room and its marks; `after` is the count then.
pub record Added (n N room A i j : ℕ) (rs : List Record) (old old_marks : List ℕ) (count : ℕ) (new new_marks : List ℕ) (after : ℕ)
    : Type 0 where
  pub same_room : length new ≡ length old
  pub same_marks : length new_marks ≡ length old_marks
  pub grown : count ≤ after
  pub kept : take (16 * count) new ≡ take (16 * count) old
  pub model : state_of room new after ≡ add_each room rs (some (chart_in old count))
  pub rest : after ≤ room → drop (16 * after) new ≡ drop (16 * after) old
  pub works : after ≤ room → Working n N room A i j new new_marks after
