-- Which cell covers which: it has every foot of the other. A cell that takes over all feet of a cell it covers gets nothing new, so such a
-- cell can be passed over.
use Rattle.std.specs.Prelude.{ℕ, suc, ◌*◌, ◌-◌, ◌≤◌, ◌≡◌, length}
use mathlib.Core.List.{List, [], map, Memᴰ}
use Rattle.grammar.specs.Items.{Foot}
use Rattle.grammar.specs.ItemList.{Item, item}
use Rattle.grammar.specs.Chart.{Record, item_of}
use Rattle.layout.specs.Bytes.{counted}
use Rattle.chart_model.specs.Build.{places}
use Rattle.records.specs.Room.{chart_in, Added}
use Rattle.records.specs.Cells.{spans, cell_at, range_in, cover_in, SpanFits}

-- The item of some record.
abbrev pub HasItem : List Record → Item → Type 0
HasItem c x = Memᴰ x (map item_of c)

-- Every foot that the cell of B over p to q has in b, the cell of A over i to j has in c.
abbrev pub CoversIn : List Record → List Record → ℕ → ℕ → ℕ → ℕ → ℕ → ℕ → Type 0
CoversIn b c A i j B p q = (φ : Foot) → HasItem b (item B p q φ) → HasItem c (item A i j φ)

-- The cell of number m covers that of B over p to q: it is the cell in hand, as far as that has got, or an earlier one.
pub data Coverer (n N A i j : ℕ) (b c : List Record) (B p q m : ℕ) : Type 0 where
  present : m ≡ cell_at N A i j → CoversIn b c A i j B p q → Coverer n N A i j b c B p q m
  earlier : {A' i' j' : ℕ} → SpanFits n N A' i' j' → m ≡ cell_at N A' i' j' → CoversIn b b A' i' j' B p q
      → Coverer n N A i j b c B p q m

-- While a cell is being filled: b is the chart when it was begun, c the chart now.
pub record Covering (n N A i j : ℕ) (b c : List Record) (cells : List ℕ) : Type 0 where
  pub long : 4 * (spans n * N) ≤ length cells
  pub sound : (B p q : ℕ) → SpanFits n N B p q → (m : ℕ) → cover_in cells (cell_at N B p q) ≡ suc m → Coverer n N A i j b c B p q m
  pub empty : (B p q : ℕ) → SpanFits n N B p q → places b B p q ≡ [] → cover_in cells (cell_at N B p q) ≡ 0

-- Between two cells.
pub record Covered (n N : ℕ) (b : List Record) (cells : List ℕ) : Type 0 where
  pub long : 4 * (spans n * N) ≤ length cells
  pub sound : (B p q : ℕ) → SpanFits n N B p q → (m : ℕ) → cover_in cells (cell_at N B p q) ≡ suc m
      → (A : ℕ) × (i : ℕ) × (j : ℕ) × SpanFits n N A i j × (m ≡ cell_at N A i j) × CoversIn b b A i j B p q
  pub empty : (B p q : ℕ) → SpanFits n N B p q → places b B p q ≡ [] → cover_in cells (cell_at N B p q) ≡ 0

-- What adding records leaves where cells are passed over: the same as adding them all, and a table of cells whose covers are right again and
-- whose ranges are as they were.
pub record Advanced (n N room A i j base : ℕ) (rs : List Record) (old old_marks old_cells : List ℕ) (count : ℕ) (new new_marks cells : List ℕ)
    (after : ℕ) : Type 0 where
  pub added : Added n N room A i j rs old old_marks count new new_marks after
  pub same_cells : length cells ≡ length old_cells
  pub same_ranges : (cell : ℕ) → range_in cells cell ≡ range_in old_cells cell
  pub covering : after ≤ room → Covering n N A i j (chart_in old base) (chart_in new after) cells

-- A cell by its number and by the range of its records in b.
pub record CellRange (n N : ℕ) (b : List Record) (at from to : ℕ) : Type 0 where
  pub symbol : ℕ
  pub start : ℕ
  pub end : ℕ
  pub fits : SpanFits n N symbol start end
  pub number : at ≡ cell_at N symbol start end
  pub stands : places b symbol start end ≡ counted from (to - from)
