-- A cell is being filled: what its functions ask and promise, in terms of the one struct that they pass on.
use Rattle.std.specs.Prelude.{ℕ, ◌+◌, ◌-◌, ◌≤◌, ◌≡◌, List, Option, Some, None}
use Rattle.grammar.specs.Chart.{Record}
use Rattle.chart_model.specs.Build.{flat_up}
use Rattle.records.specs.declared.record.OpenCell.{OpenCell}
use Rattle.records.specs.declared.record.Foot as declared
use Rattle.records.specs.declared.cells.Range.{Range}
use Rattle.records.specs.Room.{chart_in, foot_from, FootFits, Writable, foot_number, Working, Added}
use Rattle.records.specs.Cells.{cell_at, SpanFits, Indexed}
use Rattle.records.specs.Cover.{Covering, CellRange, Advanced}

-- The records that stood when the cell was begun: candidates are made from these.
abbrev pub begun_with : OpenCell → List ℕ → List Record
begun_with cell chart = chart_in chart cell.base

-- Room, marks and count agree on the cell.
abbrev pub WorksOn : OpenCell → List ℕ → List ℕ → ℕ → Type 0
WorksOn cell chart marks count =
    Working cell.words cell.symbols cell.room cell.left cell.from cell.to chart marks count

-- What the code answers: the count of items afterwards, none where the room is full. The relations above have one number: the count, and
-- one above the room where it is full.
abbrev pub count_after : ℕ → Option ℕ → ℕ
count_after room None = room + 1
count_after room (Some n) = n

-- A count that is answered is one that the room holds.
abbrev pub WithinRoom : ℕ → Option ℕ → Type 0
WithinRoom room None = Unit {0}
WithinRoom room (Some n) = n ≤ room

-- What adding records to it leaves.
pub record AddedTo (cell : OpenCell) (rs : List Record) (old old_marks : List ℕ) (count : ℕ) (new new_marks : List ℕ) (after : Option ℕ)
    : Type 0 where
  pub added : Added cell.words cell.symbols cell.room cell.left cell.from cell.to rs old old_marks count
      new new_marks (count_after cell.room after)
  pub within : WithinRoom cell.room after

-- What adding leaves where cells may be passed over.
pub record AdvancedTo (cell : OpenCell) (rs : List Record) (old old_marks old_cells : List ℕ) (count : ℕ) (new new_marks new_cells : List ℕ)
    (after : Option ℕ) : Type 0 where
  pub advanced : Advanced cell.words cell.symbols cell.room cell.left cell.from cell.to cell.base rs old old_marks old_cells count
      new new_marks new_cells (count_after cell.room after)
  pub within : WithinRoom cell.room after

-- A foot that fits, as it may be written, and its number.
pub record FootGiven (cell : OpenCell) (foot : declared.Foot) (number : ℕ) : Type 0 where
  pub fits : FootFits cell.words cell.symbols (foot_from foot)
  pub writable : Writable foot
  pub numbered : number ≡ foot_number cell.words cell.symbols (foot_from foot)

-- Candidates are added from records of a range that stood when the cell was begun.
pub record Adding (cell : OpenCell) (chart marks : List ℕ) (range : Range) (count : ℕ) : Type 0 where
  pub works : WorksOn cell chart marks count
  pub begun : cell.base ≤ count
  pub below : range.to ≤ cell.base

abbrev pub over_range : (ℕ → List Record) → Range → List Record
over_range f range = flat_up f range.from (range.to - range.from)

-- The cell is being filled: it lies within the line and has its number, and the table of cells agrees with the room.
pub record Filling (cell : OpenCell) (chart marks cells : List ℕ) (count : ℕ) : Type 0 where
  pub works : WorksOn cell chart marks count
  pub begun : cell.base ≤ count
  pub inside : SpanFits cell.words cell.symbols cell.left cell.from cell.to
  pub numbered : cell.number ≡ cell_at cell.symbols cell.left cell.from cell.to
  pub indexed : Indexed cell.words cell.symbols (begun_with cell chart) cells
  pub covering : Covering cell.words cell.symbols cell.left cell.from cell.to (begun_with cell chart) (chart_in chart count) cells

-- Another cell, by its number and by the range of its records.
abbrev pub RangeAt : OpenCell → List ℕ → ℕ → Range → Type 0
RangeAt cell chart number range = CellRange cell.words cell.symbols (begun_with cell chart) number range.from range.to
