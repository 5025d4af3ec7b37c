-- Adding from the records of a cell that is looked for first: passed over where it is covered, and else read from the table as the look left it.
use Prim.Native.Nat.{ℕ, ◌+◌, ◌*◌, ◌≤◌, ◌<◌}
use native.Mathlib.Omega.{arith}
use mathlib.Core.Path.{◌≡◌, sym, ◌∙◌, ap, subst}
use mathlib.Core.List.{List, [], ◌∷◌, map}
use Rattle.std.specs.Prelude.{Option, Some, None}
use lib.ListN.{length}
use Rattle.grammar.specs.ItemList.{item}
use Rattle.grammar.specs.Chart.{Record, item_of}
use Rattle.chart_model.specs.Build.{foot_at}
use Rattle.records.specs.declared.record.OpenCell.{OpenCell}
use Rattle.records.specs.declared.cells.Range.{Range}
use Rattle.records.specs.Cells.{range_in, with_cover, noted_anew}
use Rattle.records.specs.Filling.{begun_with, over_range, AddedTo, AdvancedTo, Filling, RangeAt}
use Rattle.records.proofs.CellsLaws.{noted-range}
use Rattle.records.proofs.RoomLaws.{chart-length}
use Rattle.steps.proofs.StepCover.{advanced-as, advanced-kept, note-fits, looked-at, advanced-looked, advanced-none, taken-over}

-- A cell whose range is read once the cell was looked for. The look changes no range, so what is done from there on adds the records of the
-- range that the table had.
module _ {cell : OpenCell} {chart marks cells seen : List ℕ} {count at : ℕ} {R : Range} (h : Filling cell chart marks cells count)
    (d : RangeAt cell chart at (range_in cells at)) (e : seen ≡ noted_anew cells cell.number at) (r : R ≡ range_in seen at) where
  pub same_range : R ≡ range_in cells at
  same_range = r ∙ ap (λ (l : List ℕ). range_in l at) e ∙ noted-range cells cell.number at at

  pub read-at : RangeAt cell chart at R
  read-at = subst (RangeAt cell chart at) (sym same_range) d

  pub looked : Filling cell chart marks seen count
  looked = looked-at h d e

  pub as-read : (f : ℕ → List Record) {new new_marks new_cells : List ℕ} {after : Option ℕ}
      → AdvancedTo cell (over_range f R) chart marks seen count new new_marks new_cells after
      → AdvancedTo cell (over_range f (range_in cells at)) chart marks cells count new new_marks new_cells after
  as-read f a = advanced-looked h d e (advanced-as (ap (over_range f) same_range) a)

  pub read-below : R.to ≤ cell.base
  read-below = subst (λ (R : Range). R.to ≤ cell.base) (sym same_range) (omega (arith, h.indexed.to_within at, chart-length chart cell.base))

  pub read-notes : (cell.number < 65535) × (4 * at + 4 ≤ length seen)
  read-notes = note-fits looked read-at

  -- The room is full.
  pub read-full : (f : ℕ → List Record) {new new_marks : List ℕ} → AddedTo cell (over_range f R) chart marks count new new_marks None
      → AdvancedTo cell (over_range f (range_in cells at)) chart marks cells count new new_marks seen None
  read-full f a = as-read f (advanced-kept looked a)

  module _ (f : ℕ → List Record)
      (one : (x : ℕ) → map item_of (f x) ≡ item cell.left cell.from cell.to (foot_at (begun_with cell chart) x) ∷ []) where
    pub read-none : R.to ≤ R.from
        → AdvancedTo cell (over_range f (range_in cells at)) chart marks cells count chart marks seen (Some count)
    read-none l = as-read f (advanced-none looked read-at f one l)

    pub read-over : {new new_marks new_cells : List ℕ} {after : ℕ} → R.from < R.to
        → AddedTo cell (over_range f R) chart marks count new new_marks (Some after) → new_cells ≡ with_cover seen at (cell.number + 1)
        → AdvancedTo cell (over_range f (range_in cells at)) chart marks cells count new new_marks new_cells (Some after)
    read-over l a n = as-read f (taken-over looked read-at f one l a n)
