-- `cells::put_range` meets its contract: three stores, none of which changes the length.
use native.Mathlib.Omega.{arith}
use lib.ListN.{length-set}
use Rattle.records.proofs.cells.put_range.Goals as goal

pub bounds-cells-at-2 : goal.bounds-cells-at-2
bounds-cells-at-2 c = simp length-set (omega arith)

pub bounds-cells-at-3 : goal.bounds-cells-at-3
bounds-cells-at-3 c = simp length-set (omega arith)
