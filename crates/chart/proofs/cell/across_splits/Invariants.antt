use Prim.Native.Nat.{ℕ, suc}
use Rattle.bits.proofs.BitSets.{Walk}
use Rattle.steps.proofs.StepCover.{Advancing}
use Rattle.chart.proofs.CellLaws.{at_split}
use Rattle.chart.proofs.cell.across_splits.Given as goal

abbrev pub invariant-loop-k : goal.invariant-loop-k
invariant-loop-k l =
    (y : ℕ)
    × Advancing l.cell (at_split l.card.bytes.now l.cell l.p) (suc l.cell.from) l.cell.to l.initial.chart l.initial.marks l.initial.cells l.count l.chart l.marks l.cells y l.total
    × Walk l.splits l.k-iterator.rest y
