use Prim.Native.Nat.{ℕ}
use Rattle.layout.specs.Card.{max_productions}
use Rattle.bits.proofs.BitSets.{Walk}
use Rattle.steps.proofs.StepCover.{Advancing}
use Rattle.chart.proofs.CellLaws.{by_number}
use Rattle.chart.proofs.cell.fill_items.Given as goal

abbrev pub invariant-loop-p : goal.invariant-loop-p
invariant-loop-p l =
    (y : ℕ)
    × Advancing l.cell (by_number l.input.card.bytes.now l.input.words.now.places l.cell l.set) 0 max_productions l.initial.chart l.initial.marks l.initial.cells l.cell.base l.chart l.marks l.cells y l.total
    × Walk l.set l.p-iterator.rest y
