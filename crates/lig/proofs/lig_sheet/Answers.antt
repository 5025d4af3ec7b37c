-- Number, line and records are those of the sheet, and so fit their bits.
use native.Mathlib.Omega.{arith}
use mathlib.Core.Path.{sym, subst}
use Rattle.sheet.proofs.Fits.{sheet-fits}
use Rattle.lig.specs.Exports.{SheetPacked}
use Rattle.lig.proofs.Laws.{sheet-packed}
use Rattle.lig.proofs.lig_sheet.Goals as goal

pub pack_sheet-requires : goal.pack_sheet-requires
pack_sheet-requires c =
    let (number, line, records) = sheet-fits c.in-Ok.ensures in (omega arith, omega arith)

pub returns-in-Ok : goal.returns-in-Ok
returns-in-Ok c = subst (SheetPacked _ _ _ _ _ _) (sym c.pack_sheet.ensures) (sheet-packed c.in-Ok.ensures)

pub returns-in-Err : goal.returns-in-Err
returns-in-Err c =
    subst (SheetPacked _ _ _ _ _ _) (sym (rw c.from.ensures at c.pack_sheet-in-Err.ensures)) (sheet-packed c.in-Err.ensures)
