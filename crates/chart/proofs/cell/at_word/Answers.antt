-- `cell::at_word` meets its contract: one record where the rule is the word production of the cell, and none where it is not.
use mathlib.Core.Path.{refl}
use Rattle.chart.proofs.CellLaws.{bare-number}
use Rattle.chart.proofs.cell.at_word.Goals as goal

pub add-requires : goal.add-requires
add-requires c = (
  c.requires.0,
  record {
    fits = tt;
    writable = λ e. (refl, refl, refl);
    numbered = bare-number c.args.cell.words c.args.cell.symbols;
  },
)
