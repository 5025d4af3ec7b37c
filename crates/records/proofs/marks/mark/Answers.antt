-- `marks::mark` meets its contract: the byte and the bit are those of the number.
use Rattle.records.proofs.MarkLaws.{mark_set}
use Rattle.records.proofs.marks.mark.Goals as goal

pub returns : goal.returns
returns c = mark_set c.args.number c.args.marks.now c.requires c.bit_of.ensures cc
