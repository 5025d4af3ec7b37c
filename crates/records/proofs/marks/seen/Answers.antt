-- `marks::seen` meets its contract: the byte and the bit are those of the number.
use Rattle.records.proofs.MarkLaws.{mark-seen}
use Rattle.records.proofs.marks.seen.Goals as goal

pub returns : goal.returns
returns c =
    mark-seen c.args.marks.now c.args.number c.bit_of.ensures
