-- What is written and what is to come are the records of all pairs.
use Rattle.std.proofs.Common.{arith, rules}
use Rattle.sheet.proofs.Placing.{placing-none, wrote-part, first-two, placing-more, placing-all}
use Rattle.sheet.proofs.sheet_records.Records.put.Goals as goal

pub loop-rest-init : goal.loop-rest-init
loop-rest-init c = placing-none c.args.place c.args.pairs.now c.args.self.now (search rules) c.requires

pub loop-rest-preserved : goal.loop-rest-preserved
loop-rest-preserved c =
    placing-more c.loop-rest.invariant (first-two c.loop-rest.rest.now c.in-len2-up.len_at_least)
    (wrote-part c.copy_from_slice.ensures.after (omega arith) (omega arith) (omega (arith, c.loop-rest.invariant.fits)))

pub returns : goal.returns
returns c = placing-all c.loop-rest.invariant c.in_default.len_below
