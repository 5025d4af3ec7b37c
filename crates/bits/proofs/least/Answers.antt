-- `least` meets its contract: the zeros below the lowest bit are as many as its number.
use Rattle.bits.proofs.BitSets.{least-there}
use Rattle.bits.proofs.least.Goals as goal

pub returns : goal.returns
returns c = least-there c.args.set c.ranges.set.fits c.requires
