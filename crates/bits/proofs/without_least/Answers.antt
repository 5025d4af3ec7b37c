use mathlib.Core.Path.{refl}
use Rattle.bits.proofs.BitSets.{without-lowest}
use Rattle.bits.proofs.without_least.Goals as goal

pub returns : goal.returns
returns c = without-lowest c.args.set _ refl
