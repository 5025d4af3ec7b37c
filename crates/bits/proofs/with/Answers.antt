-- `with`: `1 << b` is 2 ^ b, since b is below 32.
use Prim.Native.Nat.{◌^◌}
use lib.Bits.{or_comm}
use Rattle.bits.proofs.BitLaws.{one_shifted}
use Rattle.bits.proofs.with.Goals as goal

pub returns : goal.returns
returns c = cc (one_shifted c.args.b 32 c.requires, or_comm c.args.set (2 ^ c.args.b))
