-- `record::low` meets its contract: the lowest eight bits of a number are its remainder by 256.
use native.Mathlib.Omega.{arith}
use lib.Bits.{and_mask, and_le_r}
use Rattle.records.proofs.record.low.Goals as goal

pub overflow_cast-result : goal.overflow_cast-result
overflow_cast-result c = omega (arith, and_le_r c.args.x 255)

pub returns : goal.returns
returns c = and_mask c.args.x 8
