-- `marks::bit_of` meets its contract: the lowest three bits of a number are its remainder by 8, and `1 << b` is 2 ^ b, since b is below 8.
use Prim.Native.Nat.{ℕ, ◌^◌}
use native.Mathlib.Omega.{arith}
use mathlib.Core.Path.{◌∙◌, ap}
use lib.Bits.{bit_and, and_mask, and_le_r}
use Rattle.bits.proofs.BitLaws.{one_shifted}
use Rattle.records.proofs.marks.bit_of.Goals as goal

pub overflow_cast-result : goal.overflow_cast-result
overflow_cast-result c = omega (arith, and_le_r c.args.number 7)

pub overflow_shl-result : goal.overflow_shl-result
overflow_shl-result c = omega (arith, and_le_r c.args.number 7)

pub returns : goal.returns
returns c =
    let n = c.args.number in
    one_shifted (bit_and n 7) 8 (omega (arith, and_le_r n 7)) ∙ ap (λ (b : ℕ). 2 ^ b) (and_mask n 3)
