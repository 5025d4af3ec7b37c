-- `has`: below 32 the bit of the number decides, and `1 << b` is 2 ^ b; a set of numbers below 32 has none from 32 on.
use native.Mathlib.Omega.{arith}
use mathlib.Core.Logic.{⊎_elim}
use borrow.Author.Tests.{le-ltb}
use Rattle.bits.proofs.BitLaws.{bit-beyond, bit-decides, tests, one_shifted}
use Rattle.bits.proofs.has.Goals as goal

pub returns-then-b-lt32 : goal.returns-then-b-lt32
returns-then-b-lt32 c =
    let a = c.args in
    let one = one_shifted a.b 32 (omega arith) in
    ⊎_elim
    (λ (some, has). rw (one, has) (omega (arith, tests, some)))
    (λ (none, has). rw (one, has) (omega (arith, tests, none)))
    (bit-decides a.b a.set)

pub returns-else-b-lt32 : goal.returns-else-b-lt32
returns-else-b-lt32 c =
    let a = c.args in
    rw (le-ltb a.b 32 (omega arith), bit-beyond 32 a.b a.set (omega (arith, c.ranges.set.fits)) (omega arith))
