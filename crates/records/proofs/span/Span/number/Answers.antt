-- `Span::number` meets its contract: to * (to - 1) is twice the number of spans with an earlier end, and at most 576.
use Prim.Native.Nat.{ℕ, zero, suc, ◌*◌, ◌-◌, ◌/◌, ◌≤◌}
use native.Mathlib.Nat.{mul-le-mul, mul_comm}
use native.Mathlib.Omega.{arith}
use mathlib.Core.Path.{◌≡◌}
use Rattle.records.specs.Cells.{spans}
use Rattle.records.proofs.TableLaws.{spans-twice, span_below}
use Rattle.records.proofs.span.Span.number.Goals as goal

half : (j : ℕ) → j * (j - 1) / 2 ≡ spans (j - 1)
half zero = omega arith
half (suc j) = let e : suc j - 1 ≡ j = omega arith in rw e (omega (arith, spans-twice j, mul_comm (suc j) j))

small : (n j : ℕ) → n ≤ 24 → j ≤ n → j * (j - 1) ≤ 576
small n j few inside =
    let a : j ≤ 24 = omega arith in
    let b : j - 1 ≤ 24 = omega arith in
    omega (arith, mul-le-mul a b)

pub overflow_mul-result : goal.overflow_mul-result
overflow_mul-result c = let s = c.args.self in omega (arith, small s.words s.to s.few s.inside)

pub overflow_add-result : goal.overflow_add-result
overflow_add-result c =
    let s = c.args.self in omega (arith, small s.words s.to s.few s.inside, s.few, s.some, s.inside)

pub returns-clause-at : goal.returns-clause-at
returns-clause-at c = omega (arith, half c.args.self.to)

pub returns-clause-below : goal.returns-clause-below
returns-clause-below c =
    let s = c.args.self in omega (arith, half s.to, span_below s.words s.from s.to s.some s.inside)
