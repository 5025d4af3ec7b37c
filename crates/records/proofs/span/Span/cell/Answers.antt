-- `Span::cell` meets its contract: 16 nonterminals at each of 300 spans at most, so the sums fit.
use Prim.Native.Nat.{ℕ, ◌+◌, ◌*◌, ◌≤◌}
use native.Mathlib.Nat.{mul-le-mul}
use native.Mathlib.Omega.{arith}
use mathlib.Core.Path.{ap}
use Rattle.records.proofs.TableLaws.{spans-more, cell_below}
use Rattle.records.proofs.span.Span.cell.Goals.{After-number}
use Rattle.records.proofs.span.Span.cell.Goals as goal

-- The product and the sum are small.
small : (c : After-number) → c.number.result * c.args.symbols + c.args.a ≤ 4816
small c =
    let span : c.number.result ≤ 300 = omega (arith, c.number.ensures.below, spans-more c.args.self.words 24 c.args.self.few) in
    omega (arith, mul-le-mul span c.requires.0)

pub overflow_mul-result : goal.overflow_mul-result
overflow_mul-result c = omega (arith, small c)

pub overflow_add-result : goal.overflow_add-result
overflow_add-result c = omega (arith, small c)

pub returns-clause-at : goal.returns-clause-at
returns-clause-at c = ap (λ (k : ℕ). k * c.args.symbols + c.args.a) c.number.ensures.at

pub returns-clause-below : goal.returns-clause-below
returns-clause-below c =
    let s = c.args.self in
    let same = ap (λ (k : ℕ). k * c.args.symbols + c.args.a) c.number.ensures.at in
    omega (arith, same, cell_below s.words c.args.symbols c.args.a s.from s.to c.requires.1 s.some s.inside)
