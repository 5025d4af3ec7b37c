-- `hand_out` meets its contract: each way out is a law of the records within their room.
use native.Mathlib.Omega.{arith}
use mathlib.Core.Path.{ap}
use Rattle.std.specs.Prelude.{List, ℕ, ◌++◌, drop, length}
use Rattle.sheet.proofs.Handing.{hand-short, hand-all}
use Rattle.sheet.proofs.hand_out.Goals as goal

pub returns-then-output-records : goal.returns-then-output-records
returns-then-output-records c records count is =
    let a = c.args in
    rw c.from.ensures (hand-short records a.records.now a.output.now is (omega (arith, c.if-output-records.true)))

pub returns : goal.returns
returns c records count is =
    let a = c.args in
    hand-all records a.records.now a.output.now is (omega (arith, c.if-output-records.false)) count
    (ap (λ (x : List ℕ). x ++ drop (length a.records.now) a.output.now) c.copy_from_slice.ensures.after)
