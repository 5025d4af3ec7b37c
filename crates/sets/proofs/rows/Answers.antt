-- `rows` meets its contract: the product is twice the count of spans.
use native.Mathlib.Omega.{arith}
use Rattle.sets.proofs.RowLaws.{rows_at}
use Rattle.sets.proofs.rows.Goals as goal

pub returns : goal.returns
returns c = omega (arith, rows_at c.args.words)
