-- `sized::build_in` meets its contract: the tables of long lines are for all lines, and what is left to the others its tests tell.
use native.Mathlib.Omega.{arith}
use Rattle.std.proofs.Common.{lit<}
use Rattle.chart.proofs.CardFits.{few-names}
use Rattle.chart.proofs.BuiltExact.{long-enough}
use Rattle.chart.proofs.sized.build_in.Goals as goal

pub build_long-requires : goal.build_long-requires
build_long-requires c = (lit< tt, long-enough 24 6 (omega arith) (omega arith))

pub build_long-requires-then-n-gt12 : goal.build_long-requires-then-n-gt12
build_long-requires-then-n-gt12 c = (lit< tt, long-enough 24 16 (omega arith) (few-names c.args.input.card.bytes.now c.args.input.card.accepted))
