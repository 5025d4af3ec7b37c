-- `sized::build_short` meets its contract: each choice has tables for the words and the nonterminals that its tests leave.
-- The tests are in terms of what the code read of the card.
use native.Mathlib.Omega.{arith}
use Rattle.std.proofs.Common.{lit<}
use Rattle.chart.proofs.CardFits.{few-names}
use Rattle.chart.proofs.BuiltExact.{long-enough}
use Rattle.chart.proofs.sized.build_short.Goals as goal

pub build_sized-requires : goal.build_sized-requires
build_sized-requires c = (lit< tt, long-enough 4 6 (omega arith) (omega arith))

pub build_sized-requires-then-n-le8 : goal.build_sized-requires-then-n-le8
build_sized-requires-then-n-le8 c = (lit< tt, long-enough 8 6 (omega arith) (omega arith))

pub build_sized-requires-then-n-le6 : goal.build_sized-requires-then-n-le6
build_sized-requires-then-n-le6 c = (lit< tt, long-enough 6 16 (omega arith) (few-names c.args.input.card.bytes.now c.args.input.card.accepted))

pub build_sized-requires-then-n-le12 : goal.build_sized-requires-then-n-le12
build_sized-requires-then-n-le12 c = (lit< tt, long-enough 12 6 (omega arith) (omega arith))

pub build_sized-requires-then-n-le12-2 : goal.build_sized-requires-then-n-le12-2
build_sized-requires-then-n-le12-2 c = (lit< tt, long-enough 12 16 (omega arith) (few-names c.args.input.card.bytes.now c.args.input.card.accepted))

pub build_sized-requires-else-n-le12-2 : goal.build_sized-requires-else-n-le12-2
build_sized-requires-else-n-le12-2 c = (lit< tt, long-enough 16 6 (omega arith) (c.requires.1 (omega arith)))
