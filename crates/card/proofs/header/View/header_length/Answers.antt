-- `View::header_length`: by its definition.
use native.Mathlib.Omega.{arith}
use mathlib.Core.Path.{refl}
use Rattle.layout.specs.Card.{header_length}
use Rattle.card.proofs.header.View.header_length.Goals as goal

pub returns : goal.returns
unfolding header_length
returns c = (refl, omega arith)
