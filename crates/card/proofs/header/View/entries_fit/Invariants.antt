use Prim.Native.Nat.{ℕ, ◌<◌}
use mathlib.Core.Bool.{true}
use mathlib.Core.Path.{◌≡◌}
use Rattle.layout.specs.Card.{entry_fits}
use Rattle.card.proofs.header.View.entries_fit.Given as goal

abbrev pub invariant-loop-v : goal.invariant-loop-v
invariant-loop-v l = (k : ℕ) → k < l.v → entry_fits l.self.bytes.now k ≡ true
