use Prim.Native.Nat.{ℕ, ◌<◌, ◌≤◌}
use mathlib.Core.Bool.{true}
use Rattle.layout.specs.Bytes.{byte_at}
use Rattle.octets.proofs.past.Given as goal

abbrev pub invariant-loop-k : goal.invariant-loop-k
invariant-loop-k g l = (i : ℕ) → l.at ≤ i → i < l.k → goal.F-post g l.fits (byte_at l.s i) true
