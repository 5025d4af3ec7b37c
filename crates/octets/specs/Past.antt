-- Past the bytes that a test fits, from a place on. What the test answers is a relation: a closure's, by which it may answer so of a byte.
use Rattle.std.specs.Prelude.{ℕ, ◌≤◌, ◌<◌, Bool, true, false, List, length}
use Rattle.layout.specs.Bytes.{byte_at}

pub record Past (fits : ℕ → Bool → Type 0) (bytes : List ℕ) (at stop : ℕ) : Type 0 where
  pub after : at ≤ stop
  pub within : stop ≤ length bytes
  pub passed : (k : ℕ) → at ≤ k → k < stop → fits (byte_at bytes k) true
  pub stops : stop < length bytes → fits (byte_at bytes stop) false
