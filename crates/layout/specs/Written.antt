-- Bytes that are written into a room.
use Rattle.std.specs.Prelude.{ℕ, ◌+◌, ◌≤◌, ◌≡◌, List, ◌++◌, length, take, drop}

-- The room has these bytes from `here` to `next`, and is else as it was.
pub record Wrote (old : List ℕ) (here : ℕ) (bytes new : List ℕ) (next : ℕ) : Type 0 where
  pub ends : next ≡ here + length bytes
  pub fits : next ≤ length old
  pub written : new ≡ take here old ++ (bytes ++ drop next old)
