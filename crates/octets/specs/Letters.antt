-- Stretches of bytes, and letters that stand one after the other.
use Rattle.std.specs.Prelude.{ℕ, ◌-◌, ◌≤◌, ◌<◌, ◌≡◌, true, false, List, length, take, drop}
use Rattle.layout.specs.Bytes.{byte_at, is_letter, all_bytes}

-- The bytes from one place up to another.
abbrev pub part : List ℕ → ℕ → ℕ → List ℕ
part bytes start stop = take (stop - start) (drop start bytes)

-- Letters stand from `at` up to `stop`.
pub record Letters (bytes : List ℕ) (at stop : ℕ) : Type 0 where
  pub after : at ≤ stop
  pub within : stop ≤ length bytes
  pub letters : all_bytes is_letter (part bytes at stop) ≡ true

-- And no letter stands at `stop`: the bytes end there, or have another byte.
pub record AllLetters (bytes : List ℕ) (at stop : ℕ) : Type 0 where
  pub taken : Letters bytes at stop
  pub stops : stop < length bytes → is_letter (byte_at bytes stop) ≡ false
