-- Document 01, "Line and rewriting": where a line's next word starts, said by the rest of the line, and where its letters end.
use Rattle.std.specs.Prelude.{ℕ, ◌≤◌, ◌<◌, ◌≡◌, false, List, length, drop}
use Rattle.layout.specs.Bytes.{byte_at, is_letter, all_bytes}
use Rattle.layout.specs.Line.{space, is_line_byte, words_of}
use Rattle.octets.specs.Letters.{Letters}

-- From `start` on the line has the words that it has from `at` on, and its bytes fit exactly if they do from `at` on; and no space
-- stands at `start`.
pub record WordStarts (line : List ℕ) (at start : ℕ) : Type 0 where
  pub after : at ≤ start
  pub within : start ≤ length line
  pub words : words_of (drop at line) ≡ words_of (drop start line)
  pub fits : all_bytes is_line_byte (drop at line) ≡ all_bytes is_line_byte (drop start line)
  pub letter : start < length line → byte_at line start ≡ space → ⊥

-- No letter stands there: the line ends, or has another byte.
abbrev pub NoLetter : List ℕ → ℕ → Type 0
NoLetter line stop = stop < length line → is_letter (byte_at line stop) ≡ false

-- All the letters from `at` on stand up to `stop`.
pub record PastLetters (line : List ℕ) (at stop : ℕ) : Type 0 where
  pub taken : Letters line at stop
  pub stops : NoLetter line stop
