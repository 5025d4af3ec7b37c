-- Document 02, Paper 2: what looking a word up answers: the set of all words that are spelled so, a bit for each number. And the entry
-- that a search from one entry on and up to another comes to: the next that equals the word, or the end.
use Rattle.std.specs.Prelude.{ℕ, ◌≤◌, ◌<◌, ◌≡◌, true, false, List, Option, Some, None}
use Rattle.layout.specs.Card.{word_count}
use Rattle.layout.specs.Line.{equals_entry}
use Rattle.bits.specs.Bits.{set_below}

abbrev pub word_set : List ℕ → List ℕ → ℕ
word_set card word = set_below (word_count card) (equals_entry card word)

-- The end where no entry equals it.
abbrev pub entry_or : ℕ → Option ℕ → ℕ
entry_or to None = to
entry_or to (Some at) = at

pub record NextEqual (card word : List ℕ) (from to at : ℕ) : Type 0 where
  pub after : from ≤ at
  pub within : at ≤ to
  pub passed : (k : ℕ) → from ≤ k → k < at → equals_entry card word k ≡ false
  pub equal : at < to → equals_entry card word at ≡ true
