-- The words of an accepted line, place by place: a set of word numbers for each place, as the bits of one number. What reads a line
-- reads it through the test `word_test` alone, and does not know how many words a place has.
use Rattle.std.specs.Prelude.{ℕ, Bool, List, get_or}
use Rattle.bits.specs.Bits.{holds_bit}

-- Is w a word at place i? There are none past the last place.
abbrev pub word_test : List ℕ → ℕ → ℕ → Bool
word_test places i w = holds_bit w (get_or places i 0)
