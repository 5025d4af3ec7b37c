-- What accepting a line answers, from card and line alone: the number of the refusal, or the words' count and the set of the words at
-- each place, empty past the last.
use Rattle.std.specs.Prelude.{ℕ, ◌-◌, ◌<◌, ◌≡◌, Bool, not, eqb, List, ◌++◌, map, take, replicate, Result, IfOk}
use Rattle.layout.specs.Bytes.{all_bytes}
use Rattle.layout.specs.Refusals.{first_refusal}
use Rattle.layout.specs.Line.{most_words, words_of, words_refusals}
use Rattle.layout.specs.Answers.{input_number, words_in}
use Rattle.refusals.specs.declared.Refusal.{Refusal}
use Rattle.refusals.specs.Number.{number_told}
use Rattle.places.specs.declared.Words.{Words}
use Rattle.line.specs.Lookup.{word_set}

-- At each place all words that are spelled as the line's word there.
abbrev pub places_of : List ℕ → List ℕ → List ℕ
places_of card line = map (word_set card) (words_of line) ++ replicate (most_words - words_in line) 0

-- The words of a line, which has some.
pub record WordsOf (card line : List ℕ) (words : Words) : Type 0 where
  pub count : words.count ≡ words_in line
  pub places : words.places ≡ places_of card line
  pub some : 0 < words.count

pub record Accepts (card line : List ℕ) (r : Result Words Refusal) : Type 0 where
  pub number : number_told r ≡ input_number card line
  pub words : IfOk r (WordsOf card line)

-- The refusals that wait for the line's end, by the count of its words and whether the card has them all.
abbrev pub words_number : ℕ → Bool → ℕ
words_number count known = first_refusal (words_refusals count known)

-- Are none of the sets empty?
abbrev pub all_found : List ℕ → Bool
all_found sets = all_bytes (λ set. not (eqb set 0)) sets

-- An answer with that number, where the card has a word if its set is not empty; and with the words where it is 0.
pub record Verdict (count : ℕ) (places : List ℕ) (r : Result Words Refusal) : Type 0 where
  pub number : number_told r ≡ words_number count (all_found (take count places))
  pub words : IfOk r (λ w. (w.count ≡ count) × (w.places ≡ places))
