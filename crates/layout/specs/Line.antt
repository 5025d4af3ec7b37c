-- Document 01, "Line and rewriting" (words and their numbers; document 02, Paper 2: one spelling may be several words), and the shift
-- leader's refusals 22, 21, 23 and 24.
use Rattle.std.specs.Prelude.{ℕ, zero, suc, ◌≡◌, Bool, true, false, ◌&&◌, ◌||◌, List, [], ◌∷◌, ◌++◌, eqb, leb, ltb, length}
use Rattle.layout.specs.Bytes.{is_letter, same_bytes, all_bytes, some_below}
use Rattle.layout.specs.Refusals.{Refusal, unless, first_refusal}
use Rattle.layout.specs.Card.{word_count, spelling}

abbrev pub space : ℕ
space = 0x20

-- The words of a line: what stands between spaces. `so` is the word that has been begun.
abbrev pub ended : List ℕ → List (List ℕ) → List (List ℕ)
ended [] words = words
ended (b ∷ so) words = (b ∷ so) ∷ words

abbrev pub words_from : List ℕ → List ℕ → List (List ℕ)
words_from so [] = ended so []
words_from so (b ∷ line) = elim (eqb b space) [ true ↦ ended so (words_from [] line) | false ↦ words_from (so ++ (b ∷ [])) line ]

abbrev pub words_of : List ℕ → List (List ℕ)
words_of line = words_from [] line

-- Document 02, Paper 2: entry v equals a word byte by byte; and the set of all words that are spelled so, as a test. Several entries may
-- be spelled alike.
abbrev pub equals_entry : List ℕ → List ℕ → ℕ → Bool
equals_entry card word v = same_bytes word (spelling card v)

abbrev pub is_spelled : List ℕ → List ℕ → ℕ → Bool
is_spelled card word v = ltb v (word_count card) && equals_entry card word v

-- The set is not empty.
abbrev pub is_known : List ℕ → List ℕ → Bool
is_known card word = some_below (word_count card) (equals_entry card word)

abbrev pub all_known : List ℕ → List (List ℕ) → Bool
all_known card [] = true
all_known card (word ∷ words) = is_known card word && all_known card words

-- Can word number v stand at place i of these words? And a list of word numbers whose spellings they are, one for one.
abbrev pub spelled_at : List ℕ → List (List ℕ) → ℕ → ℕ → Bool
spelled_at card [] i v = false
spelled_at card (word ∷ words) zero v = is_spelled card word v
spelled_at card (word ∷ words) (suc i) v = spelled_at card words i v

pub data Spelled (card : List ℕ) : List ℕ → List (List ℕ) → Type 0 where
  no_word : Spelled card [] []
  next_word : {v : ℕ} {numbers word : List ℕ} {words : List (List ℕ)} → is_spelled card word v ≡ true → Spelled card numbers words
      → Spelled card (v ∷ numbers) (word ∷ words)

-- Bytes that a line may hold.
abbrev pub is_line_byte : ℕ → Bool
is_line_byte b = is_letter b || eqb b space

abbrev pub most_words : ℕ
most_words = 24

-- The refusals in their order, each over the whole line: its bytes, and then what its words decide, by their count and by whether the
-- card has them all. The number is 0 where the line has 1 to 24 known words.
abbrev pub words_refusals : ℕ → Bool → List Refusal
words_refusals count known = unless (leb 1 count) 21 ∷ unless (leb count most_words) 23 ∷ unless known 24 ∷ []

abbrev pub line_refusals : List ℕ → List ℕ → List Refusal
line_refusals card line = let words = words_of line in
    unless (all_bytes is_line_byte line) 22 ∷ words_refusals (length words) (all_known card words)

abbrev pub line_number : List ℕ → List ℕ → ℕ
line_number card line = first_refusal (line_refusals card line)
