-- A list of word numbers is spelled as some words exactly when it stands at their places, by going down both lists; such a list exists
-- exactly where every word is known; its spellings are the words, and where no two entries are spelled alike there is no other.
use Prim.Native.Nat.{ℕ, zero, suc, ◌<◌, suc-le-suc}
use native.Mathlib.Omega.{arith}
use mathlib.Core.Path.{◌≡◌, refl, sym, ◌∙◌, ap₂, subst}
use mathlib.Core.Bool.{true, false≢true}
use mathlib.Core.List.{List, [], ◌∷◌, map}
use lib.Dec.{ltb}
use lib.ListN.{length}
use borrow.Author.Tests.{lt-ltb, ltb-true}
use Rattle.grammar.specs.Input.{WordsAt, nowords, oneword, Holds, Below}
use Rattle.layout.specs.Card.{word_count, spelling}
use Rattle.layout.specs.Line.{equals_entry, is_spelled, is_known, all_known, spelled_at, Spelled, no_word, next_word}
use Rattle.layout.proofs.TestLaws.{both, same-equal, one_below, below_one}

module _ (card : List ℕ) where
  -- What the set of a word tells: the number is one of the card's, and its spelling is the word.
  pub spelled-number : (word : List ℕ) (v : ℕ) → is_spelled card word v ≡ true → (v < word_count card) × (spelling card v ≡ word)
  spelled-number word v e =
      let (few, same) = both (ltb v (word_count card)) (equals_entry card word v) e in
      (ltb-true v (word_count card) few, sym (same-equal word (spelling card v) same))

  pub number_spelled : (word : List ℕ) (v : ℕ) → v < word_count card → equals_entry card word v ≡ true → is_spelled card word v ≡ true
  number_spelled word v few same = rw (lt-ltb v (word_count card) few, same)

  -- The places of some words, and the list's.
  pub spelled-below : (words : List (List ℕ)) → Below (Holds (spelled_at card words)) (length words)
  spelled-below [] i v a = absurd (false≢true a)
  spelled-below (word ∷ words) zero v a = omega arith
  spelled-below (word ∷ words) (suc i) v a = suc-le-suc (spelled-below words i v a)

  shift : (word : List ℕ) (words : List (List ℕ)) {i j : ℕ} {numbers : List ℕ} → WordsAt (Holds (spelled_at card words)) i numbers j
      → WordsAt (Holds (spelled_at card (word ∷ words))) (suc i) numbers (suc j)
  shift word words nowords = nowords
  shift word words (oneword a u) = oneword a (shift word words u)

  pub spelled-stand : {numbers : List ℕ} {words : List (List ℕ)} → Spelled card numbers words
      → WordsAt (Holds (spelled_at card words)) 0 numbers (length words)
  spelled-stand no_word = nowords
  spelled-stand (next_word {word = word} {words = words} e s) = oneword e (shift word words (spelled-stand s))

  unshift : (word : List ℕ) (words : List (List ℕ)) {i j k : ℕ} {numbers : List ℕ}
      → WordsAt (Holds (spelled_at card (word ∷ words))) (suc i) numbers k → k ≡ suc j → WordsAt (Holds (spelled_at card words)) i numbers j
  unshift word words {i = i} {j = j} nowords e =
      let h : i ≡ j = omega arith in subst (λ (m : ℕ). WordsAt (Holds (spelled_at card words)) i [] m) h nowords
  unshift word words (oneword a u) e = oneword a (unshift word words u e)

  stand-to : (words : List (List ℕ)) {numbers : List ℕ} {j : ℕ} → WordsAt (Holds (spelled_at card words)) 0 numbers j
      → j ≡ length words → Spelled card numbers words
  stand-to [] nowords e = no_word
  stand-to [] (oneword a u) e = absurd (false≢true a)
  stand-to (word ∷ words) nowords e = absurd (omega arith)
  stand-to (word ∷ words) (oneword a u) e = next_word a (stand-to words (unshift word words u e) refl)

  pub stand-spelled : (words : List (List ℕ)) {numbers : List ℕ} → WordsAt (Holds (spelled_at card words)) 0 numbers (length words)
      → Spelled card numbers words
  stand-spelled words u = stand-to words u refl

  -- 24 is given exactly where no list of words is spelled as the line.
  pub spelled-known : {numbers : List ℕ} {words : List (List ℕ)} → Spelled card numbers words → all_known card words ≡ true
  spelled-known no_word = refl
  spelled-known (next_word {v = v} {word = word} e s) =
      let (few, same) = both (ltb v (word_count card)) (equals_entry card word v) e in
      rw (one_below (word_count card) (equals_entry card word) v (ltb-true v (word_count card) few) same) (spelled-known s)

  pub known-spelled : (words : List (List ℕ)) → all_known card words ≡ true → (numbers : List ℕ) × Spelled card numbers words
  known-spelled [] e = ([], no_word)
  known-spelled (word ∷ words) e =
      let (one, rest) = both (is_known card word) (all_known card words) e in
      let (v, few, same) = below_one (word_count card) (equals_entry card word) one in
      let (numbers, s) = known-spelled words rest in
      (v ∷ numbers, next_word (number_spelled word v few same) s)

  -- The list's spellings are the words.
  pub spellings-are : {numbers : List ℕ} {words : List (List ℕ)} → Spelled card numbers words → map (spelling card) numbers ≡ words
  spellings-are no_word = refl
  spellings-are (next_word {v = v} {word = word} e s) =
      ap₂ (λ (w : List ℕ) (ws : List (List ℕ)). w ∷ ws) (spelled-number word v e).1 (spellings-are s)

  -- On a card whose entries are all spelled differently a line has one list of words, as before entries could be spelled alike.
  pub one_list : ((u v : ℕ) → u < word_count card → v < word_count card → spelling card u ≡ spelling card v → u ≡ v)
      → {numbers numbers' : List ℕ} {words : List (List ℕ)} → Spelled card numbers words → Spelled card numbers' words → numbers ≡ numbers'
  one_list differ no_word no_word = refl
  one_list differ (next_word {v = u} {word = word} e s) (next_word {v = v} f t) =
      let (few, is) = spelled-number word u e in
      let (few', is') = spelled-number word v f in
      ap₂ (λ (w : ℕ) (ws : List ℕ). w ∷ ws) (differ u v few few' (is ∙ sym is')) (one_list differ s t)
