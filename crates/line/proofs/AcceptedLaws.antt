-- What an answer tells. With words: card and line are accepted, the count is the line's, and the places have the line's own test.
use Prim.Native.Nat.{ℕ, zero, suc, ◌-◌}
use mathlib.Core.Path.{◌≡◌, sym, ◌∙◌, ap, fun_ext}
use mathlib.Core.List.{List, [], ◌∷◌, ◌++◌, map}
use lib.ListN.{replicate}
use Rattle.std.proofs.Common.{Ok, Err}
use Rattle.layout.specs.Card.{word_count}
use Rattle.layout.specs.Line.{most_words, words_of, equals_entry, spelled_at}
use Rattle.layout.specs.Answers.{input_number, words_in, line_test}
use Rattle.layout.proofs.Accepting.{AcceptedLine, accepted-line}
use Rattle.places.specs.declared.Words.{Words}
use Rattle.places.specs.Places.{word_test}
use Rattle.places.proofs.PlacesLaws.{none-past}
use Rattle.bits.proofs.BitSets.{set_holds}
use Rattle.refusals.specs.declared.Refusal.{Refusal}
use Rattle.refusals.specs.Number.{number_of}
use Rattle.line.specs.Lookup.{word_set}
use Rattle.line.specs.Accepted.{Accepts}

-- The sets of some words, and none past them, have the test of these words.
sets-test : (card : List ℕ) (words : List (List ℕ)) (n i v : ℕ)
    → word_test (map (word_set card) words ++ replicate n 0) i v ≡ spelled_at card words i v
sets-test card [] n i v = none-past n i v
sets-test card (word ∷ words) n zero v = set_holds (word_count card) (equals_entry card word) v
sets-test card (word ∷ words) n (suc i) v = sets-test card words n i v

module _ {card line : List ℕ} {words : Words} (a : Accepts card line (Ok words)) where
  pub answered-number : input_number card line ≡ 0
  answered-number = sym a.number

  pub answered-line : AcceptedLine card line
  answered-line = accepted-line card line answered-number

  pub answered-count : words.count ≡ words_in line
  answered-count = a.words.count

  -- Whatever reads the line by its places reads it as the definitions do.
  pub answered_test : word_test words.places ≡ line_test card line
  answered_test = ap word_test a.words.places ∙ fun_ext λ i. fun_ext λ v. sets-test card (words_of line) (most_words - words_in line) i v

-- A refusal is the input's.
pub answered-refusal : {card line : List ℕ} {refusal : Refusal} → Accepts card line (Err refusal) → number_of refusal ≡ input_number card line
answered-refusal a = a.number
