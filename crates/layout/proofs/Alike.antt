-- Document 02, Paper 2, on a card of three words: "mild" is a feed (word 1) and also a night setting (word 2), and each has rules of its
-- own. Computed from the bytes of card and lines.
use Prim.Native.Nat.{ℕ}
use mathlib.Core.Path.{◌≡◌, refl}
use mathlib.Core.Bool.{true, false}
use mathlib.Core.List.{List, [], ◌∷◌}
use Rattle.grammar.specs.Plan.{plan_step}
use Rattle.layout.specs.Card.{header_length, spelling, card_number}
use Rattle.layout.specs.Steps.{plan_bytes}
use Rattle.layout.specs.Answers.{line_test, ReadAnswer, read_answer, refusal, check_number, name_answer}

-- Nonterminals S R F N; words coir mild mild. Productions 0 to 2: R→coir, F→mild (word 1), N→mild (word 2). 3: S[..]→R[] F[..]. 4: S[..]→N[]
-- R[..]. 5: S[..]→S[..] N[]. 6: F→mild (word 2). 7: F→coir.
abbrev alike_card : List ℕ
alike_card =
    76 ∷ 73 ∷ 71 ∷ 49 ∷ 4 ∷ 3 ∷ 0 ∷ 8 ∷ 12 ∷ 0 ∷ 48 ∷ 0
    ∷ 4 ∷ 99 ∷ 111 ∷ 105 ∷ 114 ∷ 0 ∷ 0 ∷ 0 ∷ 0 ∷ 0 ∷ 0 ∷ 0
    ∷ 4 ∷ 109 ∷ 105 ∷ 108 ∷ 100 ∷ 0 ∷ 0 ∷ 0 ∷ 0 ∷ 0 ∷ 0 ∷ 0
    ∷ 4 ∷ 109 ∷ 105 ∷ 108 ∷ 100 ∷ 0 ∷ 0 ∷ 0 ∷ 0 ∷ 0 ∷ 0 ∷ 0
    ∷ 0 ∷ 1 ∷ 0 ∷ 0 ∷ 0 ∷ 0
    ∷ 0 ∷ 2 ∷ 1 ∷ 0 ∷ 0 ∷ 0
    ∷ 0 ∷ 3 ∷ 2 ∷ 0 ∷ 0 ∷ 0
    ∷ 3 ∷ 0 ∷ 1 ∷ 2 ∷ 0 ∷ 0
    ∷ 3 ∷ 0 ∷ 3 ∷ 1 ∷ 0 ∷ 0
    ∷ 4 ∷ 0 ∷ 0 ∷ 3 ∷ 0 ∷ 0
    ∷ 0 ∷ 2 ∷ 2 ∷ 0 ∷ 0 ∷ 0
    ∷ 0 ∷ 2 ∷ 0 ∷ 0 ∷ 0 ∷ 0
    ∷ []

abbrev coir_mild : List ℕ
coir_mild = 99 ∷ 111 ∷ 105 ∷ 114 ∷ 32 ∷ 109 ∷ 105 ∷ 108 ∷ 100 ∷ []

abbrev mild_coir : List ℕ
mild_coir = 109 ∷ 105 ∷ 108 ∷ 100 ∷ 32 ∷ 99 ∷ 111 ∷ 105 ∷ 114 ∷ []

abbrev coir_mild_mild : List ℕ
coir_mild_mild = 99 ∷ 111 ∷ 105 ∷ 114 ∷ 32 ∷ 109 ∷ 105 ∷ 108 ∷ 100 ∷ 32 ∷ 109 ∷ 105 ∷ 108 ∷ 100 ∷ []

abbrev mild_mild : List ℕ
mild_mild = 109 ∷ 105 ∷ 108 ∷ 100 ∷ 32 ∷ 109 ∷ 105 ∷ 108 ∷ 100 ∷ []

abbrev coir_mil : List ℕ
coir_mil = 99 ∷ 111 ∷ 105 ∷ 114 ∷ 32 ∷ 109 ∷ 105 ∷ 108 ∷ []

-- "coir mild" by production 3, with the given production for "mild".
abbrev plan_by : ℕ → List ℕ
plan_by p = plan_bytes (plan_step 3 0 1 2 ∷ plan_step 0 0 1 1 ∷ plan_step p 1 2 2 ∷ [])

abbrev read : ℕ → ℕ → ℕ → ReadAnswer
read words items steps = record { number = 0; words = words; items = items; steps = steps }

record Alike : Type 0 where
  -- a card with two equal entries passes, and each has its own name
  card : card_number alike_card ≡ 0
  equal : spelling alike_card 1 ≡ spelling alike_card 2
  first_name : name_answer alike_card 1 ≡ record { number = 0; offset = 25; size = 4 }
  last_name : name_answer alike_card 2 ≡ record { number = 0; offset = 37; size = 4 }
  -- both words stand where "mild" does, and no others
  first_word : line_test alike_card coir_mild 1 1 ≡ true
  last_word : line_test alike_card coir_mild 1 2 ≡ true
  other_word : line_test alike_card coir_mild 1 0 ≡ false
  no_word : line_test alike_card coir_mild 1 3 ≡ false
  -- read as a feed, as a night setting, and as both; the item of F that two words give is counted once
  feed : read_answer alike_card coir_mild 80 12 ≡ read 2 5 3
  night : read_answer alike_card mild_coir 80 12 ≡ read 2 5 3
  both : read_answer alike_card coir_mild_mild 128 20 ≡ read 3 8 5
  -- no list of words has a derivation; and a spelling that no entry has
  neither : read_answer alike_card mild_mild 64 12 ≡ record { number = 25; words = 2; items = 4; steps = 0 }
  unknown : read_answer alike_card coir_mil 64 12 ≡ refusal 24
  -- Check takes a word step for each of the two words, for no other word, and for no other nonterminal
  by_first : check_number alike_card coir_mild (plan_by 1) ≡ 0
  by_last : check_number alike_card coir_mild (plan_by 6) ≡ 0
  by_another : check_number alike_card coir_mild (plan_by 7) ≡ 34
  by_night : check_number alike_card coir_mild (plan_by 2) ≡ 34

alike : Alike
unfolding header_length
alike =
    record {
      card = refl;
      equal = refl;
      first_name = refl;
      last_name = refl;
      first_word = refl;
      last_word = refl;
      other_word = refl;
      no_word = refl;
      feed = refl;
      night = refl;
      both = refl;
      neither = refl;
      unknown = refl;
      by_first = refl;
      by_last = refl;
      by_another = refl;
      by_night = refl;
    }
