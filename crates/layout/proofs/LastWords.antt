-- Document 02, Paper 6, beside document 01's table: rows with a number and feeds of two words, where the first and the last word of a side
-- differ. Computed from the bytes of card and lines.
use Prim.Native.Nat.{ℕ}
use mathlib.Core.Path.{◌≡◌, refl}
use mathlib.Core.List.{List, [], ◌∷◌}
use lib.ListN.{length}
use Rattle.grammar.specs.Pairs.{stretch, Pair, pair}
use Rattle.layout.specs.Card.{header_length, card_number}
use Rattle.layout.specs.Answers.{pairs_answer}
use Rattle.layout.specs.Tomato.{coir_takes_mild, plan_one}
use Rattle.layout.specs.Rows.{rows_card, coir14_takes_mild, coir_takes_extra_mild, coir14_takes_extra_mild, number_alone, plan_numbered, plan_extra, plan_both}
use Rattle.layout.proofs.TableRows.{ReadRow, RefusedRow, each-pairs}

-- The sides of a plan's pairs, as stretches.
abbrev sides_in : List ℕ → List ℕ → List Pair
sides_in line plan = (pairs_answer rows_card line plan 48).pairs

record LastWords : Type 0 where
  size : length rows_card ≡ 228
  card : card_number rows_card ≡ 0
  -- a row without a number, as under the tomato card
  plain : ReadRow rows_card coir_takes_mild plan_one 3 6 5 (0 ∷ 2 ∷ [])
  -- "coir 14 takes mild": the row starts at word 0, and the pair names its number, word 1
  numbered : ReadRow rows_card coir14_takes_mild plan_numbered 4 8 7 (1 ∷ 3 ∷ [])
  row : sides_in coir14_takes_mild plan_numbered ≡ pair (stretch 0 2) (stretch 3 4) ∷ []
  -- "coir takes extra mild": the feed starts at word 2, and the pair names word 3
  extra : ReadRow rows_card coir_takes_extra_mild plan_extra 4 8 7 (0 ∷ 3 ∷ [])
  feed : sides_in coir_takes_extra_mild plan_extra ≡ pair (stretch 0 1) (stretch 2 4) ∷ []
  -- "coir 14 takes extra mild"
  both : ReadRow rows_card coir14_takes_extra_mild plan_both 5 10 9 (1 ∷ 4 ∷ [])
  sides : sides_in coir14_takes_extra_mild plan_both ≡ pair (stretch 0 2) (stretch 3 5) ∷ []
  -- a number is no row
  alone : RefusedRow rows_card number_alone plan_one 25 3 4 34

last-words : LastWords
unfolding header_length
last-words =
    record {
      size = refl;
      card = refl;
      plain = record { answer = refl; each = each-pairs rows_card coir_takes_mild refl; passes = refl; accepted = refl; written = refl };
      numbered = record { answer = refl; each = each-pairs rows_card coir14_takes_mild refl; passes = refl; accepted = refl; written = refl };
      row = refl;
      extra = record { answer = refl; each = each-pairs rows_card coir_takes_extra_mild refl; passes = refl; accepted = refl; written = refl };
      feed = refl;
      both = record { answer = refl; each = each-pairs rows_card coir14_takes_extra_mild refl; passes = refl; accepted = refl; written = refl };
      sides = refl;
      alone = record { answer = refl; fails = refl; unpaired = refl };
    }
