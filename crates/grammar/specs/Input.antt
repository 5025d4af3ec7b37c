-- How the theory reads a line: through a relation `at i w`, "word number w can stand at place i", never through a list of numbers, so
-- that one place may have several words.
use Rattle.std.specs.Prelude.{ℕ, suc, ◌<◌, ◌≡◌, Bool, true, List, [], ◌∷◌}

-- `WordsAt at i words j`: the words stand one after the other at the places from i to j.
pub data WordsAt (at : ℕ → ℕ → Type 0) : ℕ → List ℕ → ℕ → Type 0 where
  nowords : {i : ℕ} → WordsAt at i [] i
  oneword : {i j w : ℕ} {words : List ℕ} → at i w → WordsAt at (suc i) words j → WordsAt at i (w ∷ words) j

-- A test as a relation; and that it passes at places below n alone.
abbrev pub Holds : (ℕ → ℕ → Bool) → ℕ → ℕ → Type 0
Holds test i w = test i w ≡ true

abbrev pub Below : (ℕ → ℕ → Type 0) → ℕ → Type 0
Below at n = (i w : ℕ) → at i w → i < n
