-- Worked examples of the definitions, computed: lines of document 01's printed example, and digits.
use mathlib.Core.Path.{◌≡◌, refl}
use mathlib.Core.List.{[], ◌∷◌}
use Rattle.lines_text.specs.Text.{decimal, read_line, refused_line, step_line, pair_line}

-- "read 3 5", "7 0 1 3", "pair 0 2" and "refused 25".
example-read : read_line 3 5 ≡ 114 ∷ 101 ∷ 97 ∷ 100 ∷ 32 ∷ 51 ∷ 32 ∷ 53 ∷ 10 ∷ []
unfolding decimal
example-read = refl

example-step : step_line 7 0 1 3 ≡ 55 ∷ 32 ∷ 48 ∷ 32 ∷ 49 ∷ 32 ∷ 51 ∷ 10 ∷ []
unfolding decimal
example-step = refl

example-pair : pair_line 0 2 ≡ 112 ∷ 97 ∷ 105 ∷ 114 ∷ 32 ∷ 48 ∷ 32 ∷ 50 ∷ 10 ∷ []
unfolding decimal
example-pair = refl

example-refused : refused_line 25 ≡ 114 ∷ 101 ∷ 102 ∷ 117 ∷ 115 ∷ 101 ∷ 100 ∷ 32 ∷ 50 ∷ 53 ∷ 10 ∷ []
unfolding decimal
example-refused = refl

-- 4000, and the largest number of 64 bits.
example-items : decimal 4000 ≡ 52 ∷ 48 ∷ 48 ∷ 48 ∷ []
unfolding decimal
example-items = refl

example-largest : decimal 18446744073709551615
    ≡ 49 ∷ 56 ∷ 52 ∷ 52 ∷ 54 ∷ 55 ∷ 52 ∷ 52 ∷ 48 ∷ 55 ∷ 51 ∷ 55 ∷ 48 ∷ 57 ∷ 53 ∷ 53 ∷ 49 ∷ 54 ∷ 49 ∷ 53 ∷ []
unfolding decimal
example-largest = refl
