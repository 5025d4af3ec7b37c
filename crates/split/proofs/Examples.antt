-- Worked examples of the definition, computed: inputs taken apart into lines.
use mathlib.Core.Path.{◌≡◌, refl}
use mathlib.Core.List.{[], ◌∷◌}
use Rattle.split.specs.Lines.{lines_of}

-- No bytes; a line end alone; two lines, with and without the last line end; an empty line between two others.
no_lines : lines_of [] ≡ []
no_lines = refl

one-empty : lines_of (10 ∷ []) ≡ [] ∷ []
one-empty = refl

two-ended : lines_of (97 ∷ 98 ∷ 10 ∷ 99 ∷ 10 ∷ []) ≡ (97 ∷ 98 ∷ []) ∷ (99 ∷ []) ∷ []
two-ended = refl

two-open : lines_of (97 ∷ 98 ∷ 10 ∷ 99 ∷ []) ≡ (97 ∷ 98 ∷ []) ∷ (99 ∷ []) ∷ []
two-open = refl

empty-between : lines_of (97 ∷ 10 ∷ 10 ∷ 99 ∷ []) ≡ (97 ∷ []) ∷ [] ∷ (99 ∷ []) ∷ []
empty-between = refl
