-- The records of pairs, as bytes: a record for each two bytes of pairs of line k; and how many bytes the records of a line and of a sheet have.
use Rattle.std.specs.Prelude.{ℕ, ◌*◌, List, [], ◌∷◌}
use Rattle.sheet.specs.Sheet.{most_lines}

abbrev pub placed : ℕ → List ℕ → List ℕ
placed k [] = []
placed k (a ∷ []) = []
placed k (a ∷ b ∷ bytes) = k ∷ a ∷ b ∷ placed k bytes

-- A line has at most 11 pairs.
abbrev pub line_room : ℕ
line_room = 33

abbrev pub record_room : ℕ
record_room = line_room * most_lines
