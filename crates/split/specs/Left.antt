-- The lines that an iterator over them has not given yet.
use Rattle.std.specs.Prelude.{ℕ, List}
use Rattle.split.specs.Lines.{lines_of}
use Rattle.split.specs.declared.LinesLeft.{LinesLeft}

abbrev pub lines_left : LinesLeft → List (List ℕ)
lines_left s = lines_of s.rest.now
