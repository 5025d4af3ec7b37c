use Rattle.std.specs.Prelude.{◌≡◌}
use Rattle.split.specs.Left.{lines_left}
use Rattle.sheet.proofs.ReadingLaws.{SoFar}
use Rattle.sheet.proofs.read_lines.Given as goal

-- The places go up to 255, and the next of them is how many lines are read.
abbrev pub invariant-loop-place : goal.invariant-loop-place
invariant-loop-place l =
    (l.place-iterator.a.end ≡ 255)
    × SoFar l.card.bytes.now l.sheet l.initial.chart l.chart l.records l.place-iterator.a.start (lines_left l.place-iterator.b)
