-- At the loop, every byte before `at` fits and the words before it are counted and looked up. A byte that does not fit decides 22; what
-- was noted of a word joins from its set or from no room left; and the end of the line leaves the verdict to the words.
use Prim.Native.Nat.{◌+◌, ◌≤◌}
use native.Mathlib.Omega.{arith}
use mathlib.Core.Path.{◌∙◌}
use Rattle.grammar.specs.Input.{Holds, Below}
use Rattle.places.specs.Places.{word_test}
use Rattle.places.proofs.PlacesLaws.{ends-stored}
use Rattle.line.proofs.WordLaws.{WordEnds, ends-at-space, ends-with-line, byte-refused}
use Rattle.line.proofs.NumberLaws.{Numbering, numbering-more}
use Rattle.line.proofs.RefusalLaws.{refuses-byte}
use Rattle.line.proofs.PassLaws.{passing-none, passing-more, passed}
use Rattle.line.proofs.accept_line.Goals.{Joined-count-lt-MOST_WORDS}
use Rattle.line.proofs.accept_line.Goals.{else-end-line-via-then-end-line+else-line-end-ne-SPACE, else-end-line-via-else-end-line}
use Rattle.line.proofs.accept_line.Goals.{then-count-lt-MOST_WORDS, else-count-lt-MOST_WORDS}
use Rattle.line.proofs.accept_line.Goals as goal

pub returns-then-line-end-ne-SPACE : goal.returns-then-line-end-ne-SPACE
returns-then-line-end-ne-SPACE c =
    refuses-byte c.args.card.bytes.now c.args.line.now c.args.card.accepted
    (c.loop-at.invariant.0.fits ∙ byte-refused c.word_end-end.ensures c.if-end-line.true c.if-line-end-ne-SPACE.true)

pub loop-at-init : goal.loop-at-init
loop-at-init c = (passing-none c.word_start-at.ensures, c.range_all.ensures)

-- The word has ended, at a space or with the line.
ends : (c : Joined-count-lt-MOST_WORDS) → WordEnds c.args.line.now c.loop-at.at c.word_end-end.result
ends c =
    let letters = c.word_end-end.ensures.taken in
    let inside = c.loop-at-test.true in
    elim c.else-end-line.branch [
      | else-end-line-via-then-end-line+else-line-end-ne-SPACE w ↦ ends-at-space letters (c.loop-at.invariant.0.counted.letter inside) w.if-end-line.true w.if-line-end-ne-SPACE.false
      | else-end-line-via-else-end-line w ↦ ends-with-line letters inside w.if-end-line.false
    ]

-- What was noted of the word: its set, or nothing where there is no room.
noted : (c : Joined-count-lt-MOST_WORDS)
    → let n = c.loop-at.count + 1 in
    n ≤ 24 → Numbering c.args.card.bytes.now c.args.line.now c.word_end-end.result n c.if-count-lt-MOST_WORDS.places
noted c h =
    let before = c.loop-at.invariant.0.numbering (omega (arith, h)) in
    elim c.if-count-lt-MOST_WORDS.branch [
      | then-count-lt-MOST_WORDS w ↦ rw w.places-is (numbering-more before (ends c) w.if-count-lt-MOST_WORDS.true w.look_up.ensures)
      | else-count-lt-MOST_WORDS w ↦ absurd (omega (arith, h, w.if-count-lt-MOST_WORDS.false))
    ]

-- No word is stored past it.
below : (c : Joined-count-lt-MOST_WORDS) → Below (Holds (word_test c.if-count-lt-MOST_WORDS.places)) (c.loop-at.count + 1)
below c =
    let before = c.loop-at.invariant.0.ends in
    elim c.if-count-lt-MOST_WORDS.branch [
      | then-count-lt-MOST_WORDS w ↦ rw w.places-is (ends-stored _ _ _ before)
      | else-count-lt-MOST_WORDS w ↦ rw w.places-is λ i v h. omega (arith, before i v h)
    ]

pub loop-at-preserved : goal.loop-at-preserved
loop-at-preserved c =
    let w = (goal.at.loop-at-preserved c).Joined-count-lt-MOST_WORDS in
    (passing-more c.loop-at.invariant.0 (ends w) c.word_start-at-in-loop-at.ensures (noted w) (below w), c.loop-at.invariant.1)

pub verdict-requires : goal.verdict-requires
verdict-requires c = c.loop-at.invariant.0.ends

pub returns : goal.returns
returns c = passed c.args.card.accepted c.loop-at.invariant.0 c.loop-at-test.false c.verdict.result c.verdict.ensures
