-- What is written and what is to come make the whole text.
use Rattle.std.proofs.Common.{◌≡◌, ◌+◌, ◌*◌, ◌≤◌, length}
use Rattle.std.specs.Slice.Iter.{chunks_exact_rest, chunks_exact_size}
use Rattle.lines_text.specs.Text.{pair_lines}
use Rattle.lines_text.proofs.Appending.{Going}
use Rattle.lines_text.proofs.text.put_pairs.Given as goal

abbrev pub invariant-loop-pair : goal.invariant-loop-pair
invariant-loop-pair l =
    let rest = chunks_exact_rest l.pair-iterator in
    (chunks_exact_size l.pair-iterator ≡ 2) × (l.after + 24 * length rest ≤ length l.out)
    × Going l.initial.out l.at (pair_lines l.pairs) l.out l.after (pair_lines rest)
