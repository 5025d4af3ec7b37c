-- What is written and what is to come make the whole text.
use Rattle.std.proofs.Common.{◌≡◌, ◌+◌, ◌*◌, ◌≤◌, length}
use Rattle.std.specs.Slice.Iter.{chunks_exact_rest, chunks_exact_size}
use Rattle.lines_text.specs.Text.{step_lines}
use Rattle.lines_text.proofs.Appending.{Going}
use Rattle.lines_text.proofs.text.put_steps.Given as goal

abbrev pub invariant-loop-step : goal.invariant-loop-step
invariant-loop-step l =
    let rest = chunks_exact_rest l.step-iterator in
    (chunks_exact_size l.step-iterator ≡ 4) × (l.after + 21 * length rest ≤ length l.out)
    × Going l.initial.out l.at (step_lines l.plan) l.out l.after (step_lines rest)
