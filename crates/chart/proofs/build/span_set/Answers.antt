-- `build::span_set` meets its contract: one word has no splits, and more words have what `meet` finds.
use Prim.Native.Nat.{◌+◌}
use native.Mathlib.Omega.{arith}
use mathlib.Core.Path.{◌≡◌}
use Rattle.sets.proofs.MeetLaws.{met-word}
use Rattle.chart.proofs.build.span_set.Goals as goal

pub returns-then-span-eq1 : goal.returns-then-span-eq1
returns-then-span-eq1 c =
    let s = c.args.span in
    let word : s.to ≡ s.from + 1 = omega (arith, c.if-span-eq1.true, s.some) in (
      record {
        of_words = λ _. c.of_words.ensures;
        of_splits = λ p k a b. absurd (omega (arith, a, b, word));
        met = met-word word c.meet_none.ensures.0;
      },
      c.meet_none.ensures.1,
    )
