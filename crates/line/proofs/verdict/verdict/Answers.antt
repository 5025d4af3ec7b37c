-- No set is empty: so 24 does not decide.
use native.Mathlib.Omega.{arith}
use mathlib.Core.Path.{refl}
use borrow.Author.Tests.{le-leb}
use Rattle.line.proofs.NumberLaws.{found-all}
use Rattle.line.proofs.verdict.verdict.Goals as goal

pub returns : goal.returns
returns c =
    record {
      number =
          rw (
            le-leb 1 c.args.count (omega arith),
            le-leb c.args.count 24 (omega arith),
            found-all _ (λ k h. c.loop-set.invariant k (omega (arith, h, c.loop-set-test.false))),
          ) refl;
      words = (refl, refl);
    }
