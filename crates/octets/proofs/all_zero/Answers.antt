-- Every byte passed by the loop is 0, and a return on the way shows one that is not.
use native.Mathlib.Omega.{arith}
use mathlib.Core.Path.{sym}
use borrow.Author.Count.{below_none, below_more}
use borrow.Author.Tests.{eq-eqb, ne_eqb}
use lib.Dec.{eqb}
use Rattle.layout.proofs.TestLaws.{all-bytes, some_byte}
use Rattle.octets.proofs.all_zero.Goals as goal

pub loop-b-init : goal.loop-b-init
loop-b-init c = below_none _

pub returns-then-b-ne0 : goal.returns-then-b-ne0
returns-then-b-ne0 c =
    some_byte (eqb 0) c.args.s.now c.loop-b.b-index (omega arith) (ne_eqb 0 _ λ e. c.if-b-ne0.true (sym e))

pub loop-b-preserved : goal.loop-b-preserved
loop-b-preserved c = below_more _ _ c.loop-b.invariant (eq-eqb 0 _ (sym c.if-b-ne0.false))

pub returns : goal.returns
returns c = all-bytes (eqb 0) c.args.s.now λ k h. c.loop-b.invariant k (omega arith)
