-- Of lists of one length, every byte passed by the loop is the same in both; a return on the way shows a byte, or the lengths, to differ.
use native.Mathlib.Omega.{arith}
use borrow.Author.Count.{below_none, below_more}
use Rattle.layout.proofs.TestLaws.{same-all, same_not, same_length}
use Rattle.octets.proofs.same_bytes.Goals as goal

pub returns-then-a-b : goal.returns-then-a-b
returns-then-a-b c = same_length c.args.a.now c.args.b.now c.if-a-b.true

pub loop-i-init : goal.loop-i-init
loop-i-init c = below_none _

pub returns-then-a-i : goal.returns-then-a-i
returns-then-a-i c = same_not c.args.a.now c.args.b.now c.loop-i.i (omega arith) c.if-a-i.true

pub loop-i-preserved : goal.loop-i-preserved
loop-i-preserved c = below_more _ _ c.loop-i.invariant c.if-a-i.false

pub returns : goal.returns
returns c = same-all c.args.a.now c.args.b.now c.if-a-b.false λ k h. c.loop-i.invariant k (omega arith)
