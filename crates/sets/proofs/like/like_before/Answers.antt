-- `like::like_before` meets its contract. The loop's invariant: those that were put into the set stand before p and are like it.
use native.Mathlib.Omega.{arith}
use mathlib.Core.Path.{ap}
use lib.Bits.{bit_or}
use Rattle.bits.proofs.BitLaws.{one_shifted}
use Rattle.sets.proofs.LikeLaws.{like-none, like-more}
use Rattle.sets.proofs.like.like_before.Goals as goal

pub loop-q-init : goal.loop-q-init
loop-q-init c = like-none c.args.card.bytes.now c.args.p

pub loop-q-preserved-then-are_alike : goal.loop-q-preserved-then-are_alike
loop-q-preserved-then-are_alike c =
    let s = c.in-Some in
    let like = c.loop-q.like in
    like-more c.args.card.bytes.now c.args.p like s.q c.loop-q.invariant (omega arith)
    (c.are_alike.ensures c.if-are_alike.true) (ap (bit_or like) (one_shifted s.q 64 s.ensures.steps.0.small))
