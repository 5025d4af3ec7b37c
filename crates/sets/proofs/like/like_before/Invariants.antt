use Rattle.sets.specs.Like.{LikeBefore}
use Rattle.sets.proofs.like.like_before.Given as goal

abbrev pub invariant-loop-q : goal.invariant-loop-q
invariant-loop-q l = LikeBefore l.card.bytes.now l.p l.like
