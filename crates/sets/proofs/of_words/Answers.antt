-- `of_words` meets its contract. The loop's invariant: the set has the productions of the words that were taken out, and what is left
-- are words of the place.
use native.Mathlib.Omega.{arith}
use mathlib.Core.Path.{refl}
use Rattle.sets.proofs.ClassLaws.{word_small, words_more, words-end}
use Rattle.sets.proofs.of_words.Goals as goal

pub bounds-sets-w : goal.bounds-sets-w
bounds-sets-w c =
    omega (arith, word_small c.loop-w.invariant (omega (arith, c.ranges.words.fits)) c.in-Some.ensures.steps.0, c.requires)

pub loop-w-preserved : goal.loop-w-preserved
loop-w-preserved c = words_more c.loop-w.invariant c.in-Some.ensures.steps.1 refl

pub returns : goal.returns
returns c = words-end c.loop-w.invariant c.in-None.ensures.steps.0
