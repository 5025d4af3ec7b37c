-- `splits_of` meets its contract. The loop's invariant: of the splits that are not left, those that have the production and none that is
-- like it were noted.
use mathlib.Core.Path.{sym, ◌∙◌, ap}
use mathlib.Core.Logic.{inl}
use lib.Bits.{bit_and, bit_or}
use lib.ListN.{get_or}
use Rattle.bits.proofs.BitLaws.{one_shifted, bit-clear}
use Rattle.sets.specs.Places.{meeting_at}
use Rattle.sets.proofs.MeetLaws.{served-none, served-more, served-same, like-there, served-end}
use Rattle.sets.proofs.splits_of.Goals.{else-here-bit-ne0-via-then-here-bit-ne0+else-here-like-eq0, else-here-bit-ne0-via-else-here-bit-ne0}
use Rattle.sets.proofs.splits_of.Goals as goal

pub loop-k-init : goal.loop-k-init
loop-k-init c = served-none cc

pub loop-k-preserved-then-here-like-eq0 : goal.loop-k-preserved-then-here-like-eq0
loop-k-preserved-then-here-like-eq0 c =
    let (least, without) = c.in-Some.ensures.steps in
    let loop = c.loop-k in
    served-more loop.invariant without (loop.invariant.within c.in-Some.k least.has) (ap (bit_or loop.served) (one_shifted c.in-Some.k 64 least.small))

pub loop-k-preserved : goal.loop-k-preserved
loop-k-preserved c =
    let a = c.args in
    let here = get_or a.sets.now (meeting_at c.in-Some.k) 0 in
    served-same c.loop-k.invariant c.in-Some.ensures.steps.1
    (elim c.else-here-bit-ne0.branch [
      | else-here-bit-ne0-via-then-here-bit-ne0+else-here-like-eq0 w ↦ like-there a.sets.now a.p a.like c.in-Some.k w.if-here-like-eq0.false
      | else-here-bit-ne0-via-else-here-bit-ne0 w ↦
          inl (bit-clear a.p here (sym (ap (bit_and here) (one_shifted a.p 64 c.requires.0)) ∙ w.if-here-bit-ne0.false))
    ])

pub returns : goal.returns
returns c = served-end c.loop-k.invariant c.in-None.ensures.steps.0
