-- The item of the start is unfolded as a side is, with nothing pending, from the room's first byte on.
-- The laws of Whole.antt hand what is asked on, and read the side's plan as the line's.
use mathlib.Core.Path.{refl}
use mathlib.Core.List.{[]}
use Rattle.unfold.proofs.Whole.{start-ready, start-asked, start-planned}
use Rattle.unfold.proofs.unfold.Goals as goal

pub side-requires : goal.side-requires
side-requires c =
    start-asked c.requires refl

pub returns : goal.returns
returns c =
    let u = c.requires in
    λ at count held inside. start-planned (c.side.ensures.unfolds at count [] (start-ready held inside u.whole))
