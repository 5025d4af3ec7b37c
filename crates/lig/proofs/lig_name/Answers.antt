-- A name lies within a word's entry, so its place and its size are small.
use native.Mathlib.Omega.{arith}
use Rattle.lig.proofs.Laws.{name-fits}
use Rattle.lig.proofs.lig_name.Goals as goal

pub pack-requires : goal.pack-requires
pack-requires c =
    let (offset, size) = name-fits c.args.card.now c.args.word _ _ c.in-Ok.ensures.answer in
    (omega arith, omega (arith, offset), omega (arith, size), omega arith)
