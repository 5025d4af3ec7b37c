-- The count is that of the definition, and so fits 16 bits.
use native.Mathlib.Omega.{arith}
use Rattle.lig.proofs.Laws.{pairs-fit-code}
use Rattle.lig.proofs.lig_pairs.Goals as goal

pub pack-requires : goal.pack-requires
pack-requires c =
    let h = pairs-fit-code _ _ _ _ _ _ c.in-Ok.ensures in
    (omega arith, omega (arith, h.1), omega arith, omega arith)
