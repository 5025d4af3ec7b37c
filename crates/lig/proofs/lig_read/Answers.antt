-- Number, words, items and steps are those of the definition, and so fit 16 bits each.
use native.Mathlib.Omega.{arith}
use mathlib.Core.Path.{◌≡◌, subst}
use Rattle.layout.specs.Answers.{pack}
use Rattle.lig.specs.Exports.{ReadPacked}
use Rattle.lig.proofs.Laws.{answer-fits, read-packed}
use Rattle.lig.proofs.lig_read.Goals as goal

pub pack-requires : goal.pack-requires
pack-requires c =
    let h = rw c.in-Some.is at (answer-fits _ _ _ _ _ _ _ c.in-Ok.ensures) in
    (omega arith, omega (arith, h.words), omega (arith, h.items), omega (arith, h.steps))

pub pack-requires-in-None : goal.pack-requires-in-None
pack-requires-in-None c =
    let h = answer-fits _ _ _ _ _ _ _ c.in-Ok.ensures in
    (omega (arith, c.from-in-None.ensures), omega (arith, h.words), omega (arith, h.items), omega arith)

-- What is packed is the definition's number, whatever the sums are that its parts are written as.
pub returns-in-Some : goal.returns-in-Some
returns-in-Some c =
    let r = c.in-Ok.reading in
    let same : pack 0 r.words r.items c.in-Some.steps ≡ c.pack.result = omega (arith, c.pack.ensures) in
    subst (ReadPacked _ _ _ _ _ _) same (rw c.in-Some.is at (read-packed _ _ _ _ _ _ _ c.in-Ok.ensures))

pub returns-in-None : goal.returns-in-None
returns-in-None c =
    let r = c.in-Ok.reading in
    let same : pack 25 r.words r.items 0 ≡ c.pack-in-None.result = omega (arith, c.pack-in-None.ensures, c.from-in-None.ensures) in
    subst (ReadPacked _ _ _ _ _ _) same (rw c.in-None.is at (read-packed _ _ _ _ _ _ _ c.in-Ok.ensures))
