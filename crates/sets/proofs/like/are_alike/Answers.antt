-- `like::are_alike` meets its contract: the bytes that were compared are those that the two rules are made of, but for that of the side.
use Prim.Native.Nat.{◌+◌}
use native.Mathlib.Omega.{arith}
use mathlib.Core.Path.{◌≡◌}
use Rattle.std.proofs.Common.{rules}
use Rattle.layout.specs.Bytes.{byte_at}
use Rattle.layout.proofs.TestLaws.{tests}
use Rattle.sets.proofs.CardRules.{kind-most}
use Rattle.sets.proofs.LikeLaws.{SameBut, alike-first, alike-last}
use Rattle.sets.proofs.like.are_alike.Goals.{then-kind-eq1, else-kind-eq1}
use Rattle.sets.proofs.like.are_alike.Goals as goal

pub bounds-bytes-a-then-bytes-a-2 : goal.bounds-bytes-a-then-bytes-a-2
bounds-bytes-a-then-bytes-a-2 c =
    elim c.if-kind-eq1.branch [ then-kind-eq1 w ↦ omega arith | else-kind-eq1 w ↦ omega arith ]

pub bounds-bytes-b-then-bytes-a-2 : goal.bounds-bytes-b-then-bytes-a-2
bounds-bytes-b-then-bytes-a-2 c =
    elim c.if-kind-eq1.branch [ then-kind-eq1 w ↦ omega arith | else-kind-eq1 w ↦ omega arith ]

pub returns-then-bytes-a-2 : goal.returns-then-bytes-a-2
returns-then-bytes-a-2 c = λ e.
    let card = c.args.card.bytes.now in
    let a = c.production_at-a.result in
    let b = c.production_at-b.result in
    let at-q = c.production_at-a.ensures.at in
    let at-p = c.production_at-b.ensures.at in
    let most = kind-most card c.args.card.accepted c.args.q c.requires.0 in
    let same : SameBut card a b = search rules in
    let there : byte_at card (a + c.if-kind-eq1.dependent) ≡ byte_at card (b + c.if-kind-eq1.dependent) = omega (arith, tests, e) in
    elim c.if-kind-eq1.branch [
      | then-kind-eq1 w ↦ alike-first card c.args.q c.args.p a b at-q at-p most same (omega (arith, w.if-kind-eq1.true)) (rw w.dependent-is at there)
      | else-kind-eq1 w ↦ alike-last card c.args.q c.args.p a b at-q at-p most same (λ o. omega (arith, w.if-kind-eq1.false)) (rw w.dependent-is at there)
    ]
