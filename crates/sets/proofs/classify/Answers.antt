-- `classify` meets its contract. The loop's invariant: the sets have what the first p rules ask for, and the rest of the table is as it was.
-- A turn is one rule more.
use Prim.Native.Nat.{ℕ, ◌<◌}
use native.Mathlib.Omega.{arith}
use mathlib.Core.Path.{◌≡◌, refl, ◌∙◌, ap}
use mathlib.Core.List.{List}
use lib.ListN.{length, get_or}
use Rattle.layout.specs.Card.{production_count}
use Rattle.bits.proofs.BitLaws.{zero-at}
use Rattle.sets.proofs.CardRules.{few-rules, rule-named}
use Rattle.sets.proofs.ClassLaws.{classified-none, classified-more}
use Rattle.sets.proofs.classify.Goals.{In-loop-p, Start}
use Rattle.sets.proofs.classify.Goals as goal

-- A turn's production is one of the card's.
counted : (c : In-loop-p) → c.loop-p.p < production_count c.args.card.bytes.now
counted c = omega (arith, c.productions-p-end.ensures.counts)

pub loop-p-init : goal.loop-p-init
loop-p-init c = (
  (refl, λ at h. refl),
  classified-none _ c.requires.0 (λ k. ap (λ (l : List ℕ). get_or l k 0) c.requires.1 ∙ zero-at (length c.args.sets.now) k),
)

pub class_one-requires : goal.class_one-requires
class_one-requires c =
    let card = c.args.card.bytes.now in
    let p = counted (goal.at.class_one-requires c).In-loop-p in (
      c.loop-p.invariant.1.long,
      omega (arith, p, few-rules card c.args.card.accepted),
      rw c.production.ensures (rule-named card c.args.card.accepted c.loop-p.p p),
    )

pub loop-p-preserved : goal.loop-p-preserved
loop-p-preserved c =
    let card = c.args.card.bytes.now in
    let l = c.loop-p in
    let joined = c.class_one.ensures in (
      (joined.elsewhere.0 ∙ l.invariant.0.0, λ k h. joined.elsewhere.1 k h ∙ l.invariant.0.1 k h),
      classified-more card l.p l.invariant.1 (rule-named card c.args.card.accepted l.p (counted (goal.at.loop-p-preserved c).In-loop-p))
          (rw c.production.ensures at joined),
    )

pub returns : goal.returns
returns c =
    let l = c.loop-p in
    let all : l.p ≡ production_count c.args.card.bytes.now = omega (arith, c.productions-p-end.ensures.counts) in
    (rw all at l.invariant.1, l.invariant.0)
