-- At the loop, the entries before `v` stand where the table says.
use native.Mathlib.Omega.{arith}
use mathlib.Core.Path.{◌≡◌, ◌∙◌, ap}
use Rattle.layout.specs.Bytes.{byte_at}
use Rattle.layout.specs.Card.{spelling_length}
use Rattle.layout.proofs.Accepting.{entry-inside}
use Rattle.line.proofs.CardLaws.{most-letters}
use Rattle.line.proofs.SlotLaws.{slot-there, ranged-none, ranged-more}
use Rattle.line.proofs.slots.range_all.Goals.{After-from-size}
use Rattle.line.proofs.slots.range_all.Goals as goal

pub loop-v-init : goal.loop-v-init
loop-v-init c = rw c.requires (ranged-none c.args.card.bytes.now)

-- The length byte of an entry.
size : (c : After-from-size) → c.from-size.result ≡ spelling_length c.args.card.bytes.now c.loop-v.v
size c = c.from-size.ensures ∙ ap (byte_at c.args.card.bytes.now) c.entry_at-entry.ensures

pub bounds-card-entry-in-loop-v-2 : goal.bounds-card-entry-in-loop-v-2
bounds-card-entry-in-loop-v-2 c =
    let card = c.args.card in
    let few = rw c.words-v-end.ensures.counts at c.loop-v-test.true in
    omega (
      arith,
      c.entry_at-entry.ensures,
      size (goal.at.bounds-card-entry-in-loop-v-2 c).After-from-size,
      entry-inside card.bytes.now c.loop-v.v card.accepted few,
      most-letters card.bytes.now c.loop-v.v card.accepted few,
    )

pub loop-v-preserved : goal.loop-v-preserved
loop-v-preserved c =
    let card = c.args.card in
    let few = rw c.words-v-end.ensures.counts at c.loop-v-test.true in
    let slot = c.slot_of-h.ensures in
    let same = slot-there card.bytes.now c.loop-v.v c.entry_at-entry.result c.from-size.result card.accepted few c.entry_at-entry.ensures
    (size (goal.at.loop-v-preserved c).After-from-size) slot.0 in
    ranged-more c.loop-v.invariant same slot.1 c.with.ensures
