-- No entry from `from` up to `next` is the word; while its bytes are compared, the entry at `here` agrees with the word up to `i`.
-- Another length or a mismatch passes the entry over.
use native.Mathlib.Omega.{arith}
use mathlib.Core.Path.{◌≡◌, ◌∙◌, ap}
use Rattle.layout.specs.Bytes.{byte_at}
use Rattle.layout.specs.Card.{spelling_length}
use Rattle.line.proofs.LookupLaws.{Turn, turn-other, comparing-first, comparing-on, other_byte}
use Rattle.line.proofs.lookup.next_equal.Goals.{After-from, Else-to-next}
use Rattle.line.proofs.lookup.next_equal.Goals as goal

-- What a turn knows of its entry, and the entry's length byte.
turn : (c : Else-to-next)
    → let a = c.args in Turn a.card.bytes.now a.word.now a.from a.to c.entry.next
turn c =
    record {
      accepted = c.args.card.accepted;
      counted = omega (arith, c.requires.1, c.if-to-next.false);
      before = omega (arith, c.if-to-next.false);
      looking = c.entry.invariant;
    }

size : (c : After-from)
    → c.from.result ≡ spelling_length c.args.card.bytes.now c.entry.next
size c = c.from.ensures ∙ ap (byte_at c.args.card.bytes.now) c.entry_at-entry.ensures

pub entry-preserved-then-from-word : goal.entry-preserved-then-from-word
entry-preserved-then-from-word c =
    let w = goal.at.entry-preserved-then-from-word c in
    turn-other (turn w.Else-to-next) (size w.After-from) (omega (arith, c.if-from-word.true))

pub loop-i-init : goal.loop-i-init
loop-i-init c =
    let w = goal.at.loop-i-init c in
    comparing-first (turn w.Else-to-next) (size w.After-from) (omega (arith, c.if-from-word.false))

pub entry-preserved : goal.entry-preserved
entry-preserved c =
    other_byte (turn (goal.at.entry-preserved c).Else-to-next) c.loop-i.invariant c.loop-i-test.true
    (rw c.entry_at-entry.ensures at c.if-card-entry.true)

pub loop-i-preserved : goal.loop-i-preserved
loop-i-preserved c =
    comparing-on (turn (goal.at.loop-i-preserved c).Else-to-next) c.loop-i.invariant c.loop-i-test.true
    (rw c.entry_at-entry.ensures at c.if-card-entry.false)
