use Prim.Native.Nat.{◌-◌}
use lib.ListN.{length}
use Rattle.layout.specs.Card.{word_count}
use Rattle.line.specs.Slots.{Ranged}
use Rattle.line.proofs.PassLaws.{Passing}
use Rattle.line.proofs.accept_line.Given as goal

abbrev pub invariant-loop-at : goal.invariant-loop-at
invariant-loop-at l =
    let card = l.card.bytes.now in
    Passing card l.line l.at l.count l.places × Ranged card (word_count card) l.slots

abbrev pub decreases-loop-at : goal.decreases-loop-at
decreases-loop-at l = length l.line - l.at
