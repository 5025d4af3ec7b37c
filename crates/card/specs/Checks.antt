-- What the check of a card promises: its number, and of an accepted card that it is the bytes that were checked.
use Rattle.std.specs.Prelude.{ℕ, ◌≡◌, List, Result, IfOk}
use Rattle.layout.specs.Card.{card_number}
use Rattle.refusals.specs.declared.Refusal.{Refusal}
use Rattle.refusals.specs.Number.{number_told}
use Rattle.card.specs.declared.Card.{Card}

pub record Checks (bytes : List ℕ) (r : Result Card Refusal) : Type 0 where
  pub number : number_told r ≡ card_number bytes
  pub same : IfOk r (λ c. c.bytes.now ≡ bytes)
