-- What Pairs answers and leaves in its room, from the inputs alone. On a refusal there are no pairs: the count is 0 and the room as it was.
use Rattle.std.specs.Prelude.{ℕ, ◌≡◌, List, length, Result}
use Rattle.layout.specs.Answers.{plan_pairs, pairs_within, pairs_answer, pairs_after}
use Rattle.layout.specs.Steps.{steps_of}
use Rattle.refusals.specs.declared.Refusal.{Refusal}
use Rattle.refusals.specs.Number.{number_told, count_in}

-- The pairs of a plan that passes: 33 where the room is too short for them.
pub record PairsOf (card plan before after : List ℕ) (r : Result ℕ Refusal) : Type 0 where
  pub number : number_told r ≡ (pairs_within (plan_pairs card (steps_of plan)) (length before)).number
  pub count : count_in r ≡ length (pairs_within (plan_pairs card (steps_of plan)) (length before)).pairs
  pub room : after ≡ pairs_after (pairs_within (plan_pairs card (steps_of plan)) (length before)).pairs before

pub record Pairs (card line plan before after : List ℕ) (r : Result ℕ Refusal) : Type 0 where
  pub number : number_told r ≡ (pairs_answer card line plan (length before)).number
  pub count : count_in r ≡ length (pairs_answer card line plan (length before)).pairs
  pub room : after ≡ pairs_after (pairs_answer card line plan (length before)).pairs before
