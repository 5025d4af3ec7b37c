-- Document 01, "The plan": a step's four bytes; "Check, pairs, name": a pair's two.
use Rattle.std.specs.Prelude.{ℕ, ◌*◌, ◌-◌, List, [], ◌∷◌}
use Rattle.std.proofs.Math.Option.{Option, none, some}
use Rattle.grammar.specs.Lists.{concat_map}
use Rattle.grammar.specs.Plan.{PlanStep, plan_step}
use Rattle.grammar.specs.Pairs.{Pair, pair, place_in}

abbrev pub step_bytes : PlanStep → List ℕ
step_bytes (plan_step p i k j) = p ∷ i ∷ k ∷ j ∷ []

abbrev pub plan_bytes : List PlanStep → List ℕ
plan_bytes plan = concat_map step_bytes plan

-- The steps in bytes, all of them; none where the length is no multiple of 4.
abbrev pub and_step : PlanStep → Option (List PlanStep) → Option (List PlanStep)
and_step st none = none
and_step st (some plan) = some (st ∷ plan)

abbrev pub steps_of : List ℕ → Option (List PlanStep)
steps_of [] = some []
steps_of (p ∷ []) = none
steps_of (p ∷ i ∷ []) = none
steps_of (p ∷ i ∷ k ∷ []) = none
steps_of (p ∷ i ∷ k ∷ j ∷ bytes) = and_step (plan_step p i k j) (steps_of bytes)

-- The steps of a plan for n words, and the room it needs.
abbrev pub plan_steps : ℕ → ℕ
plan_steps n = 2 * n - 1

abbrev pub plan_room : ℕ → ℕ
plan_room n = 4 * plan_steps n

abbrev pub pair_bytes : Pair → List ℕ
pair_bytes (pair given taken) = place_in given ∷ place_in taken ∷ []

abbrev pub pairs_bytes : List Pair → List ℕ
pairs_bytes pairs = concat_map pair_bytes pairs
