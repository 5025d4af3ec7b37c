-- How Pairs goes back over a plan: the place of a take waits until the give before it is met. So a pair is written when its give is met, from
-- the last pair to the first. What is to come out, `takes_action` and `matched_action`, stands with the grammar.
use Rattle.std.specs.Prelude.{ℕ, ◌+◌, ◌-◌, ◌*◌, ◌≤◌, ◌<◌, ◌≡◌, List, ◌++◌, map, length, take, drop, get_or, set, replicate}
use Rattle.grammar.specs.Rewriting.{Action, Take, Keep, Give, Rule}
use Rattle.grammar.specs.Plan.{PlanStep, plan_step}
use Rattle.grammar.specs.Pairs.{Stretch, stretch, side_of, place_in, Pair}
use Rattle.layout.specs.Bytes.{byte_at}
use Rattle.layout.specs.Card.{production}
use Rattle.layout.specs.Steps.{pairs_bytes}
use Rattle.card.specs.declared.Action as read
use Rattle.card.specs.Productions.{action_from}
use Rattle.goals.specs.Shown.{tops, entries, action_of}
use Rattle.check_pairs.specs.declared.matching.Matching.{Matching}
use Rattle.check_pairs.specs.declared.matching.Stretch as code

-- The stretch that the code has as two bytes.
abbrev pub stretch_from : code.Stretch → Stretch
stretch_from s = stretch s.from s.to

-- A stretch that is not empty.
abbrev pub HasWords : Stretch → Type 0
HasWords (stretch from to) = from < to

-- Step k of a plan's bytes, and its rule.
abbrev pub step_of : List ℕ → ℕ → PlanStep
step_of plan k = plan_step (byte_at plan (4 * k)) (byte_at plan (4 * k + 1)) (byte_at plan (4 * k + 2)) (byte_at plan (4 * k + 3))

abbrev pub rule_in : List ℕ → List ℕ → ℕ → Rule
rule_in card plan k = production card (byte_at plan (4 * k))

-- What it does with the stack, and its side.
pub record StepIn (card plan : List ℕ) (k : ℕ) (action : read.Action) (side : code.Stretch) : Type 0 where
  pub acts : action_from action ≡ action_of (rule_in card plan k)
  pub sides : stretch_from side ≡ side_of (rule_in card plan k) (step_of plan k)

-- Nothing waits, and nothing is written.
abbrev pub started : ℕ → Matching
started count = record { takes = replicate entries 0; waiting = 0; unwritten = count }

-- Where the action gives, a take waits and a pair is to be written.
abbrev pub CanGive : Action → Matching → Type 0
CanGive (Take γ) at = Unit {0}
CanGive Keep at = Unit {0}
CanGive (Give γ) at = (0 < at.waiting) × (0 < at.unwritten)

-- What one step back needs: a side with words, and a place for what it adds.
pub record CanMatch (a : Action) (side : Stretch) (room : List ℕ) (at : Matching) : Type 0 where
  pub words : HasWords side
  pub few : at.waiting ≤ 24
  pub in_room : 2 * at.unwritten ≤ length room
  pub gives : CanGive a at

-- What waits and is to be written after a step back, and the room: a give's place, and the place that came last.
abbrev pub met : Action → Stretch → Matching → Matching
met (Take γ) side at = record at { takes = set at.takes at.waiting (place_in side); waiting = at.waiting + 1 }
met Keep side at = at
met (Give γ) side at = record at { waiting = at.waiting - 1; unwritten = at.unwritten - 1 }

abbrev pub room_met : Action → Stretch → Matching → List ℕ → List ℕ
room_met (Take γ) side at room = room
room_met Keep side at room = room
room_met (Give γ) side at room =
    set (set room (2 * (at.unwritten - 1)) (place_in side)) (2 * (at.unwritten - 1) + 1) (get_or at.takes (at.waiting - 1) 0)

-- The places of the sides ts wait, and of the pairs, `count` in all, the last ones, xs, are written over what the room had before.
pub record Matches (before : List ℕ) (count : ℕ) (ts : List Stretch) (xs : List Pair) (at : Matching) (room : List ℕ) : Type 0 where
  pub all_takes : length at.takes ≡ entries
  pub shown : tops 0 at.takes at.waiting ≡ map place_in ts
  pub total : at.unwritten + length xs ≡ count
  pub within : 2 * count ≤ length before
  pub written : room ≡ take (2 * at.unwritten) before ++ (pairs_bytes xs ++ drop (2 * count) before)
