-- Document 01, "The plan": one record unfolded with what is pending under its foot. What the private functions ask and promise.
use Rattle.std.specs.Prelude.{ℕ, zero, suc, ◌+◌, ◌*◌, ◌-◌, ◌≤◌, ◌<◌, ◌≡◌, Bool, true, false, List, [], ◌∷◌, length, get_or, take}
use Rattle.grammar.specs.Items.{bare}
use Rattle.grammar.specs.ItemList.{item}
use Rattle.grammar.specs.Chart.{item_of, Onward, onward, Pends}
use Rattle.grammar.specs.Plan.{PlanStep, plan_step}
use Rattle.layout.specs.Bytes.{byte_at, number16_at}
use Rattle.layout.specs.Records.{record_at, foot_there, chart_in}
use Rattle.layout.specs.Steps.{plan_bytes}
use Rattle.layout.specs.Written.{Wrote}
use Rattle.card.specs.Productions.{action_from}
use Rattle.card.specs.declared.Action.{Action}
use Rattle.card.specs.declared.Action.TheVariants.{Take, Keep, Give}
use Rattle.unfold.specs.declared.Node.{Node}
use Rattle.unfold.specs.declared.Rest.{Rest}
use Rattle.unfold.specs.Unfold.{Held, RecordedWay}

-- Of the record at position m: its nonterminal, where its stretch starts and ends, how many words that is, and its production.
abbrev pub name_at : List ℕ → ℕ → ℕ
name_at chart m = byte_at chart (16 * m)

abbrev pub from_at : List ℕ → ℕ → ℕ
from_at chart m = byte_at chart (16 * m + 2)

abbrev pub to_at : List ℕ → ℕ → ℕ
to_at chart m = byte_at chart (16 * m + 3)

abbrev pub length_at : List ℕ → ℕ → ℕ
length_at chart m = to_at chart m - from_at chart m

abbrev pub rule_at : List ℕ → ℕ → ℕ
rule_at chart m = byte_at chart (16 * m + 7)

-- Is it the item of the start over n words?
abbrev pub IsStart : List ℕ → ℕ → ℕ → Bool → Type 0
IsStart chart m n true = item_of (record_at chart m) ≡ item 0 0 n bare
IsStart chart m n false = item_of (record_at chart m) ≡ item 0 0 n bare → ⊥

-- What the record at position m says.
pub record NodeOf (chart : List ℕ) (m : ℕ) (node : Node) : Type 0 where
  pub production : node.production ≡ rule_at chart m
  pub from : node.from ≡ from_at chart m
  pub to : node.to ≡ to_at chart m
  pub side : node.side ≡ number16_at chart (16 * m + 8)
  pub dependent : node.dependent ≡ number16_at chart (16 * m + 10)
  pub continuation : node.continuation ≡ number16_at chart (16 * m + 12)
  pub narrow : node.continuation < 65536

-- The n entries of the stack from base on, newest first; what is pending for a spine; and a record with nothing pending.
abbrev pub newest_first : List ℕ → ℕ → ℕ → List ℕ
newest_first stack base zero = []
newest_first stack base (suc n) = get_or stack (base + n) 0 ∷ newest_first stack base n

abbrev pub waiting : List ℕ → Rest → List ℕ
waiting stack r = newest_first stack r.base (r.depth - r.base)

abbrev pub alone : ℕ → ℕ → Rest
alone m depth = record { position = m; base = depth; depth = depth }

-- Below base the stack is as it was, and it is as long.
pub record Stays (base : ℕ) (old new : List ℕ) : Type 0 where
  pub below : take base new ≡ take base old
  pub long : length new ≡ length old

-- A take has a pending continuation to go on with.
abbrev pub CanTake : Action → Rest → Type 0
CanTake (Take γ) r = r.base < r.depth
CanTake Keep r = Unit {0}
CanTake (Give γ) r = Unit {0}

-- What going on asks: what is pending stands on the stack with a place for one more, the record's continuation fits there, and a take
-- has something to go on with.
pub record Fits (a : Action) (node : Node) (stack : List ℕ) (whole : Rest) : Type 0 where
  pub full : length stack ≡ 24
  pub above : whole.base ≤ whole.depth
  pub free : whole.depth < 24
  pub narrow : node.continuation < 65536
  pub takes : CanTake a whole

-- Where the definition goes on after a record's step.
abbrev pub after : Action → Node → List ℕ → Onward
after a node pending = onward (action_from a) node.dependent node.continuation pending

-- A spine goes on so, and what stands below its base stays.
pub record GoesOn (a : Action) (node : Node) (old : List ℕ) (whole : Rest) (new : List ℕ) (rest : Rest) : Type 0 where
  pub position : rest.position ≡ (after a node (waiting old whole)).position
  pub pending : waiting new rest ≡ (after a node (waiting old whole)).pending
  pub base : rest.base ≡ whole.base
  pub above : rest.base ≤ rest.depth
  pub stays : Stays whole.base old new

-- The step of a record, split at k.
abbrev pub step_for : Node → ℕ → PlanStep
step_for node k = plan_step node.production node.from k node.to

-- In a room that holds justified records, the positions pending fit the foot of the record at m and the stack s.
pub record Ready (card : List ℕ) (at : ℕ → ℕ → Bool) (chart : List ℕ) (count m : ℕ) (s pending : List ℕ) : Type 0 where
  pub held : Held card at chart count
  pub inside : m < count
  pub pends : Pends (chart_in chart count) (foot_there chart m) s pending

-- The room has the plan that goes down from the record at m by the recorded steps.
pub record Unfolded (card : List ℕ) (at : ℕ → ℕ → Bool) (chart : List ℕ) (count m : ℕ) (pending old : List ℕ) (here : ℕ) (new : List ℕ)
    (next : ℕ) : Type 0 where
  pub steps : List PlanStep
  pub way : RecordedWay card at chart count m pending steps
  pub wrote : Wrote old here (plan_bytes steps) new next
