-- Unfolding, over what is only read: what opening a record and each of the two unfoldings ask and promise.
use Rattle.std.specs.Prelude.{ℕ, ◌+◌, ◌≤◌, ◌≡◌, Bool, List, [], ◌∷◌, length}
use Rattle.grammar.specs.Rewriting.{Lexical, Spine}
use Rattle.grammar.specs.Plan.{plan_step}
use Rattle.layout.specs.Card.{production}
use Rattle.layout.specs.Steps.{step_bytes, plan_room}
use Rattle.layout.specs.Written.{Wrote}
use Rattle.card.specs.Productions.{action_from}
use Rattle.card.specs.declared.Action.{Action}
use Rattle.unfold.specs.declared.Node.{Node}
use Rattle.unfold.specs.declared.Rest.{Rest}
use Rattle.unfold.specs.declared.Source.{Source}
use Rattle.unfold.specs.declared.Left.{Left}
use Rattle.unfold.specs.declared.Left.TheVariants.{Nothing, SideFirst, SideLast}
use Rattle.unfold.specs.Spine.{from_at, to_at, length_at, rule_at, NodeOf, waiting, GoesOn, Ready, Unfolded}

-- What an unfolding asks: such a record, for some test and some stack of indices; a place on the lent stack above base for each of its
-- words, and room for its plan from `here` on.
pub record Asked (source : Source) (stack : List ℕ) (whole : Rest) (plan : List ℕ) (here : ℕ) : Type 0 where
  pub at : ℕ → ℕ → Bool
  pub count : ℕ
  pub indices : List ℕ
  pub ready : Ready source.card.bytes.now at source.chart.now count whole.position indices (waiting stack whole)
  pub above : whole.base ≤ whole.depth
  pub full : length stack ≡ 24
  pub short : whole.base + length_at source.chart.now whole.position ≤ 24
  pub room : here + plan_room (length_at source.chart.now whole.position) ≤ length plan

-- What is left of a record by its production: of a word nothing; and else its side, and the rest of its spine.
pub data Opened (source : Source) (old : List ℕ) (whole : Rest) (new : List ℕ) : Left → Type 0 where
  opened_word : {A w next : ℕ} → production source.card.bytes.now (rule_at source.chart.now whole.position) ≡ Lexical A w → new ≡ old
      → Opened source old whole new (Nothing next)
  opened_first : {A B D beside next : ℕ} {a : Action} {node : Node} {rest : Rest} → NodeOf source.chart.now whole.position node
      → production source.card.bytes.now (rule_at source.chart.now whole.position) ≡ Spine A (action_from a) (B ∷ []) D [] → beside ≡ node.side
      → GoesOn a node old whole new rest → Opened source old whole new (SideFirst beside rest next)
  opened_last : {A B D beside next : ℕ} {a : Action} {node : Node} {rest : Rest} → NodeOf source.chart.now whole.position node
      → production source.card.bytes.now (rule_at source.chart.now whole.position) ≡ Spine A (action_from a) [] D (B ∷ []) → beside ≡ node.side
      → GoesOn a node old whole new rest → Opened source old whole new (SideLast rest beside next)

-- Where its step is split, and where the plan goes on after it.
abbrev pub split_by : List ℕ → ℕ → Left → ℕ
split_by chart m (Nothing next) = to_at chart m
split_by chart m (SideFirst beside rest next) = to_at chart beside
split_by chart m (SideLast rest beside next) = from_at chart beside

abbrev pub next_in : Left → ℕ
next_in (Nothing next) = next
next_in (SideFirst beside rest next) = next
next_in (SideLast rest beside next) = next

-- The step of the record at m is written.
abbrev pub StepWritten : Source → ℕ → Left → List ℕ → ℕ → List ℕ → Type 0
StepWritten source m left old here new =
    let chart = source.chart.now in
    Wrote old here (step_bytes (plan_step (rule_at chart m) (from_at chart m) (split_by chart m left) (to_at chart m))) new (next_in left)

-- So much opening promises.
pub record Opens (source : Source) (old : List ℕ) (whole : Rest) (new plan : List ℕ) (here : ℕ) (plan' : List ℕ) (left : Left) : Type 0 where
  pub opened : Opened source old whole new left
  pub step_written : StepWritten source whole.position left plan here plan'

-- The plan that goes down from the record at m is written, for every test and every stack of indices for which that record is ready; for
-- a spine, with what is pending on the lent stack.
abbrev pub Unfolds : Source → ℕ → List ℕ → List ℕ → ℕ → List ℕ → ℕ → Type 0
Unfolds source m pending old here new next =
    (at : ℕ → ℕ → Bool) (count : ℕ) (s : List ℕ) → Ready source.card.bytes.now at source.chart.now count m s pending
    → Unfolded source.card.bytes.now at source.chart.now count m pending old here new next

abbrev pub UnfoldsSpine : Source → List ℕ → Rest → List ℕ → ℕ → List ℕ → ℕ → Type 0
UnfoldsSpine source stack whole old here new next = Unfolds source whole.position (waiting stack whole) old here new next
