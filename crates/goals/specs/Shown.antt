-- How the code's struct shows goals: the first goal stands last, so that goals come and go at the used ends. `goals` has an entry a
-- goal; `stack` has the indices of all stacks, of which a goal owns those from its base to the next one's.
use Rattle.std.specs.Prelude.{ℕ, zero, suc, ◌+◌, ◌-◌, ◌≤◌, ◌<◌, ◌≡◌, Bool, true, false, List, [], ◌∷◌, ◌++◌, length, get_or, set, replicate, Option, Some, None}
use Rattle.grammar.specs.Rewriting.{Rule, Lexical, Spine, Action, Take, Keep, Give}
use Rattle.goals.specs.Goals.{Goal, goal, Standing, stuck, standing, top_index, depth_after, split_fits, fits, next}
use Rattle.bits.specs.Bits.{holds_bit}
use Rattle.places.specs.Places.{word_test}
use Rattle.grammar.specs.Plan.{PlanStep, plan_step}
use Rattle.layout.specs.Bytes.{byte_at}
use Rattle.layout.specs.Card.{grammar_of}
use Rattle.goals.specs.declared.replay.Goal as code
use Rattle.goals.specs.declared.replay.Goals.{Goals}
use Rattle.goals.specs.declared.replay.StepBytes.{StepBytes}
use Rattle.goals.specs.declared.replay.Top.{Top}

-- The first n entries of an array, the last of them first; x stands past its end.
abbrev pub tops : {A : Type 0} (x : A) → List A → ℕ → List A
tops x xs zero = []
tops x xs (suc n) = get_or xs n x ∷ tops x xs n

abbrev pub entry : ℕ → ℕ → ℕ → code.Goal
entry A j base = record { name = A; end = j; base = base }

abbrev pub no_goal : code.Goal
no_goal = entry 0 0 0

abbrev pub indices_of : List Goal → List ℕ
indices_of [] = []
indices_of (goal A s j ∷ rest) = s ++ indices_of rest

abbrev pub entries_of : List Goal → List code.Goal
entries_of [] = []
entries_of (goal A s j ∷ rest) = entry A j (length (indices_of rest)) ∷ entries_of rest

-- No array runs out: a line has at most 24 words, and there are never more goals or indices than words left, or one goal where the line has none.
abbrev pub entries : ℕ
entries = 25

pub record Shows (g : Goals) (goals : List Goal) : Type 0 where
  pub all_goals : length g.goals ≡ entries
  pub all_stack : length g.stack ≡ entries
  pub shown_goals : tops no_goal g.goals g.count ≡ entries_of goals
  pub shown_stack : tops 0 g.stack g.top ≡ indices_of goals

-- The struct shows where the model stands.
abbrev pub ShowsAt : Goals → Standing → Type 0
ShowsAt g stuck = ⊥
ShowsAt g (standing i goals) = (g.place ≡ i) × Shows g goals

-- One goal over all n words.
abbrev pub started : ℕ → Goals
started n = record { goals = set (replicate entries no_goal) 0 (entry 0 n 0); count = 1; stack = replicate entries 0; top = 0; place = 0 }

-- The action of a rule: a word leaves the stack as it is, which is empty.
abbrev pub action_of : Rule → Action
action_of (Lexical A w) = Keep
action_of (Spine A a before D after) = a

-- There is an index to take.
abbrev pub CanTake : Action → ℕ → Type 0
CanTake (Take γ) top = 0 < top
CanTake Keep top = Unit {0}
CanTake (Give γ) top = Unit {0}

-- The indices after an action: whatever lies below the stack that it acts on stays.
abbrev pub stack_in : Action → Goals → List ℕ
stack_in (Take γ) g = g.stack
stack_in Keep g = g.stack
stack_in (Give γ) g = set g.stack g.top γ

abbrev pub acted : Action → Goals → Goals
acted a g = record g { stack = stack_in a g; top = depth_after a g.top }

-- The entry of the first goal.
abbrev pub last_entry : Goals → code.Goal
last_entry g = get_or g.goals (g.count - 1) no_goal

-- Two goals where the first stood: the second in its entry, and the first in the next one.
abbrev pub opened : ℕ → ℕ → ℕ → ℕ → Goals → Goals
opened first second k base g = record g {
  goals = set (set g.goals (g.count - 1) (record (last_entry g) { name = second })) g.count (entry first k base);
  count = g.count + 1;
}

-- There is a goal, and place for one more.
pub record Room (a : Action) (g : Goals) : Type 0 where
  pub some : 0 < g.count
  pub few : g.count ≤ 24
  pub low : g.top ≤ 24
  pub takes : CanTake a g.top

-- The goals after a rule that fits has replaced the first. No rule of a card has other than one side.
abbrev pub replaced_in : Rule → ℕ → Goals → Goals
replaced_in (Lexical A w) k g = record g { count = g.count - 1; place = (last_entry g).end }
replaced_in (Spine A a [] D (B ∷ after)) k g = opened D B k (last_entry g).base (acted a g)
replaced_in (Spine A a (B ∷ before) D after) k g = opened B D k (acted a g).top (acted a g)
replaced_in (Spine A a [] D []) k g = g

-- What the numbers of goals and indices have to be for the code to read the first goal: few, and with a base that the stack has.
pub record Within (g : Goals) : Type 0 where
  pub few_goals : g.count ≤ 24
  pub few_indices : g.top ≤ 24
  pub in_line : 0 < g.count → g.place < 24
  pub based : 0 < g.count → (last_entry g).base ≤ g.top

-- The first goal as the code reads it.
abbrev pub top_of : Goals → Top
top_of g = record {
  name = (last_entry g).name;
  depth = g.top - (last_entry g).base;
  index = top_index (tops 0 g.stack g.top);
  start = g.place;
  end = (last_entry g).end;
}

abbrev pub first_among : ℕ → Goals → Option Top
first_among zero g = None
first_among (suc m) g = Some (top_of g)

abbrev pub first_of : Goals → Option Top
first_of g = first_among g.count g

-- The model's tests of it, with the set of the words at its start.
abbrev pub in_set : ℕ → ℕ → Bool
in_set set w = holds_bit w set

abbrev pub split_fits_top : ℕ → Top → ℕ → Bool
split_fits_top A top k = split_fits A top.name top.start k top.end

abbrev pub fits_top : Rule → ℕ → Top → ℕ → Bool
fits_top R here top k = fits R (in_set here) top.name top.depth top.index top.start k top.end

abbrev pub step_from : StepBytes → PlanStep
step_from st = plan_step st.number st.start st.split st.end

-- The step that stands at a place of a plan's bytes.
pub record StepAt (plan : List ℕ) (at : ℕ) (st : StepBytes) : Type 0 where
  pub number : st.number ≡ byte_at plan at
  pub start : st.start ≡ byte_at plan (at + 1)
  pub split : st.split ≡ byte_at plan (at + 2)
  pub end : st.end ≡ byte_at plan (at + 3)

-- What is said of one step of a plan: that the model is stuck, or where it stands.
abbrev pub Tells : Bool → Goals → Standing → Type 0
Tells false g S = S ≡ stuck
Tells true g S = ShowsAt g S

pub record Replayed (card places : List ℕ) (st : StepBytes) (old new : Goals) (r : Bool) : Type 0 where
  pub told : (goals : List Goal) → Shows old goals
      → Tells r new (next (grammar_of card) (word_test places) (step_from st) (standing old.place goals))
