-- Document 01, "The plan", as Check replays it: a machine on goals. A goal is a nonterminal that is still to be replaced, with its
-- stack and the end of its stretch; it starts where the goal before it ends, and the first one at the present place. So the goals
-- tile the line from the present place to its end.
use Rattle.std.specs.Prelude.{ℕ, suc, ◌+◌, ◌-◌, ◌<◌, Bool, true, false, ◌&&◌, eqb, ltb, length}
use mathlib.Core.List.{List, [], ◌∷◌, tail}
use Rattle.std.proofs.Math.Option.{Option, none, some}
use Rattle.std.proofs.Math.ListN.{get_elem?}
use Rattle.grammar.specs.Rewriting.{Rule, Lexical, Spine, Action, Take, Keep, Give}
use Rattle.grammar.specs.Plan.{PlanStep, plan_step, production_in}

pub data Goal : Type 0 where
  goal : (A : ℕ) (s : List ℕ) (j : ℕ) → Goal

-- No step fits any more; or all goals up to here are reached, and these are to come.
pub data Standing : Type 0 where
  stuck : Standing
  standing : (i : ℕ) (goals : List Goal) → Standing

-- The top of a stack, 0 where it is empty.
abbrev pub top_index : List ℕ → ℕ
top_index [] = 0
top_index (γ ∷ s) = γ

-- What an action asks of a stack d deep with γ on top, how deep it leaves the stack, and which stack it leaves.
abbrev pub action_fits : Action → ℕ → ℕ → Bool
action_fits (Take γ') d γ = ltb 0 d && eqb γ' γ
action_fits Keep d γ = true
action_fits (Give γ') d γ = true

abbrev pub depth_after : Action → ℕ → ℕ
depth_after (Take γ) d = d - 1
depth_after Keep d = d
depth_after (Give γ) d = suc d

abbrev pub stack_after : Action → List ℕ → List ℕ
stack_after (Take γ) s = tail s
stack_after Keep s = s
stack_after (Give γ) s = γ ∷ s

-- The length of the dependent's stretch: the first if no side stands before it.
abbrev pub dependent_span : List ℕ → ℕ → ℕ → ℕ → ℕ
dependent_span [] i k j = k - i
dependent_span (B ∷ before) i k j = j - k

-- Is the goal the left side's, and does the split leave some words to either element?
abbrev pub split_fits : ℕ → ℕ → ℕ → ℕ → ℕ → Bool
split_fits A' A i k j = eqb A' A && (ltb i k && ltb k j)

-- Does the rule fit the goal A over i to j, with the split k, a stack d deep with γ on top, and `here` the test of the word at i?
-- The dependent's stack has to be less deep than its stretch is long: no other stack comes to words, and so every stack stays small.
abbrev pub fits : Rule → (ℕ → Bool) → ℕ → ℕ → ℕ → ℕ → ℕ → ℕ → Bool
fits (Lexical A' w) here A d γ i k j = eqb A' A && (eqb d 0 && (eqb k j && (eqb j (suc i) && here w)))
fits (Spine A' a before D after) here A d γ i k j =
    split_fits A' A i k j && (action_fits a d γ && ltb (depth_after a d) (dependent_span before i k j))

-- The goals once a rule that fits has replaced the first, whose stack is s: the first element on top. No rule of a card has
-- other than one side.
abbrev pub replaced : Rule → List ℕ → ℕ → ℕ → ℕ → List Goal → Standing
replaced (Lexical A w) s i k j rest = standing j rest
replaced (Spine A a [] D []) s i k j rest = stuck
replaced (Spine A a [] D (B ∷ [])) s i k j rest = standing i (goal D (stack_after a s) k ∷ goal B [] j ∷ rest)
replaced (Spine A a [] D (B ∷ C ∷ after)) s i k j rest = stuck
replaced (Spine A a (B ∷ []) D []) s i k j rest = standing i (goal B [] k ∷ goal D (stack_after a s) j ∷ rest)
replaced (Spine A a (B ∷ []) D (C ∷ after)) s i k j rest = stuck
replaced (Spine A a (B ∷ C ∷ before) D after) s i k j rest = stuck

-- One step: its stretch has to be that of the first goal, and its production has to be there and to fit.
abbrev pub turn_to : Bool → Standing → Standing
turn_to true S = S
turn_to false S = stuck

abbrev pub turn : (ℕ → ℕ → Bool) → Option Rule → PlanStep → ℕ → List Goal → Standing
turn at o st i [] = stuck
turn at none st i (x ∷ rest) = stuck
turn at (some R) (plan_step p i' k j') i (goal A s j ∷ rest) =
    turn_to (eqb i' i && (eqb j' j && fits R (at i) A (length s) (top_index s) i k j)) (replaced R s i k j rest)

-- The plan and the goals have to end together.
abbrev pub all_reached : Standing → Bool
all_reached stuck = false
all_reached (standing i []) = true
all_reached (standing i (x ∷ rest)) = false

abbrev pub next : List Rule → (ℕ → ℕ → Bool) → PlanStep → Standing → Standing
next g at st stuck = stuck
next g at st (standing i goals) = turn at (get_elem? g (production_in st)) st i goals

abbrev pub goals_run : List Rule → (ℕ → ℕ → Bool) → List PlanStep → Standing → Bool
goals_run g at [] S = all_reached S
goals_run g at (st ∷ plan) S = goals_run g at plan (next g at st S)

abbrev pub goals_start : ℕ → Standing
goals_start n = standing 0 (goal 0 [] n ∷ [])

-- Does the plan pass for a line of n words?
abbrev pub goals_pass : List Rule → (ℕ → ℕ → Bool) → ℕ → List PlanStep → Bool
goals_pass g at n plan = goals_run g at plan (goals_start n)

-- The same for bytes that may be no plan.
abbrev pub replay_from : List Rule → (ℕ → ℕ → Bool) → Standing → Option (List PlanStep) → Bool
replay_from g at S none = false
replay_from g at S (some plan) = goals_run g at plan S

-- The goals tile the line from i to n, and each stack is less deep than its goal's stretch is long.
pub data Tiled : ℕ → ℕ → List Goal → Type 0 where
  reached : {n : ℕ} → Tiled n n []
  tiled : {A i j n : ℕ} {s : List ℕ} {rest : List Goal} → i + length s < j → Tiled j n rest → Tiled i n (goal A s j ∷ rest)
