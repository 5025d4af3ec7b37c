-- Document 01, "Check, pairs, name": for each give step of a plan, in plan order, the take step that removes that very index; and document
-- 02's Paper 6, what a pair says of their two sides.
-- The plan is replayed on the leftmost nonterminal, and every index on a stack is known by the number of its pair, which is the
-- number of give steps before its own: so a take, which removes the top of its stack, says whose index it removes.
use Rattle.std.specs.Prelude.{ℕ, zero, suc, ◌-◌, List, [], ◌∷◌, ◌++◌, length}
use Rattle.std.proofs.Math.Option.{Option, none, some}
use Rattle.std.proofs.Math.ListN.{get_elem?}
use Rattle.grammar.specs.Rewriting.{Rule, Lexical, Spine, Action, Take, Keep, Give}
use Rattle.grammar.specs.Plan.{PlanStep, plan_step, production_in}

-- A stretch of the line: the words from place `from` up to place `to`.
pub data Stretch : Type 0 where
  stretch : (from to : ℕ) → Stretch

-- The empty one, before a give has met its take.
abbrev pub no_stretch : Stretch
no_stretch = stretch 0 0

-- The side of a step: what lies before the split if the side stands first, and what lies after it if the dependent does. (With no
-- side, the step's own stretch stands for it.)
abbrev pub side_of : Rule → PlanStep → Stretch
side_of (Lexical A w) (plan_step p i k j) = stretch i j
side_of (Spine A a (B ∷ before) D after) (plan_step p i k j) = stretch i k
side_of (Spine A a [] D []) (plan_step p i k j) = stretch i j
side_of (Spine A a [] D (C ∷ after)) (plan_step p i k j) = stretch k j

-- What a pair says of a side's stretch: its last word.
abbrev pub place_in : Stretch → ℕ
place_in (stretch from to) = to - 1

-- A give's side, and its take's side.
pub data Pair : Type 0 where
  pair : (given taken : Stretch) → Pair

-- The pair number m gets its take.
abbrev pub take_pair : ℕ → Stretch → List Pair → List Pair
take_pair m side [] = []
take_pair zero side (pair given taken ∷ pairs) = pair given side ∷ pairs
take_pair (suc m) side (x ∷ pairs) = x ∷ take_pair m side pairs

-- The stacks of the nonterminals to come, leftmost first, as numbers of pairs; and the pairs so far.
pub record Replay : Type 0 where
  pub stacks : List (List ℕ)
  pub pairs : List Pair

abbrev pub empty_stacks : List ℕ → List (List ℕ)
empty_stacks [] = []
empty_stacks (B ∷ Bs) = [] ∷ empty_stacks Bs

abbrev pub spine_stacks : List ℕ → List ℕ → List ℕ → List (List ℕ) → List (List ℕ)
spine_stacks before s after rest = empty_stacks before ++ (s ∷ (empty_stacks after ++ rest))

abbrev pub replay_action : Action → Stretch → List ℕ → List ℕ → List ℕ → List (List ℕ) → List Pair → Replay
replay_action (Take γ) side before after [] rest pairs = record { stacks = rest; pairs = pairs }
replay_action (Take γ) side before after (m ∷ s) rest pairs =
    record { stacks = spine_stacks before s after rest; pairs = take_pair m side pairs }
replay_action Keep side before after s rest pairs = record { stacks = spine_stacks before s after rest; pairs = pairs }
replay_action (Give γ) side before after s rest pairs =
    record { stacks = spine_stacks before (length pairs ∷ s) after rest; pairs = pairs ++ (pair side no_stretch ∷ []) }

abbrev pub replay_rule : Rule → PlanStep → List ℕ → List (List ℕ) → List Pair → Replay
replay_rule (Lexical A w) st s rest pairs = record { stacks = rest; pairs = pairs }
replay_rule (Spine A a before D after) st s rest pairs =
    replay_action a (side_of (Spine A a before D after) st) before after s rest pairs

abbrev pub replay_step : Option Rule → PlanStep → List (List ℕ) → List Pair → Replay
replay_step none st stacks pairs = record { stacks = stacks; pairs = pairs }
replay_step (some r) st [] pairs = record { stacks = []; pairs = pairs }
replay_step (some r) st (s ∷ rest) pairs = replay_rule r st s rest pairs

abbrev pub replay : List Rule → List PlanStep → Replay → List Pair
replay g [] state = state.pairs
replay g (st ∷ plan) state = replay g plan (replay_step (get_elem? g (production_in st)) st state.stacks state.pairs)

-- The pairs of a plan.
abbrev pub pairs_of : List Rule → List PlanStep → List Pair
pairs_of g plan = replay g plan (record { stacks = [] ∷ []; pairs = [] })
