-- The pairs of a plan by bracket matching, from its end: a take's side waits until the give before it is met. proofs/PairsLaws.antt shows that
-- for a leftmost derivation this is the pairing of Pairs.antt.
use Rattle.std.specs.Prelude.{ℕ, ◌+◌}
use mathlib.Core.List.{List, [], ◌∷◌, tail}
use Rattle.std.proofs.Math.Option.{Option, none, some}
use Rattle.std.proofs.Math.ListN.{get_elem?}
use Rattle.grammar.specs.Rewriting.{Rule, Lexical, Spine, Action, Take, Keep, Give}
use Rattle.grammar.specs.Plan.{PlanStep, production_in}
use Rattle.grammar.specs.Pairs.{Stretch, no_stretch, side_of, Pair, pair}

-- `takes_of g plan`: the sides of the takes whose give stands before the plan, top first.
abbrev pub takes_action : Action → Stretch → List Stretch → List Stretch
takes_action (Take γ) side ts = side ∷ ts
takes_action Keep side ts = ts
takes_action (Give γ) side ts = tail ts

abbrev pub takes_rule : Option Rule → PlanStep → List Stretch → List Stretch
takes_rule none st ts = ts
takes_rule (some (Lexical A w)) st ts = ts
takes_rule (some (Spine A a before D after)) st ts = takes_action a (side_of (Spine A a before D after) st) ts

abbrev pub takes_of : List Rule → List PlanStep → List Stretch
takes_of g [] = []
takes_of g (st ∷ plan) = takes_rule (get_elem? g (production_in st)) st (takes_of g plan)

-- `matched g plan`: each give of the plan with the first take that is still open behind it.
abbrev pub top_of : List Stretch → Stretch
top_of [] = no_stretch
top_of (t ∷ ts) = t

abbrev pub matched_action : Action → Stretch → List Stretch → List Pair → List Pair
matched_action (Take γ) side ts pairs = pairs
matched_action Keep side ts pairs = pairs
matched_action (Give γ) side ts pairs = pair side (top_of ts) ∷ pairs

abbrev pub matched_rule : Option Rule → PlanStep → List Stretch → List Pair → List Pair
matched_rule none st ts pairs = pairs
matched_rule (some (Lexical A w)) st ts pairs = pairs
matched_rule (some (Spine A a before D after)) st ts pairs = matched_action a (side_of (Spine A a before D after) st) ts pairs

abbrev pub matched : List Rule → List PlanStep → List Pair
matched g [] = []
matched g (st ∷ plan) = matched_rule (get_elem? g (production_in st)) st (takes_of g plan) (matched g plan)

-- The steps of a plan that give, and those that take, counted.
abbrev pub one_give : Action → ℕ
one_give (Take γ) = 0
one_give Keep = 0
one_give (Give γ) = 1

abbrev pub one_take : Action → ℕ
one_take (Take γ) = 1
one_take Keep = 0
one_take (Give γ) = 0

abbrev pub count_rule : (Action → ℕ) → Option Rule → ℕ
count_rule one none = 0
count_rule one (some (Lexical A w)) = 0
count_rule one (some (Spine A a before D after)) = one a

abbrev pub count_steps : (Action → ℕ) → List Rule → List PlanStep → ℕ
count_steps one g [] = 0
count_steps one g (st ∷ plan) = count_rule one (get_elem? g (production_in st)) + count_steps one g plan

abbrev pub give_steps : List Rule → List PlanStep → ℕ
give_steps g plan = count_steps one_give g plan

abbrev pub take_steps : List Rule → List PlanStep → ℕ
take_steps g plan = count_steps one_take g plan
