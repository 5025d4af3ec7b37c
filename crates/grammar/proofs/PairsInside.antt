-- The stretches of a plan's pairs are sides of its steps, one of a step that gives and one of a step that takes, and each side comes to its
-- stretch. So both have words, all of the line, and what is written of them are words of the line.
use Prim.Native.Nat.{ℕ, zero, suc, ◌+◌, ◌<◌}
use native.Mathlib.Omega.{arith}
use mathlib.Core.Path.{◌≡◌, refl, ◌∙◌}
use mathlib.Core.List.{List, [], ◌∷◌}
use lib.ListN.{length, drop}
use Rattle.grammar.specs.Lists.{Stands, here, there}
use Rattle.grammar.specs.Rewriting.{Rule, Spine, Action, Take, Give}
use Rattle.grammar.specs.Plan.{PlanStep, production_in, LeftmostDerivation}
use Rattle.grammar.specs.Pairs.{Stretch, side_of, place_in, Pair, pair, pairs_of}
use Rattle.grammar.specs.Matching.{takes_action, takes_of, matched_action, matched}
use Rattle.grammar.proofs.StandsLaws.{stands-get_elem}
use Rattle.grammar.proofs.PlanRuns.{total, Shifts, less, same, more, Runs, over, word_step, spine_step, total-spine, yields-runs}
use Rattle.grammar.proofs.PairsLaws.{runs-count, pairs-matched}
use Rattle.grammar.proofs.Sides.{SideComes, InLine, in_line, comes-in-line, side-comes}

-- The side of a step of the plan, whose rule has this action: the steps after it bring it to its stretch.
pub record OfSide (g : List Rule) (at : ℕ → ℕ → Type 0) (n : ℕ) (plan : List PlanStep) (a : Action) (side : Stretch) : Type 0 where
  pub number : ℕ
  pub step : PlanStep
  pub left : ℕ
  pub before : List ℕ
  pub dependent : ℕ
  pub after : List ℕ
  pub stands : Stands plan number step
  pub by_rule : Stands g (production_in step) (Spine left a before dependent after)
  pub is_side : side ≡ side_of (Spine left a before dependent after) step
  pub comes : SideComes g at n (drop (suc number) plan) (Spine left a before dependent after) side

-- Both sides of a pair.
pub record PairSides (g : List Rule) (at : ℕ → ℕ → Type 0) (n : ℕ) (plan : List PlanStep) (given taken : Stretch) : Type 0 where
  pub given_index : ℕ
  pub taken_index : ℕ
  pub gives : OfSide g at n plan (Give given_index) given
  pub takes : OfSide g at n plan (Take taken_index) taken

in_place : {n : ℕ} {side : Stretch} → InLine n side → place_in side < n
in_place (in_line l k) = omega arith

-- The sides of steps that take, in a list; and of a step that gives and of one that takes, in every pair.
data EachTaken (P : Action → Stretch → Type 0) : List Stretch → Type 0 where
  nosides : EachTaken P []
  and_side : (γ : ℕ) {side : Stretch} {ts : List Stretch} → P (Take γ) side → EachTaken P ts → EachTaken P (side ∷ ts)

data EachPair (P : Action → Stretch → Type 0) : List Pair → Type 0 where
  nopairs : EachPair P []
  and_pair : (γ η : ℕ) {given taken : Stretch} {xs : List Pair} → P (Give γ) given → P (Take η) taken → EachPair P xs
      → EachPair P (pair given taken ∷ xs)

module _ (P : Action → Stretch → Type 0) where
  takes-each : {d d' : ℕ} {a : Action} {side : Stretch} {ts : List Stretch} → Shifts a d d' → P a side → EachTaken P ts
      → EachTaken P (takes_action a side ts)
  takes-each (less {γ = γ}) h u = and_side γ h u
  takes-each same h u = u
  takes-each more h nosides = nosides
  takes-each more h (and_side η k u) = u

  -- Where a give is met, a take is open.
  matched-each : {d d' : ℕ} {a : Action} {side : Stretch} {ts : List Stretch} {xs : List Pair} (t : ℕ) → Shifts a d d'
      → length ts ≡ d' + t → P a side → EachTaken P ts → EachPair P xs → EachPair P (matched_action a side ts xs)
  matched-each t less e h u v = v
  matched-each t same e h u v = v
  matched-each t more e h nosides v = absurd (omega arith)
  matched-each t (more {γ = γ}) e h (and_side η k u) v = and_pair γ η h k v

  module _ (g : List Rule) where
    abbrev HasSides : List PlanStep → Type 0
    HasSides plan = (m : ℕ) (st : PlanStep) (A : ℕ) (a : Action) (before : List ℕ) (D : ℕ) (after : List ℕ) → Stands plan m st
        → Stands g (production_in st) (Spine A a before D after) → P a (side_of (Spine A a before D after) st)

    later-sides : {st : PlanStep} {plan : List PlanStep} → HasSides (st ∷ plan) → HasSides plan
    later-sides h m st A a before D after s = h (suc m) st A a before D after (there s)

    runs-takes-each : {ns : List ℕ} {plan : List PlanStep} → Runs g ns plan → HasSides plan → EachTaken P (takes_of g plan)
    runs-takes-each over h = nosides
    runs-takes-each (word_step s r) h = rw (stands-get_elem s) (runs-takes-each r (later-sides h))
    runs-takes-each (spine_step s a r) h =
        rw (stands-get_elem s) (takes-each a (h zero _ _ _ _ _ _ here s) (runs-takes-each r (later-sides h)))

    runs-matched-each : {ns : List ℕ} {plan : List PlanStep} → Runs g ns plan → HasSides plan → EachPair P (matched g plan)
    runs-matched-each over h = nopairs
    runs-matched-each (word_step s r) h = rw (stands-get_elem s) (runs-matched-each r (later-sides h))
    runs-matched-each (spine_step {n' = n'} {before = before} {after = after} {ns = ns} s a r) h =
        rw (stands-get_elem s)
        (matched-each (total ns) a (runs-count r ∙ total-spine before n' after ns) (h zero _ _ _ _ _ _ here s)
        (runs-takes-each r (later-sides h)) (runs-matched-each r (later-sides h)))

module _ {g : List Rule} {at : ℕ → ℕ → Type 0} {n : ℕ} {plan : List PlanStep} where
  of-step : LeftmostDerivation g at n plan → HasSides (OfSide g at n plan) g plan
  of-step y m st A a before D after t u = record {
    number = m;
    step = st;
    left = A;
    before = before;
    dependent = D;
    after = after;
    stands = t;
    by_rule = u;
    is_side = refl;
    comes = side-comes y t u;
  }

  pair-sides : {m : ℕ} {given taken : Stretch} {xs : List Pair} → EachPair (OfSide g at n plan) xs → Stands xs m (pair given taken)
      → PairSides g at n plan given taken
  pair-sides (and_pair γ η x y v) here = record { given_index = γ; taken_index = η; gives = x; takes = y }
  pair-sides (and_pair γ η x y v) (there s) = pair-sides v s
  pair-sides nopairs h = elim h [ ]

  module _ {m : ℕ} {given taken : Stretch} (y : LeftmostDerivation g at n plan) (s : Stands (pairs_of g plan) m (pair given taken)) where
    pub pairs-of-sides : PairSides g at n plan given taken
    pairs-of-sides =
        pair-sides (runs-matched-each (OfSide g at n plan) g (yields-runs y) (of-step y)) (rw (pairs-matched y) at s)

    pub pairs-in-line : InLine n given × InLine n taken
    pairs-in-line = let p = pairs-of-sides in (comes-in-line p.gives.comes, comes-in-line p.takes.comes)

    pub pairs-inside : (place_in given < n) × (place_in taken < n)
    pairs-inside = let (a, b) = pairs-in-line in (in_place a, in_place b)
