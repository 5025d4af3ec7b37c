-- A plan of n words has at most (n − 1) / 2 pairs, where every rule is a word or has one side. A word step leaves one nonterminal fewer
-- to come and any other step one more, so of the 2n − 1 steps n − 1 are no words; and a pair takes two of those, its give and its take.
use Prim.Native.Nat.{ℕ, ◌+◌, ◌*◌, ◌≤◌}
use native.Mathlib.Omega.{arith}
use mathlib.Core.Path.{◌≡◌}
use mathlib.Core.List.{List}
use lib.ListN.{length}
use Rattle.grammar.specs.Rewriting.{Rule, Spine, Action, Take, Keep, Give, OneSide, is_first, is_last, OneSided}
use Rattle.grammar.specs.Plan.{PlanStep, LeftmostDerivation}
use Rattle.grammar.specs.Pairs.{pairs_of}
use Rattle.grammar.specs.Matching.{one_give, one_take, give_steps, take_steps}
use Rattle.grammar.proofs.StandsLaws.{stands-get_elem}
use Rattle.grammar.proofs.PlanSize.{plan-length}
use Rattle.grammar.proofs.PlanRuns.{spine_depths, Runs, over, word_step, spine_step, yields-runs}
use Rattle.grammar.proofs.PairsLaws.{gives-count, takes_gives}

-- No action both gives and takes.
one-action : (a : Action) → one_give a + one_take a ≤ 1
one-action (Take γ) = omega arith
one-action Keep = omega arith
one-action (Give γ) = omega arith

spine-length : {A D : ℕ} {a : Action} {before after : List ℕ} (n : ℕ) (ns : List ℕ) → OneSide (Spine A a before D after)
    → length (spine_depths before n after ns) ≡ 2 + length ns
spine-length n ns is_first = omega arith
spine-length n ns is_last = omega arith

-- Each step that gives or takes needs a word step of its own later, and so does each nonterminal to come.
runs-actions : {g : List Rule} {ns : List ℕ} {plan : List PlanStep} → OneSided g → Runs g ns plan
    → 2 * (give_steps g plan + take_steps g plan) + length ns ≤ length plan
runs-actions one over = omega arith
runs-actions one (word_step s r) = rw (stands-get_elem s) (omega (arith, runs-actions one r))
runs-actions one (spine_step {p = p} {n' = n'} {a = a} {ns = ns} s x r) =
    rw (stands-get_elem s) (omega (arith, one-action a, spine-length n' ns (one p _ s), runs-actions one r))

pub pairs-half : {g : List Rule} {at : ℕ → ℕ → Type 0} {n : ℕ} {plan : List PlanStep} → OneSided g → LeftmostDerivation g at n plan
    → 2 * length (pairs_of g plan) + 1 ≤ n
pairs-half {g} {at} one y =
    omega (arith, gives-count y, takes_gives y, runs-actions one (yields-runs y), plan-length g at one y)
