-- Rows of a table of lines, each computed from a card's bytes and the line's bytes. Of a line that is read a row speaks of every leftmost
-- derivation, so of whatever plan Read writes: they are listed, and the list is complete.
use Prim.Native.Nat.{ℕ}
use native.Mathlib.Omega.{arith}
use mathlib.Core.Path.{◌≡◌, subst}
use mathlib.Core.List.Memᴰ
use mathlib.Core.List.{List, [], ◌∷◌, map, Memᴰ}
use Rattle.grammar.specs.Plan.{PlanStep}
use Rattle.grammar.specs.Pairs.{pairs_of}
use Rattle.grammar.proofs.ListLaws.{map-in}
use Rattle.grammar.proofs.EveryPlan.{every_plan, every-plan}
use Rattle.layout.specs.Card.{grammar_of}
use Rattle.layout.specs.Steps.{pairs_bytes, plan_steps}
use Rattle.layout.specs.Answers.{words_in, line_test, ReadAnswer, read_answer, Derives, check_number, pairs_answer, PairsAnswer}
use Rattle.layout.proofs.Checking.{derives-length}

module _ (card : List ℕ) where
  -- With room enough.
  abbrev answered : List ℕ → ReadAnswer
  answered line = read_answer card line 64000 188

  abbrev paired : List ℕ → List ℕ → PairsAnswer
  paired line plan = pairs_answer card line plan 48

  abbrev pairs_in : List PlanStep → List ℕ
  pairs_in steps = pairs_bytes (pairs_of (grammar_of card) steps)

  -- A line that is read: Read's answer; the pairs of every leftmost derivation of it; and a plan by its bytes, which Check passes and whose
  -- pairs Pairs writes.
  pub record ReadRow (line plan : List ℕ) (words items steps : ℕ) (pairs : List ℕ) : Type 0 where
    pub answer : answered line ≡ record { number = 0; words = words; items = items; steps = steps }
    pub each : (derivation : List PlanStep) → Derives card line derivation → pairs_in derivation ≡ pairs
    pub passes : check_number card line plan ≡ 0
    pub accepted : (paired line plan).number ≡ 0
    pub written : pairs_bytes (paired line plan).pairs ≡ pairs

  -- A line that is refused: Read's answer, and Check's and Pairs' number for a plan.
  pub record RefusedRow (line plan : List ℕ) (number words items check : ℕ) : Type 0 where
    pub answer : answered line ≡ record { number = number; words = words; items = items; steps = 0 }
    pub fails : check_number card line plan ≡ check
    pub unpaired : paired line plan ≡ record { number = check; pairs = [] }

  -- The pairs of each of the listed derivations; every derivation's are among them.
  abbrev pairs_of_each : List ℕ → List (List ℕ)
  pairs_of_each line = map pairs_in (every_plan (grammar_of card) (line_test card line) (plan_steps (words_in line)) (words_in line))

  pub each-pairs : (line : List ℕ) {pairs : List ℕ} → pairs_of_each line ≡ pairs ∷ [] → (derivation : List PlanStep)
      → Derives card line derivation → pairs_in derivation ≡ pairs
  each-pairs line e derivation d =
      Memᴰ.eq_of_singleton (subst (Memᴰ (pairs_in derivation)) e (map-in pairs_in
      (every-plan (grammar_of card) (line_test card line) d (plan_steps (words_in line)) (omega (arith, derives-length card line d)))))
