-- Document 02, Paper 5, in bytes: the plan of a line is the first of all its plans; a line has no two, and has one where it has a derivation.
-- The theorems are grammar's; a card's rules have one side, and the line is read through its test.
use Prim.Native.Nat.{ℕ, ◌*◌}
use mathlib.Core.Path.{◌≡◌, sym, ◌∙◌, ap}
use mathlib.Core.Bool.{Bool, true, false}
use mathlib.Core.List.{List, ◌++◌, map}
use lib.ListN.{length, drop}
use Rattle.grammar.specs.Lists.{NotAfter}
use Rattle.grammar.specs.Input.{Holds}
use Rattle.grammar.specs.Rewriting.{Derivation}
use Rattle.grammar.specs.Plan.{PlanStep, production_in}
use Rattle.grammar.specs.FirstPlan.{Before, FirstPlan}
use Rattle.grammar.specs.Trees.{trees_of, preorder}
use Rattle.grammar.proofs.Existence.{derivable-plan}
use Rattle.grammar.proofs.FirstPlanLaws.{first-plan-unique, first-plan-exists}
use Rattle.grammar.proofs.Trees.{told-against-every}
use Rattle.layout.specs.Card.{grammar_of}
use Rattle.layout.specs.Line.{words_of, Spelled}
use Rattle.layout.specs.Steps.{plan_bytes}
use Rattle.layout.specs.Answers.{input_number, words_in, line_test, Derives, HasDerivation, PlanFor, PlanWritten, PlanAfter}
use Rattle.layout.proofs.CardLaws.{card-one-sided}
use Rattle.layout.proofs.Spellings.{spelled-stand}
use Rattle.layout.proofs.Reading.{derivation-stands}
use Rattle.layout.proofs.Checking.{check-complete, derives-length}

-- The first plan of a line is its plan, and written at the start of a room it is what Read promises.
abbrev IsFirst : List ℕ → List ℕ → List PlanStep → Type 0
IsFirst card line plan = FirstPlan (grammar_of card) (Holds (line_test card line)) (words_in line) plan

pub plan-for : (card line : List ℕ) (plan : List PlanStep) → input_number card line ≡ 0 → IsFirst card line plan → PlanFor card line plan
plan-for card line plan e f =
    record { first = f; steps = derives-length card line f.derives; passes = check-complete card line plan e f.derives }

pub plan-written : (card line : List ℕ) {before after : List ℕ} (plan : List PlanStep) → input_number card line ≡ 0
    → IsFirst card line plan → after ≡ plan_bytes plan ++ drop (4 * length plan) before → PlanWritten card line before after
plan-written card line plan e f w = record { plan = plan; is_plan = plan-for card line plan e f; written = w }

-- A line has no two plans: so what Read leaves in its plan room is decided by card, line and the room as it was.
pub one-plan : {card line : List ℕ} {plan other : List PlanStep} → PlanFor card line plan → PlanFor card line other → plan ≡ other
one-plan a b = first-plan-unique a.first b.first

written_once : {card line before after after' : List ℕ} → PlanWritten card line before after → PlanWritten card line before after'
    → after ≡ after'
written_once {before = before} a b =
    a.written ∙ ap (λ (plan : List PlanStep). plan_bytes plan ++ drop (4 * length plan) before) (one-plan a.is_plan b.is_plan)
    ∙ sym b.written

pub plan-room-decided : (card line before : List ℕ) (read : Bool) {after after' : List ℕ} → PlanAfter card line read before after
    → PlanAfter card line read before after' → after ≡ after'
plan-room-decided card line before true a b = written_once a b
plan-room-decided card line before false a b = a ∙ sym b

-- An accepted line that has a derivation has its plan.
pub has-plan : (card line : List ℕ) → input_number card line ≡ 0 → HasDerivation card line → (plan : List PlanStep) × PlanFor card line plan
has-plan card line e d =
    let g = grammar_of card in
    let n = words_in line in
    let some-plan = derivable-plan g (Holds (line_test card line)) n (derivation-stands card line d) in
    let (plan, first) = first-plan-exists g (line_test card line) n (card-one-sided card) some-plan.1 in
    (plan, plan-for card line plan e first)

-- The plan is told against every derivation of the line: against every leftmost one, and against one in any order through the leftmost one
-- with the same tree, whose productions are the tree's from above and from the left.
pub after-no-other : {card line : List ℕ} {plan : List PlanStep} → PlanFor card line plan → (other : List PlanStep) → Derives card line other
    → NotAfter Before plan other
after-no-other p other d = p.first.first other d

pub after-no-derivation : {card line : List ℕ} {plan : List PlanStep} → PlanFor card line plan → {numbers : List ℕ}
    → Spelled card numbers (words_of line) → (d : Derivation (grammar_of card) numbers)
    → (other : List PlanStep) × Derives card line other × (map production_in other ≡ preorder (trees_of d)) × NotAfter Before plan other
after-no-derivation {card} {line} p s d =
    told-against-every (grammar_of card) (Holds (line_test card line)) (words_in line) p.first (spelled-stand card s) d
