-- Check's number is 0 exactly for the bytes of a leftmost derivation of an accepted line: bytes and steps are each other's, and the
-- plan test decides the rest. So what Read may write passes Check, and what passes Check derives the line in 2n − 1 steps.
use Prim.Native.Nat.{ℕ}
use mathlib.Core.Path.{◌≡◌, refl, sym, ◌∙◌, ap}
use mathlib.Core.Bool.{true, false≢true}
use mathlib.Core.List.{List, [], ◌∷◌, map}
use mathlib.Core.Option.{Option, none, some}
use lib.ListN.{length}
use Rattle.grammar.specs.Input.{Holds}
use Rattle.grammar.specs.Rewriting.{word, start}
use Rattle.grammar.specs.Plan.{PlanStep, plan_step, production_in, LeftmostSteps}
use Rattle.grammar.proofs.StandsLaws.{none-some, some_same}
use Rattle.grammar.proofs.Leftmost.{plan-rewrites, rewriting-plans}
use Rattle.grammar.proofs.PlanTest.{passes-sound, passes-complete}
use Rattle.grammar.proofs.PlanSize.{derivation-length}
use Rattle.grammar.proofs.Existence.{plan-derivable}
use Rattle.layout.specs.Card.{grammar_of}
use Rattle.layout.specs.Line.{words_of, Spelled}
use Rattle.layout.specs.Steps.{plan_bytes, steps_of, and_step, plan_steps}
use Rattle.layout.specs.Answers.{input_number, words_in, line_test, Derives, HasDerivation, plan_passes, check_number}
use Rattle.layout.proofs.Accepting.{check-accepts, check-of-plan}
use Rattle.layout.proofs.CardLaws.{card-one-sided}
use Rattle.layout.proofs.Spellings.{spelled-stand, stand-spelled}
use Rattle.layout.proofs.Reading.{has-derivation}

pub steps-bytes : (plan : List PlanStep) → steps_of (plan_bytes plan) ≡ some plan
steps-bytes [] = refl
steps-bytes (plan_step p i k j ∷ plan) = ap (and_step (plan_step p i k j)) (steps-bytes plan)

and-some : (st : PlanStep) (o : Option (List PlanStep)) {plan : List PlanStep} → and_step st o ≡ some plan
    → (rest : List PlanStep) × (o ≡ some rest) × (plan ≡ st ∷ rest)
and-some st none e = absurd (none-some e)
and-some st (some rest) e = (rest, refl, sym (some_same e))

pub bytes_steps : (bytes : List ℕ) {plan : List PlanStep} → steps_of bytes ≡ some plan → bytes ≡ plan_bytes plan
bytes_steps [] e = ap plan_bytes (some_same e)
bytes_steps (p ∷ []) e = absurd (none-some e)
bytes_steps (p ∷ i ∷ []) e = absurd (none-some e)
bytes_steps (p ∷ i ∷ k ∷ []) e = absurd (none-some e)
bytes_steps (p ∷ i ∷ k ∷ j ∷ bytes) e =
    let (rest, e₁, e₂) = and-some (plan_step p i k j) (steps_of bytes) e in
    ap (λ (l : List ℕ). p ∷ i ∷ k ∷ j ∷ l) (bytes_steps bytes e₁) ∙ sym (ap plan_bytes e₂)

passing : (card line : List ℕ) (o : Option (List PlanStep)) → plan_passes card line o ≡ true
    → (plan : List PlanStep) × (o ≡ some plan) × Derives card line plan
passing card line none e = absurd (false≢true e)
passing card line (some plan) e = (plan, refl, passes-sound (grammar_of card) (line_test card line) (words_in line) e)

-- What passes is a leftmost derivation, every byte of it, of an accepted line.
pub check_sound : (card line bytes : List ℕ) → check_number card line bytes ≡ 0
    → (input_number card line ≡ 0) × (plan : List PlanStep) × (bytes ≡ plan_bytes plan) × Derives card line plan
check_sound card line bytes e =
    let (e₁, e₂) = check-accepts card line bytes e in
    let (plan, e₃, d) = passing card line (steps_of bytes) e₂ in
    (e₁, plan, bytes_steps bytes e₃, d)

-- And every such derivation passes: so does what Read writes.
pub check-complete : (card line : List ℕ) (plan : List PlanStep) → input_number card line ≡ 0 → Derives card line plan
    → check_number card line (plan_bytes plan) ≡ 0
check-complete card line plan e d =
    check-of-plan card line (plan_bytes plan) e
    ∙ rw (steps-bytes plan, passes-complete (grammar_of card) (line_test card line) (words_in line) d)

-- A plan that passes has 2n − 1 steps, and the line a derivation.
pub derives-length : (card line : List ℕ) {plan : List PlanStep} → Derives card line plan → length plan ≡ plan_steps (words_in line)
derives-length card line d = derivation-length (grammar_of card) (Holds (line_test card line)) (card-one-sided card) d

pub derives-derivation : (card line : List ℕ) {plan : List PlanStep} → Derives card line plan → HasDerivation card line
derives-derivation card line d =
    has-derivation card line (plan-derivable (grammar_of card) (Holds (line_test card line)) (words_in line) d)

-- A plan is measured with the same definition (document 02, Paper 2): its productions, each replacing the leftmost nonterminal, lead
-- from the start to a list of words whose spellings are the line's; and every such rewriting has its plan.
pub derives-words : (card line : List ℕ) {plan : List PlanStep} → Derives card line plan
    → (numbers : List ℕ) × Spelled card numbers (words_of line)
    × LeftmostSteps (grammar_of card) (start ∷ []) (map production_in plan) (map word numbers)
derives-words card line d =
    let (numbers, stand, steps) = plan-rewrites (grammar_of card) (Holds (line_test card line)) d in
    (numbers, stand-spelled card (words_of line) stand, steps)

pub words-derive : (card line : List ℕ) {numbers ps : List ℕ} → Spelled card numbers (words_of line)
    → LeftmostSteps (grammar_of card) (start ∷ []) ps (map word numbers)
    → (plan : List PlanStep) × Derives card line plan × (map production_in plan ≡ ps)
words-derive card line s steps =
    rewriting-plans (grammar_of card) (Holds (line_test card line)) steps (spelled-stand card s)
