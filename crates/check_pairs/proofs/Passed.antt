-- What a plan that passes Check has: an accepted card, bytes that are those of its steps, from any step on, takes that are paced, and sides
-- with words.
-- From Check's theorems and the machine on goals; what is said of the rest of a plan is by induction on where it starts.
use Prim.Native.Nat.{ℕ, zero, suc, ◌+◌, ◌*◌, ◌≤◌}
use native.Mathlib.Omega.{arith}
use mathlib.Core.Path.{◌≡◌, refl, sym, ◌∙◌, ap, subst}
use mathlib.Core.List.{List, [], ◌∷◌}
use mathlib.Core.Option.{Option, none, some}
use lib.ListN.{length, drop, get_elem?}
use lib.Seq.{drop-nil}
use Rattle.grammar.specs.Rewriting.{Rule}
use Rattle.grammar.specs.Lists.{Stands, here, there}
use Rattle.grammar.specs.Plan.{PlanStep, plan_step, production_in}
use Rattle.grammar.specs.Pairs.{Stretch, side_of}
use Rattle.grammar.proofs.StandsLaws.{some_same, get_elem-stands}
use Rattle.grammar.specs.Matching.{matched}
use Rattle.grammar.proofs.PairsLaws.{matched-length, pairs-matched}
use Rattle.grammar.proofs.Sides.{InLine, in_line, comes-in-line, side-comes}
use Rattle.layout.specs.Card.{card_number, grammar_of}
use Rattle.layout.specs.Steps.{plan_bytes, steps_of, and_step}
use Rattle.layout.specs.Answers.{input_number, words_in, line_test, Derives, check_number, plan_pairs}
use Rattle.layout.proofs.CardLaws.{card-one-sided}
use Rattle.layout.proofs.Checking.{check_sound, steps-bytes}
use Rattle.layout.proofs.Accepting.{AcceptedLine, accepted-line}
use Rattle.goals.specs.Shown.{step_from, StepAt}
use Rattle.goals.specs.declared.replay.StepBytes.{StepBytes}
use Rattle.goals.proofs.GoalsTest.{goals-complete}
use Rattle.goals.proofs.GoalsTiled.{tiled-start}
use Rattle.goals.proofs.ReplayLaws.{steps-from}
use Rattle.check_pairs.specs.Matching.{HasWords}
use Rattle.check_pairs.proofs.Paced.{Paced, paced_none, paced, run-paced}

-- The steps of a plan's bytes.
abbrev steps_else : Option (List PlanStep) → List PlanStep
steps_else none = []
steps_else (some steps) = steps

abbrev pub plan_of : List ℕ → List PlanStep
plan_of bytes = steps_else (steps_of bytes)

-- Each step's side has words.
abbrev pub SidesHaveWords : List Rule → List PlanStep → Type 0
SidesHaveWords g plan = (m : ℕ) (st : PlanStep) (R : Rule) → Stands plan m st → get_elem? g (production_in st) ≡ some R → HasWords (side_of R st)

in-line-words : {n : ℕ} {side : Stretch} → InLine n side → HasWords side
in-line-words (in_line l k) = l

pub record Passed (card plan : List ℕ) : Type 0 where
  pub accepted : card_number card ≡ 0
  pub bytes : plan ≡ plan_bytes (plan_of plan)
  pub pairs : plan_pairs card (steps_of plan) ≡ matched (grammar_of card) (plan_of plan)
  pub pace : Paced (grammar_of card) (plan_of plan)
  pub sides : SidesHaveWords (grammar_of card) (plan_of plan)

pub passed : (card line plan : List ℕ) → check_number card line plan ≡ 0 → Passed card plan
passed card line plan e =
    let (e₁, steps, e₂, d) = check_sound card line plan e in
    go steps e₁ e₂ d (ap steps_of e₂ ∙ steps-bytes steps)
  where
    go : (steps : List PlanStep) → input_number card line ≡ 0 → plan ≡ plan_bytes steps → Derives card line steps → steps_of plan ≡ some steps
        → Passed card plan
    go steps e₁ e₂ d s =
        let a : AcceptedLine card line = accepted-line card line e₁ in
        let z : plan_of plan ≡ steps = ap steps_else s in
        let g = grammar_of card in
        let one = card-one-sided card in
        let n = words_in line in
        let p = run-paced g (line_test card line) one n a.most_words steps 0 _ (tiled-start n a.some_words) (goals-complete g (line_test card line) one n d) in
        record {
          accepted = a.card_accepted;
          bytes = e₂ ∙ ap plan_bytes (sym z);
          pairs = ap (plan_pairs card) s ∙ (pairs-matched d ∙ ap (matched g) (sym z));
          pace = subst (Paced g) (sym z) p;
          sides = subst (SidesHaveWords g) (sym z)
              (λ m st R t e. in-line-words (comes-in-line (side-comes d t (get_elem-stands g (production_in st) e))));
        }

-- The rest of a plan from step s on.
drop-bytes : (steps : List PlanStep) (s : ℕ) → drop (4 * s) (plan_bytes steps) ≡ plan_bytes (drop s steps)
drop-bytes steps zero = refl
drop-bytes [] (suc s) = drop-nil (4 * suc s)
drop-bytes (plan_step p i k j ∷ steps) (suc s) =
    let e : 4 * suc s ≡ suc (suc (suc (suc (4 * s)))) = omega arith in rw e (drop-bytes steps s)

pub suffix-step : (plan : List ℕ) (steps : List PlanStep) (s : ℕ) (st : StepBytes) → plan ≡ plan_bytes steps → 4 * s + 4 ≤ length plan
    → StepAt plan (4 * s) st → drop s steps ≡ step_from st ∷ drop (suc s) steps
suffix-step plan steps s st e h x =
    let here : steps_of (drop (4 * s) plan) ≡ some (drop s steps) =
    ap (λ (l : List ℕ). steps_of (drop (4 * s) l)) e ∙ (ap steps_of (drop-bytes steps s) ∙ steps-bytes (drop s steps)) in
    let q : 4 * s + 4 ≡ 4 * suc s = omega arith in
    let there : steps_of (drop (4 * s + 4) plan) ≡ some (drop (suc s) steps) =
    rw q (ap (λ (l : List ℕ). steps_of (drop (4 * suc s) l)) e ∙ (ap steps_of (drop-bytes steps (suc s)) ∙ steps-bytes (drop (suc s) steps))) in
    some_same (sym here ∙ (steps-from plan (4 * s) st h x ∙ ap (and_step (step_from st)) there))

pub paced-drop : {g : List Rule} {steps : List PlanStep} (s : ℕ) → Paced g steps → Paced g (drop s steps)
paced-drop zero x = x
paced-drop (suc s) paced_none = paced_none
paced-drop (suc s) (paced e l w x) = paced-drop s x

pub matched-drop : (g : List Rule) (steps : List PlanStep) (s : ℕ) → length (matched g (drop s steps)) ≤ length (matched g steps)
matched-drop g steps zero = omega arith
matched-drop g [] (suc s) = omega arith
matched-drop g (plan_step p i k j ∷ steps) (suc s) =
    omega (arith, matched-drop g steps s, matched-length g steps, matched-length g (plan_step p i k j ∷ steps))

pub drop-stands : {st : PlanStep} {rest : List PlanStep} (steps : List PlanStep) (s : ℕ) → drop s steps ≡ st ∷ rest → Stands steps s st
drop-stands steps zero e = rw e here
drop-stands [] (suc s) e = absurd (omega (arith, ap length e))
drop-stands (x ∷ steps) (suc s) e = there (drop-stands steps s e)
