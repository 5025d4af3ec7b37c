-- The loop over a plan's steps: the struct shows where the model stands, and the rest of the bytes passes from there exactly when all of
-- them pass from the start. Each turn takes four bytes off the rest and one step off the plan that they write.
use Prim.Native.Nat.{ℕ, suc, ◌+◌, ◌*◌, ◌/◌, ◌%◌, ◌≤◌, ◌<◌}
use native.Mathlib.Numerals.{add-one, add-two, add-three, add-four}
use native.Mathlib.Omega.{arith}
use mathlib.Core.Path.{◌≡◌, refl, sym, ◌∙◌, ap}
use mathlib.Core.Bool.{Bool, true, false}
use mathlib.Core.List.{List, [], ◌∷◌}
use mathlib.Core.Option.{Option, none, some}
use lib.Bits.{bit_and, and_mask}
use lib.Dec.{eqb}
use lib.ListN.{length, drop, get_or, length-append, drop_of_length-le}
use lib.Seq.{drop-cons}
use borrow.Author.Tests.{eq-eqb, ne_eqb}
use Rattle.grammar.specs.Rewriting.{Rule}
use Rattle.places.specs.Places.{word_test}
use Rattle.grammar.specs.Plan.{PlanStep, plan_step}
use Rattle.layout.specs.Card.{grammar_of}
use Rattle.layout.specs.Steps.{and_step, steps_of}
use Rattle.goals.specs.Goals.{Goal, goal, Standing, stuck, standing, all_reached, next, goals_run, goals_start, replay_from}
use Rattle.goals.specs.Shown.{no_goal, indices_of, entries_of, last_entry, started, Shows, ShowsAt, Within, step_from, StepAt, Replayed}
use Rattle.goals.specs.declared.replay.Goal as code
use Rattle.goals.specs.declared.replay.Goals.{Goals}
use Rattle.goals.specs.declared.replay.StepBytes.{StepBytes}
use Rattle.goals.proofs.GoalsTiled.{Placed, PlacedAt, placed-start, placed-few, next-placed}
use Rattle.goals.proofs.ShownLaws.{tops-length, first-entry}

-- Four bytes at a place.
pub drop-four : (l : List ℕ) (at : ℕ) → at + 4 ≤ length l
    → drop at l ≡ get_or l at 0 ∷ get_or l (at + 1) 0 ∷ get_or l (at + 2) 0 ∷ get_or l (at + 3) 0 ∷ drop (at + 4) l
drop-four l at h =
    rw (add-one, add-two, add-three, add-four)
    (drop-cons l at 0 (omega arith)
    ∙ ap (λ (t : List ℕ). get_or l at 0 ∷ t)
    (drop-cons l (suc at) 0 (omega arith)
    ∙ ap (λ (t : List ℕ). get_or l (suc at) 0 ∷ t)
    (drop-cons l (suc (suc at)) 0 (omega arith)
    ∙ ap (λ (t : List ℕ). get_or l (suc (suc at)) 0 ∷ t) (drop-cons l (suc (suc (suc at))) 0 (omega arith)))))

pub steps-from : (plan : List ℕ) (at : ℕ) (st : StepBytes) → at + 4 ≤ length plan → StepAt plan at st
    → steps_of (drop at plan) ≡ and_step (step_from st) (steps_of (drop (at + 4) plan))
steps-from plan at st h s =
    ap steps_of (drop-four plan at h) ∙ rw (← s.number, ← s.start, ← s.split, ← s.end)

-- Bytes whose number is no multiple of 4 are no plan.
ragged : (l : List ℕ) → (length l % 4 ≡ 0 → ⊥) → steps_of l ≡ none
ragged [] h = absurd (h refl)
ragged (a ∷ []) h = refl
ragged (a ∷ b ∷ []) h = refl
ragged (a ∷ b ∷ c ∷ []) h = refl
ragged (a ∷ b ∷ c ∷ d ∷ l) h = ap (and_step (plan_step a b c d)) (ragged l (λ e. h (omega arith)))

run-stuck : (g : List Rule) (at : ℕ → ℕ → Bool) (plan : List PlanStep) → goals_run g at plan stuck ≡ false
run-stuck g at [] = refl
run-stuck g at (st ∷ plan) = run-stuck g at plan

stuck-from : (g : List Rule) (at : ℕ → ℕ → Bool) (o : Option (List PlanStep)) → replay_from g at stuck o ≡ false
stuck-from g at none = refl
stuck-from g at (some plan) = run-stuck g at plan

step_from_lem : (g : List Rule) (at : ℕ → ℕ → Bool) (S : Standing) (st : PlanStep) (o : Option (List PlanStep))
    → replay_from g at S (and_step st o) ≡ replay_from g at (next g at st S) o
step_from_lem g at S st none = refl
step_from_lem g at S st (some plan) = refl

entries-length : (goals : List Goal) → length (entries_of goals) ≡ length goals
entries-length [] = refl
entries-length (goal A s j ∷ rest) = ap suc (entries-length rest)

count-is : {g : Goals} {goals : List Goal} → Shows g goals → g.count ≡ length goals
count-is {g} {goals} x = omega (arith, tops-length no_goal g.goals g.count, ap length x.shown_goals, entries-length goals)

top-is : {g : Goals} {goals : List Goal} → Shows g goals → g.top ≡ length (indices_of goals)
top-is {g} x = omega (arith, tops-length 0 g.stack g.top, ap length x.shown_stack)

-- A base is below the stack that is shown.
base-below : (g : Goals) (goals : List Goal) → Shows g goals → 0 < g.count → (last_entry g).base ≤ g.top
base-below g [] x h = absurd (omega (arith, count-is x))
base-below g (goal A s j ∷ rest) x h =
    omega (arith, ap (λ (y : code.Goal). y.base) (first-entry g A j s rest x), top-is x, length-append s (indices_of rest))

count-reached : (count i : ℕ) (goals : List Goal) → count ≡ length goals → eqb count 0 ≡ all_reached (standing i goals)
count-reached count i [] e = eq-eqb count 0 e
count-reached count i (x ∷ rest) e = ne_eqb count 0 (λ z. omega arith)

module _ (card places : List ℕ) (n : ℕ) (plan : List ℕ) where
  abbrev passes : Standing → List ℕ → Bool
  passes S bytes = replay_from (grammar_of card) (word_test places) S (steps_of bytes)

  abbrev Answer : Bool
  Answer = passes (goals_start n) plan

  -- What the loop keeps, at step k.
  pub record Replaying (g : Goals) (k : ℕ) : Type 0 where
    pub goals : List Goal
    pub tiles : Placed g.place n goals
    pub shows : Shows g goals
    pub same : passes (standing g.place goals) (drop (4 * k) plan) ≡ Answer

  pub replay-ragged : (bit_and (length plan) 3 ≡ 0 → ⊥) → false ≡ Answer
  replay-ragged h =
      ap (replay_from (grammar_of card) (word_test places) (goals_start n))
      (sym (ragged plan (λ e. h (and_mask (length plan) 2 ∙ e))))

  pub replay-start : Replaying (started n) 0
  replay-start = record {
    goals = goal 0 [] n ∷ [];
    tiles = placed-start n;
    shows = record { all_goals = refl; all_stack = refl; shown_goals = refl; shown_stack = refl };
    same = refl;
  }

  module _ (g : Goals) (k : ℕ) (x : Replaying g k) where
    -- The goals and indices are few, as they tile the line, or are one goal over none.
    pub replay-within : n ≤ 24 → Within g
    replay-within h =
        let (few₁, few₂, few₃) = placed-few h x.tiles in
        let c = count-is x.shows in
        let t = top-is x.shows in
        record {
          few_goals = omega arith;
          few_indices = omega arith;
          in_line = λ p. few₃ (omega arith);
          based = base-below g x.goals x.shows;
        }

    -- All bytes are read.
    pub replay-over : bit_and (length plan) 3 ≡ 0 → length plan / 4 ≤ k → eqb g.count 0 ≡ Answer
    replay-over h l =
        count-reached g.count g.place x.goals (count-is x.shows)
        ∙ (ap (passes (standing g.place x.goals)) (sym (drop_of_length-le plan (omega (arith, and_mask (length plan) 2))))
        ∙ x.same)

    module _ (st : StepBytes) (here : 4 * k + 4 ≤ length plan) (s : StepAt plan (4 * k) st) (g' : Goals) where
      abbrev Then : Standing
      Then = next (grammar_of card) (word_test places) (step_from st) (standing g.place x.goals)

      rest-same : passes Then (drop (4 * k + 4) plan) ≡ Answer
      rest-same =
          sym (step_from_lem (grammar_of card) (word_test places) (standing g.place x.goals) (step_from st) (steps_of (drop (4 * k + 4) plan)))
          ∙ (ap (replay_from (grammar_of card) (word_test places) (standing g.place x.goals)) (sym (steps-from plan (4 * k) st here s))
          ∙ x.same)

      pub replay-stuck : Replayed card places st g g' false → false ≡ Answer
      replay-stuck y =
          sym (stuck-from (grammar_of card) (word_test places) (steps_of (drop (4 * k + 4) plan)))
          ∙ (ap (λ (S : Standing). passes S (drop (4 * k + 4) plan)) (sym (y.told x.goals x.shows)) ∙ rest-same)

      pub replay-on : Replayed card places st g g' true → Replaying g' (k + 1)
      replay-on y =
          go Then (y.told x.goals x.shows)
          (next-placed (grammar_of card) (word_test places) (step_from st) n g.place x.goals x.tiles) rest-same
        where
          go : (S : Standing) → ShowsAt g' S → PlacedAt n S → passes S (drop (4 * k + 4) plan) ≡ Answer → Replaying g' (k + 1)
          go stuck w t d = absurd w
          go (standing i goals) w t d =
              let q : 4 * (k + 1) ≡ 4 * k + 4 = omega arith in
              record { goals = goals; tiles = rw w.0 t; shows = w.1; same = rw (w.0, q) d }
