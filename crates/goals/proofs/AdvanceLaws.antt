-- One step of the code is one step of the model, whatever goals the struct shows: at each way that the code refuses the model is
-- stuck, by the test that refuses, and where the code goes on the model replaces the first goal.
use Prim.Native.Nat.{ℕ, zero, suc, ◌+◌, ◌-◌, ◌≤◌, ◌<◌}
use native.Mathlib.Omega.{arith}
use mathlib.Core.Path.{◌≡◌, refl, sym, ◌∙◌, ap}
use mathlib.Core.Bool.{Bool, true, false}
use mathlib.Core.List.{List, [], ◌∷◌, ◌++◌, map}
use mathlib.Core.Option.{Option, none, some}
use lib.Dec.{eqb, ltb}
use Rattle.layout.proofs.TestLaws.{both}
use Rattle.goals.proofs.GoalsTest.{pair_fits}
use lib.ListN.{length, get_or, get_elem?, length-append}
use borrow.Author.Tests.{eq-eqb, ne_eqb, ltb-true}
use Rattle.std.specs.Prelude.{Some}
use Rattle.card.specs.declared.Production.{Production}
use Rattle.card.specs.Productions.{rule_from}
use Rattle.grammar.specs.Rewriting.{Rule, Lexical, Spine, Action, Take, Keep, Give}
use Rattle.places.specs.Places.{word_test}
use Rattle.grammar.specs.Plan.{plan_step}
use Rattle.layout.specs.Bytes.{counted}
use Rattle.layout.specs.Card.{production, production_count, grammar_of}
use Rattle.goals.specs.Goals.{Goal, goal, stuck, standing, top_index, action_fits, fits, replaced, turn, next}
use Rattle.goals.specs.Shown.{in_set, Within, Room, CanTake, action_of, no_goal, indices_of, Shows, ShowsAt, replaced_in, top_of, first_among, first_of, fits_top, step_from, Replayed}
use Rattle.goals.specs.declared.replay.Goal as code
use Rattle.goals.specs.declared.replay.Goals.{Goals}
use Rattle.goals.specs.declared.replay.StepBytes.{StepBytes}
use Rattle.goals.specs.declared.replay.Top.{Top}
use Rattle.goals.proofs.ShownLaws.{tops-length, first-entry, replaced-shows}

-- The production of a number, where the card counts it.
counted-rule : (f : ℕ → Rule) (k n p : ℕ) → p < n → get_elem? (map f (counted k n)) p ≡ some (f (k + p))
counted-rule f k zero p h = absurd (omega arith)
counted-rule f k (suc n) zero h = let e : k + 0 ≡ k = omega arith in rw e
counted-rule f k (suc n) (suc p) h =
    let e : suc k + p ≡ k + suc p = omega arith in counted-rule f (suc k) n p (omega arith) ∙ rw e

counted_none : (f : ℕ → Rule) (k n p : ℕ) → n ≤ p → get_elem? (map f (counted k n)) p ≡ none
counted_none f k zero p h = refl
counted_none f k (suc n) zero h = absurd (omega arith)
counted_none f k (suc n) (suc p) h = counted_none f (suc k) n p (omega arith)

pub rule-there : (card : List ℕ) (p : ℕ) → p < production_count card → get_elem? (grammar_of card) p ≡ some (production card p)
rule-there card p h = let e : 0 + p ≡ p = omega arith in counted-rule (production card) 0 (production_count card) p h ∙ rw e

pub rule-missing : (card : List ℕ) (p : ℕ) → production_count card ≤ p → get_elem? (grammar_of card) p ≡ none
rule-missing card p h = counted_none (production card) 0 (production_count card) p h

-- The model's step.
turn-none : (at : ℕ → ℕ → Bool) (o : Option Rule) (p i' k j' i : ℕ) (goals : List Goal) → o ≡ none
    → turn at o (plan_step p i' k j') i goals ≡ stuck
turn-none at o p i' k j' i [] e = refl
turn-none at o p i' k j' i (x ∷ rest) e = rw e

turn-start : (at : ℕ → ℕ → Bool) (o : Option Rule) (p i' k j' i : ℕ) (goals : List Goal) → (i' ≡ i → ⊥)
    → turn at o (plan_step p i' k j') i goals ≡ stuck
turn-start at o p i' k j' i [] h = refl
turn-start at none p i' k j' i (x ∷ rest) h = refl
turn-start at (some R) p i' k j' i (goal A s j ∷ rest) h = simp (ne_eqb i' i h)

turn-end : (at : ℕ → ℕ → Bool) (o : Option Rule) (p i k j' A j : ℕ) (s : List ℕ) (rest : List Goal) → (j' ≡ j → ⊥)
    → turn at o (plan_step p i k j') i (goal A s j ∷ rest) ≡ stuck
turn-end at none p i k j' A j s rest h = refl
turn-end at (some R) p i k j' A j s rest h = simp (eq-eqb i i refl, ne_eqb j' j h)

turn-misfit : (at : ℕ → ℕ → Bool) (o : Option Rule) (R : Rule) (p i k A j : ℕ) (s : List ℕ) (rest : List Goal) → o ≡ some R
    → fits R (at i) A (length s) (top_index s) i k j ≡ false → turn at o (plan_step p i k j) i (goal A s j ∷ rest) ≡ stuck
turn-misfit at o R p i k A j s rest d f = rw d (simp (eq-eqb i i refl, eq-eqb j j refl, f))

turn-fit : (at : ℕ → ℕ → Bool) (o : Option Rule) (R : Rule) (p i k A j : ℕ) (s : List ℕ) (rest : List Goal) → o ≡ some R
    → fits R (at i) A (length s) (top_index s) i k j ≡ true
    → turn at o (plan_step p i k j) i (goal A s j ∷ rest) ≡ replaced R s i k j rest
turn-fit at o R p i k A j s rest d f = rw d (simp (eq-eqb i i refl, eq-eqb j j refl, f))

-- The index on top of all is looked at only where the goal has one.
index-here : (R : Rule) (here : ℕ → Bool) (A i k j : ℕ) (s below : List ℕ)
    → fits R here A (length s) (top_index (s ++ below)) i k j ≡ fits R here A (length s) (top_index s) i k j
index-here R here A i k j (x ∷ s) below = refl
index-here (Lexical A' w) here A i k j [] below = refl
index-here (Spine A' (Take γ) before D after) here A i k j [] below = refl
index-here (Spine A' Keep before D after) here A i k j [] below = refl
index-here (Spine A' (Give γ) before D after) here A i k j [] below = refl

first-at : (n : ℕ) (g : Goals) (top : Top) → first_among n g ≡ Some top → (0 < n) × (top ≡ top_of g)
first-at zero g top e = cc
first-at (suc n) g top e = (omega arith, cc)

module _ (card places : List ℕ) (st : StepBytes) (old : Goals) where
  pub advanced-missing : production_count card ≤ st.number → Replayed card places st old old false
  advanced-missing h = record {
    told = λ goals x.
        turn-none (word_test places) _ st.number st.start st.split st.end old.place goals (rule-missing card st.number h);
  }

  pub advanced-start : (top : Top) → first_of old ≡ Some top → (st.start ≡ top.start → ⊥) → Replayed card places st old old false
  advanced-start top f h = record {
    told = λ goals x.
        turn-start (word_test places) _ st.number st.start st.split st.end old.place goals
        (λ e. h (e ∙ sym (ap (λ (t : Top). t.start) (first-at old.count old top f).1)));
  }

  pub advanced-end : (top : Top) → first_of old ≡ Some top → st.start ≡ top.start → (st.end ≡ top.end → ⊥)
      → Replayed card places st old old false
  advanced-end top f e h = record { told = λ goals x. go goals x }
    where
      go : (goals : List Goal) → Shows old goals
          → next (grammar_of card) (word_test places) (step_from st) (standing old.place goals) ≡ stuck
      go [] x = refl
      go (goal A s j ∷ rest) x =
          let t = (first-at old.count old top f).1 in
          let d : st.start ≡ old.place = e ∙ ap (λ (t : Top). t.start) t in
          let q : top.end ≡ j = ap (λ (t : Top). t.end) t ∙ ap (λ (y : code.Goal). y.end) (first-entry old A j s rest x) in
          rw d (turn-end (word_test places) _ st.number old.place st.split st.end A j s rest (λ e₂. h (e₂ ∙ sym q)))

  module _ (top : Top) (f : first_of old ≡ Some top) (p : Production) (there : st.number < production_count card)
      (r : rule_from p ≡ production card st.number) (e₁ : st.start ≡ top.start) (e₂ : st.end ≡ top.end) where
    rule-is : get_elem? (grammar_of card) st.number ≡ some (rule_from p)
    rule-is = rule-there card st.number there ∙ ap some (sym r)

    -- A goal that is shown is the one that was read.
    module _ (A j : ℕ) (s : List ℕ) (rest : List Goal) (x : Shows old (goal A s j ∷ rest)) where
      read-start : st.start ≡ old.place
      read-start = e₁ ∙ ap (λ (t : Top). t.start) (first-at old.count old top f).1

      read-end : st.end ≡ j
      read-end =
          e₂ ∙ ap (λ (t : Top). t.end) (first-at old.count old top f).1
          ∙ ap (λ (y : code.Goal). y.end) (first-entry old A j s rest x)

      read-fits : fits_top (rule_from p) (get_or places top.start 0) top st.split
          ≡ fits (rule_from p) (word_test places old.place) A (length s) (top_index s) old.place st.split j
      read-fits =
          let y = first-entry old A j s rest x in
          let d : old.top - length (indices_of rest) ≡ length s =
          omega (arith, tops-length 0 old.stack old.top, ap length x.shown_stack, length-append s (indices_of rest)) in
          rw ((first-at old.count old top f).1, y, x.shown_stack, d)
          (index-here (rule_from p) (word_test places old.place) A old.place st.split j s (indices_of rest))

    pub advanced-misfit : fits_top (rule_from p) (get_or places top.start 0) top st.split ≡ false → Replayed card places st old old false
    advanced-misfit m = record { told = λ goals x. go goals x }
      where
        go : (goals : List Goal) → Shows old goals
            → next (grammar_of card) (word_test places) (step_from st) (standing old.place goals) ≡ stuck
        go [] x = refl
        go (goal A s j ∷ rest) x =
            rw (read-start A j s rest x, read-end A j s rest x)
            (turn-misfit (word_test places) _ (rule_from p) st.number old.place st.split A j s rest rule-is (sym (read-fits A j s rest x) ∙ m))

    pub advanced-fit : (few : old.count ≤ 24) (low : old.top ≤ 24)
        → fits_top (rule_from p) (get_or places top.start 0) top st.split ≡ true
        → Replayed card places st old (replaced_in (rule_from p) st.split old) true
    advanced-fit few low m = record { told = λ goals x. go goals x }
      where
        go : (goals : List Goal) → Shows old goals
            → ShowsAt (replaced_in (rule_from p) st.split old)
            (next (grammar_of card) (word_test places) (step_from st) (standing old.place goals))
        go [] x = let h = (first-at old.count old top f).0 in absurd (omega (arith, tops-length no_goal old.goals old.count, ap length x.shown_goals))
        go (goal A s j ∷ rest) x =
            let e = sym (read-fits A j s rest x) ∙ m in
            rw (
              read-start A j s rest x,
              read-end A j s rest x,
              turn-fit (word_test places) _ (rule_from p) st.number old.place st.split A j s rest rule-is e,
            )
            (replaced-shows old A j s rest x p (word_test places old.place) st.split e few low)

-- A production that fits has an index to take, where it takes one.
can-take : (a : Action) (d γ top : ℕ) → action_fits a d γ ≡ true → d ≤ top → CanTake a top
can-take (Take γ') d γ top e h = let (e₁, e₂) = both (ltb 0 d) (eqb γ' γ) e in omega (arith, ltb-true 0 d e₁)
can-take Keep d γ top e h = tt
can-take (Give γ') d γ top e h = tt

pub fits-take : (R : Rule) (here : ℕ) (top : Top) (k indices : ℕ) → fits_top R here top k ≡ true → top.depth ≤ indices
    → CanTake (action_of R) indices
fits-take (Lexical A' w) here top k indices e h = tt
fits-take (Spine A' a before D after) here top k indices e h =
    let d = pair_fits (in_set here) A' a before D after top.name top.depth top.index top.start k top.end e in
    can-take a top.depth top.index indices d.3 h

pub fits-room : (R : Rule) (here : ℕ) (old : Goals) (top : Top) (k : ℕ) → first_of old ≡ Some top → fits_top R here top k ≡ true
    → Within old → Room (action_of R) old
fits-room R here old top k f e w =
    let (h, t) = first-at old.count old top f in
    let d = ap (λ (t : Top). t.depth) t in
    record { some = h; few = w.few_goals; low = w.few_indices; takes = fits-take R here top k old.top e (omega arith) }
