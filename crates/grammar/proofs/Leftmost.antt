-- A plan without its stretches is a leftmost rewriting to the words that it yields, and each such rewriting has stretches: one
-- backwards step splits a yield of r ++ f. The stretches are forced, since each production number fixes the right side.
use Prim.Native.Nat.{ℕ, suc}
use mathlib.Core.Path.{◌≡◌, refl, sym, ap, ◌∙◌}
use mathlib.Core.List.{List, [], ◌∷◌, ◌++◌, map, append_assoc, map-append, head-eq_of_cons-eq, tail-eq_of_cons-eq}
use Rattle.grammar.specs.Input.{WordsAt, nowords, oneword}
use Rattle.grammar.specs.Rewriting.{Rule, Symbol, word, Replaces, Step, here, later, Steps, done, next}
use Rattle.grammar.specs.Plan.{PlanStep, plan_step, production_in, first_of, others_of, Yields, nothing, reads, replaces, LeftmostStep, first, past_word, LeftmostSteps, finish, proceed}
use Rattle.grammar.proofs.RightSide.{no_word, replaces-unique}
use Rattle.grammar.proofs.YieldsLaws.{yields-split, yields-parts}

words_append : {at : ℕ → ℕ → Type 0} {i k j : ℕ} {u v : List ℕ} → WordsAt at i u k → WordsAt at k v j → WordsAt at i (u ++ v) j
words_append nowords y = y
words_append (oneword a x) y = oneword a (words_append x y)

-- Two plans with the same numbers, whatever comes after them, have the same stretches.
pub record Same (j j' : ℕ) (plan plan' : List PlanStep) (u v : List ℕ) : Type 0 where
  pub place : j ≡ j'
  pub steps : plan ≡ plan'
  pub after : u ≡ v

numbers : (l₀ l₁ l₂ : List PlanStep) (u : List ℕ)
    → map production_in ((l₀ ++ l₁) ++ l₂) ++ u ≡ map production_in l₀ ++ (map production_in l₁ ++ (map production_in l₂ ++ u))
numbers l₀ l₁ l₂ u = simp (map-append, append_assoc)

module _ (g : List Rule) where
  -- A leftmost rewriting is a rewriting.
  abbrev pub leftmost-is-step : {p : ℕ} {f f' : List Symbol} → LeftmostStep g p f f' → Step g f f'
  leftmost-is-step (first r) = here r
  leftmost-is-step (past_word s) = later (leftmost-is-step s)

  abbrev pub leftmost-is-steps : {f f' : List Symbol} {ps : List ℕ} → LeftmostSteps g f ps f' → Steps g f f'
  leftmost-is-steps finish = done
  leftmost-is-steps (proceed s ss) = next (leftmost-is-step s) (leftmost-is-steps ss)

  -- Rewriting goes on with more behind, and with words in front; so two rewritings to words join.
  step-before : {p : ℕ} {f f' : List Symbol} (h : List Symbol) → LeftmostStep g p f f' → LeftmostStep g p (f ++ h) (f' ++ h)
  step-before h (first {r = r} {f = f} x) = rw (append_assoc r f h) (first x)
  step-before h (past_word s) = past_word (step-before h s)

  steps-past : {f f' : List Symbol} {ps : List ℕ} {w : ℕ} → LeftmostSteps g f ps f' → LeftmostSteps g (word w ∷ f) ps (word w ∷ f')
  steps-past finish = finish
  steps-past (proceed s ss) = proceed (past_word s) (steps-past ss)

  steps-past-all : (ws : List ℕ) {f f' : List Symbol} {ps : List ℕ} → LeftmostSteps g f ps f'
      → LeftmostSteps g (map word ws ++ f) ps (map word ws ++ f')
  steps-past-all [] s = s
  steps-past-all (w ∷ ws) s = steps-past (steps-past-all ws s)

  steps-join : {f m h h' : List Symbol} {ps qs : List ℕ} (ws : List ℕ) → LeftmostSteps g f ps m → m ≡ map word ws
      → LeftmostSteps g h qs h' → LeftmostSteps g (f ++ h) (ps ++ qs) (map word ws ++ h')
  steps-join ws finish e y = rw e (steps-past-all ws y)
  steps-join {h = h} ws (proceed s ss) e y = proceed (step-before h s) (steps-join ws ss e y)

  module _ (at : ℕ → ℕ → Type 0) where
    abbrev Rewrites : List Symbol → ℕ → ℕ → List ℕ → Type 0
    Rewrites f i j ps = (words : List ℕ) × WordsAt at i words j × LeftmostSteps g f ps (map word words)

    rewrites-join : {f h : List Symbol} {i k j : ℕ} {ps qs : List ℕ} → Rewrites f i k ps → Rewrites h k j qs
        → Rewrites (f ++ h) i j (ps ++ qs)
    rewrites-join (u, a, x) (v, b, y) = (u ++ v, words_append a b, rw map-append (steps-join u x refl y))

    rewrites-whole : (r : List Symbol) {i k j : ℕ} {ps qs : List ℕ} → Rewrites (first_of r) i k ps → Rewrites (others_of r) k j qs
        → Rewrites r i j (ps ++ qs)
    rewrites-whole [] x y = rewrites-join x y
    rewrites-whole (X ∷ r) x y = rewrites-join x y

    rewrites-read : {f : List Symbol} {i j w : ℕ} {ps : List ℕ} → at i w → Rewrites f (suc i) j ps → Rewrites (word w ∷ f) i j ps
    rewrites-read {w = w} a (u, b, x) = (w ∷ u, oneword a b, steps-past x)

    rewrites-replace : {p : ℕ} {X : Symbol} {r f : List Symbol} {i j : ℕ} {ps : List ℕ} → Replaces g p X r → Rewrites (r ++ f) i j ps
        → Rewrites (X ∷ f) i j (p ∷ ps)
    rewrites-replace r (u, b, x) = (u, b, proceed (first r) x)

    pub plan-rewrites : {f : List Symbol} {i j : ℕ} {plan : List PlanStep} → Yields g at f i j plan
        → (words : List ℕ) × WordsAt at i words j × LeftmostSteps g f (map production_in plan) (map word words)
    plan-rewrites nothing = ([], nowords, finish)
    plan-rewrites (reads a y) = rewrites-read a (plan-rewrites y)
    plan-rewrites (replaces {r = r} x y₀ y₁ y₂) =
        let h = rewrites-whole r (plan-rewrites y₀) (plan-rewrites y₁) in
        rewrites-replace x (simp map-append (rewrites-join h (plan-rewrites y₂)))

    -- One step back.
    abbrev Planned : List Symbol → ℕ → ℕ → List ℕ → Type 0
    Planned f i j ps = (plan : List PlanStep) × Yields g at f i j plan × (map production_in plan ≡ ps)

    words-plan : {i j : ℕ} {words : List ℕ} → WordsAt at i words j → Yields g at (map word words) i j []
    words-plan nowords = nothing
    words-plan (oneword a x) = reads a (words-plan x)

    step_back : {p i j : ℕ} {f f' : List Symbol} {plan : List PlanStep} → LeftmostStep g p f f' → Yields g at f' i j plan
        → Planned f i j (p ∷ map production_in plan)
    step_back {p} {i} (first {r = r} x) y =
        let s = yields-split g at r y in
        let t = yields-parts g at r s.left_yields in (
          plan_step p i t.place s.place ∷ ((t.left ++ t.right) ++ s.right),
          replaces x t.left_yields t.right_yields s.right_yields,
          cc,
        )
    step_back (past_word s) (reads a y) = let (l, z, e) = step_back s y in (l, reads a z, e)
    step_back (past_word s) (replaces x y₀ y₁ y₂) = absurd (no_word g x)

    plans : {f h : List Symbol} {ps words : List ℕ} {i j : ℕ} → LeftmostSteps g f ps h → h ≡ map word words → WordsAt at i words j
        → Planned f i j ps
    plans finish e a = ([], rw e (words-plan a), refl)
    plans (proceed s ss) e a = let (l, y, d) = plans ss e a in let (l', y', d') = step_back s y in (l', y', cc)

    pub rewriting-plans : {f : List Symbol} {ps words : List ℕ} {i j : ℕ} → LeftmostSteps g f ps (map word words) → WordsAt at i words j
        → (plan : List PlanStep) × Yields g at f i j plan × (map production_in plan ≡ ps)
    rewriting-plans s a = plans s refl a

    -- Every start, split and end of a step is forced.
    pub forced : {f : List Symbol} {i j j' : ℕ} {plan plan' : List PlanStep} {u v : List ℕ} → Yields g at f i j plan
        → Yields g at f i j' plan' → map production_in plan ++ u ≡ map production_in plan' ++ v → Same j j' plan plan' u v
    forced nothing nothing e = record { place = refl; steps = refl; after = e }
    forced (reads a y) (reads b z) e = forced y z e
    forced (reads a y) (replaces x z₀ z₁ z₂) e = absurd (no_word g x)
    forced (replaces x y₀ y₁ y₂) (reads b z) e = absurd (no_word g x)
    forced {u = u} {v = v}
        (replaces {X = X} {first = l₀} {others = l₁} {rest = l₂} x y₀ y₁ y₂)
        (replaces {first = h₀} {others = h₁} {rest = h₂} x' z₀ z₁ z₂) e =
        let d = head-eq_of_cons-eq e in
        let q = replaces-unique g X (rw d at x) x' in
        let s₀ = forced y₀ (rw (← q) at z₀) (sym (numbers l₀ l₁ l₂ u) ∙ (tail-eq_of_cons-eq e ∙ numbers h₀ h₁ h₂ v)) in
        let s₁ = forced y₁ (rw (← q, ← s₀.place) at z₁) s₀.after in
        let s₂ = forced y₂ (rw (← s₁.place) at z₂) s₁.after in
        record { place = s₂.place; steps = cc; after = s₂.after }

    pub stretches-forced : {f : List Symbol} {i j j' : ℕ} {plan plan' : List PlanStep} → Yields g at f i j plan
        → Yields g at f i j' plan' → map production_in plan ≡ map production_in plan' → (j ≡ j') × (plan ≡ plan')
    stretches-forced y z e = let s = forced y z (ap (λ l. l ++ []) e) in (s.place, s.steps)
