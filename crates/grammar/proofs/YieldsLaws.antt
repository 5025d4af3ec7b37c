-- Two forms side by side yield side by side: a plan for f ++ h is a plan for f and then one for h, at some place between.
-- Both ways by induction on f or on its yield.
use Prim.Native.Nat.{ℕ}
use mathlib.Core.Path.{◌≡◌, refl, sym, ap, ◌∙◌}
use mathlib.Core.List.{List, [], ◌∷◌, ◌++◌, append_assoc}
use Rattle.grammar.specs.Rewriting.{Rule, Symbol}
use Rattle.grammar.specs.Plan.{PlanStep, plan_step, first_of, others_of, Yields, nothing, reads, replaces}

module _ (g : List Rule) (at : ℕ → ℕ → Type 0) where
  pub yields-join : {f h : List Symbol} {i k j : ℕ} {ps qs : List PlanStep} → Yields g at f i k ps → Yields g at h k j qs
      → Yields g at (f ++ h) i j (ps ++ qs)
  yields-join nothing y = y
  yields-join (reads a x) y = reads a (yields-join x y)
  yields-join {qs = qs} (replaces {first = first} {others = others} {rest = rest} r x₀ x₁ x₂) y =
      rw (append_assoc (first ++ others) rest qs) (replaces r x₀ x₁ (yields-join x₂ y))

  -- Where f ends, and the two parts.
  pub record Parted (f h : List Symbol) (i j : ℕ) (plan : List PlanStep) : Type 0 where
    pub place : ℕ
    pub left : List PlanStep
    pub right : List PlanStep
    pub left_yields : Yields g at f i place left
    pub right_yields : Yields g at h place j right
    pub together : plan ≡ left ++ right

  pub yields-split : (f : List Symbol) {h : List Symbol} {i j : ℕ} {plan : List PlanStep} → Yields g at (f ++ h) i j plan
      → Parted f h i j plan
  yields-split [] {i = i} {plan = plan} y =
      record { place = i; left = []; right = plan; left_yields = nothing; right_yields = y; together = refl }
  yields-split (X ∷ f) (reads a y) = let p = yields-split f y in
      record {
        place = p.place;
        left = p.left;
        right = p.right;
        left_yields = reads a p.left_yields;
        right_yields = p.right_yields;
        together = p.together;
      }
  yields-split (X ∷ f) (replaces {p = n} {i = i} {k = k} {m = m} {first = first} {others = others} r y₀ y₁ y₂) =
      let p = yields-split f y₂ in
      record {
        place = p.place;
        left = plan_step n i k m ∷ ((first ++ others) ++ p.left);
        right = p.right;
        left_yields = replaces r y₀ y₁ p.left_yields;
        right_yields = p.right_yields;
        together = ap (λ (l : List PlanStep). plan_step n i k m ∷ l)
            (ap (λ (l : List PlanStep). (first ++ others) ++ l) p.together ∙ sym (append_assoc (first ++ others) p.left p.right));
      }

  -- A right side is its first element and then the others.
  first-others : (r : List Symbol) → first_of r ++ others_of r ≡ r
  first-others [] = refl
  first-others (X ∷ r) = refl

  pub yields-whole : {r : List Symbol} {i k j : ℕ} {ps qs : List PlanStep} → Yields g at (first_of r) i k ps
      → Yields g at (others_of r) k j qs → Yields g at r i j (ps ++ qs)
  yields-whole {r = r} x y = rw first-others at (yields-join x y)

  pub yields-parts : (r : List Symbol) {i j : ℕ} {plan : List PlanStep} → Yields g at r i j plan
      → Parted (first_of r) (others_of r) i j plan
  yields-parts r y = yields-split (first_of r) (rw first-others y)
