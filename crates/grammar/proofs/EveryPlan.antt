-- Every leftmost derivation of a line, as a list: what is seen of each of a few holds then of all. A nonterminal's stretch is tried with
-- every end, every production and every split. No yield is left out, by induction on it, where as many steps are tried as it has.
use Prim.Native.Nat.{ℕ, zero, suc, ◌+◌, ◌-◌, ◌≤◌}
use native.Mathlib.Omega.{arith}
use native.Mathlib.Nat.{not-suc-le-zero}
use mathlib.Core.Path.{◌≡◌, subst}
use mathlib.Core.Bool.{Bool, true, false}
use mathlib.Core.List.{List, [], ◌∷◌, ◌++◌, map, Memᴰ}
use mathlib.Core.Option.{Option, none, some}
use lib.Dec.{eqb}
use lib.ListN.{length, length-append, get_elem?}
use Rattle.grammar.specs.Lists.{concat_map, only, up_to}
use Rattle.grammar.specs.Input.{Holds}
use Rattle.grammar.specs.Rewriting.{Rule, Symbol, word, nonterminal, Replaces, start}
use Rattle.grammar.specs.Plan.{PlanStep, plan_step, first_of, others_of, Yields, nothing, reads, replaces, LeftmostDerivation, right_side}
use Rattle.grammar.proofs.ListLaws.{eqb-self, concat_map-in, only-in, up_to-in, map-in}
use Rattle.grammar.proofs.RightSide.{no_word, replaces-below, right_side_lem}
use Rattle.grammar.proofs.PlanSize.{yields-forward}

-- i, .., j
abbrev between : ℕ → ℕ → List ℕ
between i j = map (λ (d : ℕ). i + d) (up_to (suc j - i))

-- The plans of a form over i to j, if those of a nonterminal are known.
abbrev of_form : (ℕ → ℕ → Bool) → (ℕ → List ℕ → ℕ → ℕ → List (List PlanStep)) → List Symbol → ℕ → ℕ → List (List PlanStep)
of_form at N [] i j = only (eqb i j) []
of_form at N (word w ∷ f) i j = elim (at i w) [ true ↦ of_form at N f (suc i) j | false ↦ [] ]
of_form at N (nonterminal A s ∷ f) i j =
    concat_map (λ m. concat_map (λ rest. map (λ (first : List PlanStep). first ++ rest) (N A s i m)) (of_form at N f m j)) (between i j)

-- Those of production p over i to m, if those of a form are known and the right side is r.
abbrev by_right : (List Symbol → ℕ → ℕ → List (List PlanStep)) → ℕ → ℕ → ℕ → Option (List Symbol) → List (List PlanStep)
by_right every p i m none = []
by_right every p i m (some r) =
    concat_map (λ k. concat_map (λ first. map (λ (others : List PlanStep). plan_step p i k m ∷ (first ++ others)) (every (others_of r) k m))
    (every (first_of r) i k)) (between i m)

-- Those of a nonterminal, with at most so many steps under each other.
abbrev of_nonterminal : List Rule → (ℕ → ℕ → Bool) → ℕ → ℕ → List ℕ → ℕ → ℕ → List (List PlanStep)
of_nonterminal g at zero A s i m = []
of_nonterminal g at (suc depth) A s i m =
    concat_map (λ p. by_right (of_form at (of_nonterminal g at depth)) p i m (right_side (get_elem? g p) A s)) (up_to (length g))

-- Those of a line of n words, with at most so many steps.
abbrev pub every_plan : List Rule → (ℕ → ℕ → Bool) → ℕ → ℕ → List (List PlanStep)
every_plan g at steps n = of_form at (of_nonterminal g at steps) (start ∷ []) 0 n

between_in : {i j m : ℕ} → i ≤ m → m ≤ j → Memᴰ m (between i j)
between_in {i} {j} {m} h k =
    let e : i + (m - i) ≡ m = omega arith in
    subst (λ (x : ℕ). Memᴰ x (between i j)) e (map-in (λ (d : ℕ). i + d) (up_to-in {k = m - i} (suc j - i) (omega arith)))

module _ (g : List Rule) (at : ℕ → ℕ → Bool) where
  by_right_lem : (depth : ℕ) {p A i k m : ℕ} {s : List ℕ} {r : List Symbol} {first others : List PlanStep} → Replaces g p (nonterminal A s) r
      → i ≤ k → k ≤ m → Memᴰ first (of_form at (of_nonterminal g at depth) (first_of r) i k)
      → Memᴰ others (of_form at (of_nonterminal g at depth) (others_of r) k m)
      → Memᴰ (plan_step p i k m ∷ (first ++ others)) (of_nonterminal g at (suc depth) A s i m)
  by_right_lem depth {p} {A} {i} {k} {m} {s} {r} {first} {others} x h h' a b =
      let every = of_form at (of_nonterminal g at depth) in
      let step : ℕ → List PlanStep → List PlanStep → List PlanStep = λ k f o. plan_step p i k m ∷ (f ++ o) in
      concat_map-in (λ (q : ℕ). by_right every q i m (right_side (get_elem? g q) A s)) (up_to-in (length g) (replaces-below g x))
      (rw ((right_side_lem g).1 x)
      (concat_map-in (λ (c : ℕ). concat_map (λ (f : List PlanStep). map (step c f) (every (others_of r) c m)) (every (first_of r) i c))
      (between_in h h')
      (concat_map-in (λ (f : List PlanStep). map (step k f) (every (others_of r) k m)) a (map-in (step k first) b))))

  every-yield : {f : List Symbol} {i j : ℕ} {plan : List PlanStep} → Yields g (Holds at) f i j plan → (depth : ℕ) → length plan ≤ depth
      → Memᴰ plan (of_form at (of_nonterminal g at depth) f i j)
  every-yield (nothing {i = i}) depth h = only-in (eqb i i) [] (eqb-self i)
  every-yield (reads a y) depth h = rw (a, of_form) (every-yield y depth h)
  every-yield (replaces {X = word w} x y₀ y₁ y₂) depth h = absurd (no_word g x)
  every-yield (replaces {X = nonterminal A s} x y₀ y₁ y₂) zero h = absurd (not-suc-le-zero h)
  every-yield (replaces {i = i} {m = m} {j = j} {X = nonterminal A s} {f = f} {first = first} {others = others} {rest = rest} x y₀ y₁ y₂) (suc depth) h =
      let N = of_nonterminal g at (suc depth) in
      let l₀ = length-append (first ++ others) rest in
      let l₁ = length-append first others in
      let a = every-yield y₀ depth (omega (arith, h, l₀, l₁)) in
      let b = every-yield y₁ depth (omega (arith, h, l₀, l₁)) in
      let c = every-yield y₂ (suc depth) (omega (arith, h, l₀, l₁)) in
      concat_map-in (λ (m : ℕ). concat_map (λ (z : List PlanStep). map (λ (u : List PlanStep). u ++ z) (N A s i m)) (of_form at N f m j))
      (between_in (omega (arith, yields-forward y₀, yields-forward y₁)) (yields-forward y₂))
      (concat_map-in (λ (z : List PlanStep). map (λ (u : List PlanStep). u ++ z) (N A s i m)) c
      (map-in (λ (u : List PlanStep). u ++ rest) (by_right_lem depth x (yields-forward y₀) (yields-forward y₁) a b)))

  -- So each leftmost derivation of the line is in the list.
  pub every-plan : {n : ℕ} {plan : List PlanStep} → LeftmostDerivation g (Holds at) n plan → (steps : ℕ) → length plan ≤ steps
      → Memᴰ plan (every_plan g at steps n)
  every-plan y steps h = every-yield y steps h
