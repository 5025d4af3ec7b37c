-- The side of a step: by steps of the plan that follow it, the nonterminal that stands beside the dependent comes, with an empty stack, to
-- exactly the words of this stretch. Each symbol of a form comes to at least one word, so a side has some, all of them words of the line.
use Prim.Native.Nat.{ℕ, suc, ◌+◌, ◌≤◌, ◌<◌}
use native.Mathlib.Nat.{le_trans}
use native.Mathlib.Omega.{arith}
use mathlib.Core.Path.{◌≡◌, refl, subst}
use mathlib.Core.List.{List, [], ◌∷◌, ◌++◌, append_assoc, append-nil}
use lib.ListN.{length, drop}
use Rattle.grammar.specs.Lists.{Stands, here, there}
use Rattle.grammar.specs.Rewriting.{Rule, Lexical, Spine, Action, Symbol, word, nonterminal, sides, Replaces, lexical, spine}
use Rattle.grammar.specs.Plan.{PlanStep, plan_step, production_in, first_of, others_of, Yields, nothing, reads, replaces, LeftmostDerivation}
use Rattle.grammar.specs.Pairs.{Stretch, stretch, side_of}
use Rattle.grammar.proofs.StandsLaws.{stands-unique}

spine-first : (before : List ℕ) (X : Symbol) (f : List Symbol) → length (first_of (sides before ++ (X ∷ f))) ≡ 1
spine-first [] X f = refl
spine-first (B ∷ before) X f = refl

replaces-first : {g : List Rule} {p : ℕ} {X : Symbol} {r : List Symbol} → Replaces g p X r → length (first_of r) ≡ 1
replaces-first (lexical s) = refl
replaces-first (spine {D = D} {before = before} {after = after} {t = t} s a) = spine-first before (nonterminal D t) (sides after)

-- A form comes to at least as many words as it has symbols.
pub yields-longer : {g : List Rule} {at : ℕ → ℕ → Type 0} {f : List Symbol} {i j : ℕ} {plan : List PlanStep} → Yields g at f i j plan
    → length f + i ≤ j
yields-longer nothing = omega arith
yields-longer (reads a y) = omega (arith, yields-longer y)
yields-longer (replaces s y₀ y₁ y₂) =
    omega (arith, replaces-first s, yields-longer y₀, yields-longer y₁, yields-longer y₂)

-- What stands beside the dependent, whose stack is t: the first side before it, or else the sides after it. With no side, and for a word, it
-- is the right side itself.
abbrev pub beside_of : Rule → List ℕ → List Symbol
beside_of (Lexical A w) t = word w ∷ []
beside_of (Spine A a (B ∷ before) D after) t = nonterminal B [] ∷ []
beside_of (Spine A a [] D []) t = nonterminal D t ∷ []
beside_of (Spine A a [] D (C ∷ after)) t = sides (C ∷ after)

beside-some : (R : Rule) (t : List ℕ) → 1 ≤ length (beside_of R t)
beside-some (Lexical A w) t = omega arith
beside-some (Spine A a (B ∷ before) D after) t = omega arith
beside-some (Spine A a [] D []) t = omega arith
beside-some (Spine A a [] D (C ∷ after)) t = omega arith

-- Steps that stand together in a plan.
pub data PartOf : List PlanStep → List PlanStep → Type 0 where
  at_start : (part rest : List PlanStep) → PartOf part (part ++ rest)
  later : {part plan : List PlanStep} {st : PlanStep} → PartOf part plan → PartOf part (st ∷ plan)

part-first : {part plan : List PlanStep} (rest : List PlanStep) → PartOf part plan → PartOf part (plan ++ rest)
part-first rest (at_start part more) = rw (append_assoc part more rest) (at_start part (more ++ rest))
part-first rest (later x) = later (part-first rest x)

part-last : {part plan : List PlanStep} (first : List PlanStep) → PartOf part plan → PartOf part (first ++ plan)
part-last [] x = x
part-last (st ∷ first) x = later (part-last first x)

part-all : (plan : List PlanStep) → PartOf plan plan
part-all plan = subst (PartOf plan) (append-nil plan) (at_start plan [])

-- By a part of the plan it comes to the stretch, which ends among the first n words.
pub data SideComes (g : List Rule) (at : ℕ → ℕ → Type 0) (n : ℕ) (plan : List PlanStep) (R : Rule) : Stretch → Type 0 where
  side_comes : (t : List ℕ) {from to : ℕ} {part : List PlanStep} → Yields g at (beside_of R t) from to part → PartOf part plan → to ≤ n
      → SideComes g at n plan R (stretch from to)

-- A stretch with words, all of them among the first n.
pub data InLine (n : ℕ) : Stretch → Type 0 where
  in_line : {from to : ℕ} → from < to → to ≤ n → InLine n (stretch from to)

-- Every step of the plan has such a side, by the steps after it.
data Sided (g : List Rule) (at : ℕ → ℕ → Type 0) (n : ℕ) : List PlanStep → Type 0 where
  nosteps : Sided g at n []
  sided : {p i k j : ℕ} {R : Rule} {plan : List PlanStep} → Stands g p R → SideComes g at n plan R (side_of R (plan_step p i k j))
      → Sided g at n plan → Sided g at n (plan_step p i k j ∷ plan)

module _ {g : List Rule} {at : ℕ → ℕ → Type 0} where
  pub comes-in-line : {n : ℕ} {plan : List PlanStep} {R : Rule} {side : Stretch} → SideComes g at n plan R side → InLine n side
  comes-in-line {R = R} (side_comes t {from = from} {to = to} y x b) =
      in_line {from = from} {to = to} (omega (arith, beside-some R t, yields-longer y)) b

  comes-more : {m n : ℕ} {plan : List PlanStep} {R : Rule} {side : Stretch} (rest : List PlanStep) → m ≤ n → SideComes g at m plan R side
      → SideComes g at n (plan ++ rest) R side
  comes-more rest h (side_comes t y x b) = side_comes t y (part-first rest x) (le_trans b h)

  sided-append : {m n : ℕ} {ps qs : List PlanStep} → m ≤ n → Sided g at m ps → Sided g at n qs → Sided g at n (ps ++ qs)
  sided-append h nosteps y = y
  sided-append {qs = qs} h (sided s c x) y = sided s (comes-more qs h c) (sided-append h x y)

  spine-comes : {n k m : ℕ} {first others plan : List PlanStep} (A : ℕ) (a : Action) (before : List ℕ) (D : ℕ) (t after : List ℕ) (p i : ℕ)
      → Yields g at (first_of (sides before ++ (nonterminal D t ∷ sides after))) i k first → PartOf first plan
      → Yields g at (others_of (sides before ++ (nonterminal D t ∷ sides after))) k m others → PartOf others plan → m ≤ n
      → SideComes g at n plan (Spine A a before D after) (side_of (Spine A a before D after) (plan_step p i k m))
  spine-comes A a (B ∷ before) D t after p i y₀ x₀ y₁ x₁ b = side_comes t y₀ x₀ (omega (arith, yields-longer y₁))
  spine-comes A a [] D t [] p i y₀ x₀ nothing x₁ b = side_comes t y₀ x₀ b
  spine-comes A a [] D t (C ∷ after) p i y₀ x₀ y₁ x₁ b = side_comes t y₁ x₁ b

  step-sided : {n p i k m : ℕ} {X : Symbol} {r : List Symbol} {first others plan : List PlanStep} → Replaces g p X r
      → Yields g at (first_of r) i k first → PartOf first plan → Yields g at (others_of r) k m others → PartOf others plan → m ≤ n
      → Sided g at n plan → Sided g at n (plan_step p i k m ∷ plan)
  step-sided (lexical s) y₀ x₀ nothing x₁ b z = sided s (side_comes [] y₀ x₀ b) z
  step-sided {p = p} {i = i} (spine {A = A} {D = D} {a = a} {before = before} {after = after} {t = t} s c) y₀ x₀ y₁ x₁ b z =
      sided s (spine-comes A a before D t after p i y₀ x₀ y₁ x₁ b) z

  yields-sided : {f : List Symbol} {i j : ℕ} {plan : List PlanStep} → Yields g at f i j plan → Sided g at j plan
  yields-sided nothing = nosteps
  yields-sided (reads a y) = yields-sided y
  yields-sided (replaces {first = first} {others = others} {rest = rest} s y₀ y₁ y₂) =
      let l₁ = yields-longer y₁ in let l₂ = yields-longer y₂ in
      step-sided s y₀ (part-first rest (at_start first others)) y₁ (part-first rest (part-last first (part-all others))) (omega arith)
      (sided-append (omega arith) (sided-append (omega arith) (yields-sided y₀) (yields-sided y₁)) (yields-sided y₂))

  sided-step : {n m : ℕ} {st : PlanStep} {R : Rule} {plan : List PlanStep} → Sided g at n plan → Stands plan m st → Stands g (production_in st) R
      → SideComes g at n (drop (suc m) plan) R (side_of R st)
  sided-step {n = n} {st = st} (sided {plan = plan} s c x) here s' =
      subst (λ (R : Rule). SideComes g at n plan R (side_of R st)) (stands-unique s s') c
  sided-step (sided s c x) (there t) s' = sided-step x t s'
  sided-step nosteps h s' = elim h [ ]

  -- Step number m, by the steps after it.
  pub side-comes : {n m : ℕ} {st : PlanStep} {R : Rule} {plan : List PlanStep} → LeftmostDerivation g at n plan → Stands plan m st
      → Stands g (production_in st) R → SideComes g at n (drop (suc m) plan) R (side_of R st)
  side-comes y = sided-step (yields-sided y)
