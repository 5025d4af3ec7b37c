-- The length of a plan and the depth of its stacks, where every rule is a word or has one side.
-- A measure of forms that each rule keeps is added up along the yield.
use Prim.Native.Nat.{ℕ, ◌+◌, ◌-◌, ◌*◌, ◌≤◌, ◌<◌}
use mathlib.Core.Path.{◌≡◌, refl}
use mathlib.Core.List.{List, [], ◌∷◌, ◌++◌}
use native.Mathlib.Omega.{arith}
use lib.ListN.{length, length-append}
use Rattle.grammar.specs.Rewriting.{Rule, Spine, Action, Acts, takes, keeps, gives, Symbol, word, nonterminal, sides, Replaces, lexical, spine, OneSide, is_first, is_last, OneSided}
use Rattle.grammar.specs.Plan.{PlanStep, first_of, others_of, Yields, nothing, reads, replaces, LeftmostDerivation}

-- A word weighs 2 and a nonterminal 1; a word has size 1, and a nonterminal one more than its stack is deep.
abbrev pub weight : List Symbol → ℕ
weight [] = 0
weight (word w ∷ f) = 2 + weight f
weight (nonterminal A s ∷ f) = 1 + weight f

abbrev pub size : List Symbol → ℕ
size [] = 0
size (word w ∷ f) = 1 + size f
size (nonterminal A s ∷ f) = 1 + length s + size f

acts-depth : {a : Action} {s t : List ℕ} → Acts a s t → length s ≤ length t + 1
acts-depth takes = omega arith
acts-depth keeps = omega arith
acts-depth gives = omega arith

-- What a right side weighs, and that it is no smaller than what it replaces.
record Kept (X : Symbol) (r : List Symbol) : Type 0 where
  weighs : weight (first_of r) + weight (others_of r) ≡ 2
  grows : size (X ∷ []) ≤ size (first_of r) + size (others_of r)

spine-kept : {A D : ℕ} {a : Action} {before after s t : List ℕ} → OneSide (Spine A a before D after) → Acts a s t
    → Kept (nonterminal A s) (sides before ++ (nonterminal D t ∷ sides after))
spine-kept is_first a = let h = acts-depth a in record { weighs = refl; grows = omega arith }
spine-kept is_last a = let h = acts-depth a in record { weighs = refl; grows = omega arith }

kept : {g : List Rule} {p : ℕ} {X : Symbol} {r : List Symbol} → OneSided g → Replaces g p X r → Kept X r
kept one (lexical x) = record { weighs = refl; grows = omega arith }
kept one (spine {p = p} x a) = spine-kept (one p _ x) a

-- In any grammar a form ends no earlier than it starts.
pub yields-forward : {g : List Rule} {at : ℕ → ℕ → Type 0} {f : List Symbol} {i j : ℕ} {plan : List PlanStep} → Yields g at f i j plan
    → i ≤ j
yields-forward nothing = omega arith
yields-forward (reads a y) = let h = yields-forward y in omega arith
yields-forward (replaces x y₀ y₁ y₂) =
    let h₀ = yields-forward y₀ in let h₁ = yields-forward y₁ in let h₂ = yields-forward y₂ in omega arith

module _ (g : List Rule) (at : ℕ → ℕ → Type 0) (one : OneSided g) where
  pub yields-weight : {f : List Symbol} {i j : ℕ} {plan : List PlanStep} → Yields g at f i j plan
      → length plan + weight f + 2 * i ≡ 2 * j
  yields-weight nothing = omega arith
  yields-weight (reads a y) = let h = yields-weight y in omega arith
  yields-weight (replaces {X = nonterminal A s} x y₀ y₁ y₂) =
      let h₀ = yields-weight y₀ in
      let h₁ = yields-weight y₁ in
      let h₂ = yields-weight y₂ in
      let e = (kept one x).weighs in
      simp length-append (omega arith)
  yields-weight (replaces {X = word w} h y₀ y₁ y₂) = elim h [ ]

  pub yields-size : {f : List Symbol} {i j : ℕ} {plan : List PlanStep} → Yields g at f i j plan → i + size f ≤ j
  yields-size nothing = omega arith
  yields-size (reads a y) = let h = yields-size y in omega arith
  yields-size (replaces {X = nonterminal A s} x y₀ y₁ y₂) =
      let h₀ = yields-size y₀ in
      let h₁ = yields-size y₁ in
      let h₂ = yields-size y₂ in
      let e = (kept one x).grows in
      omega arith
  yields-size (replaces {X = word w} h y₀ y₁ y₂) = elim h [ ]

  -- A plan has two steps for each word, less one; the stack is less deep than the stretch is long; no stretch is empty.
  pub plan-length : {A i j : ℕ} {s : List ℕ} {plan : List PlanStep} → Yields g at (nonterminal A s ∷ []) i j plan
      → length plan + 1 ≡ 2 * (j - i)
  plan-length y = let h = yields-weight y in omega arith

  pub stack-depth : {A i j : ℕ} {s : List ℕ} {plan : List PlanStep} → Yields g at (nonterminal A s ∷ []) i j plan → length s < j - i
  stack-depth y = let h = yields-size y in omega arith

  pub yields-longer : {A i j : ℕ} {s : List ℕ} {plan : List PlanStep} → Yields g at (nonterminal A s ∷ []) i j plan → i < j
  yields-longer y = let h = yields-size y in omega arith

  pub derivation-length : {n : ℕ} {plan : List PlanStep} → LeftmostDerivation g at n plan → length plan ≡ 2 * n - 1
  derivation-length y = let h = plan-length y in omega arith
