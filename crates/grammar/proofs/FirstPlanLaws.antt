-- A line that has a plan has a first one, and only one, where every rule is a word or has one side. Two plans part at a step that replaces
-- one nonterminal over one stretch, so its production or its split decides; and a list holds them all, of which one is after no other.
use Prim.Native.Nat.{ℕ, ◌-◌, ◌*◌, ◌≤◌, ◌<◌}
use native.Mathlib.Omega.{arith}
use native.Mathlib.Nat.{lt_trans, le_of_eq}
use native.Mathlib.Decide.{ℕ_discrete, dec_lt}
use mathlib.Core.Path.{◌≡◌, refl, sym, ◌∙◌, ap}
use mathlib.Core.Logic.{◌↔◌, ◌⊎◌, inl, inr}
use mathlib.Core.Bool.{Bool, true, false, false≢true}
use mathlib.Core.List.Memᴰ
use mathlib.Core.List.{List, [], ◌∷◌, ◌++◌, append-nil, append_assoc, Memᴰ, head-eq_of_cons-eq, tail-eq_of_cons-eq}
use lib.ListN.{length}
use Rattle.grammar.specs.Lists.{Stands, NotAfter, ended, sooner, agreed}
use Rattle.grammar.specs.Input.{Holds}
use Rattle.grammar.specs.Rewriting.{Rule, Spine, Action, Symbol, word, nonterminal, sides, Replaces, lexical, spine, OneSide, is_first, is_last, OneSided}
use Rattle.grammar.specs.Plan.{PlanStep, plan_step, production_in, first_of, others_of, Yields, nothing, reads, replaces, LeftmostDerivation, passes}
use Rattle.grammar.specs.FirstPlan.{Before, lower_production, lower_split, FirstPlan}
use Rattle.grammar.proofs.RightSide.{no_word, right_side_lem, rule-right, replaces-unique}
use Rattle.grammar.proofs.StandsLaws.{stands-get_elem}
use Rattle.grammar.proofs.PlanTest.{passes-sound, passes-complete}
use Rattle.grammar.proofs.PlanSize.{derivation-length}
use Rattle.grammar.proofs.EveryPlan.{every_plan, every-plan}
use Rattle.grammar.proofs.NotAfterLaws.{not-after-self, not-after-trans, not-after-both}

-- The order of steps.
pub before-trans : (x y z : PlanStep) → Before x y → Before y z → Before x z
before-trans x y z (lower_production h) (lower_production h') = lower_production (lt_trans h h')
before-trans x y z (lower_production h) (lower_split h') = lower_production h
before-trans x y z (lower_split h) (lower_production h') = lower_production h'
before-trans x y z (lower_split h) (lower_split h') = lower_split (lt_trans h h')

-- Of two steps in order the productions are, or they are equal and the splits are in order.
before-parts : {p p' i i' k k' j j' : ℕ} → Before (plan_step p i k j) (plan_step p' i' k' j') → (p < p') ⊎ ((p ≡ p') × (k < k'))
before-parts (lower_production h) = inl h
before-parts (lower_split h) = inr (refl, h)

pub before-asym : (x y : PlanStep) → Before x y → Before y x → ⊥
before-asym x y (lower_production h) (lower_production h') = omega arith
before-asym x y (lower_production h) (lower_split h') = omega arith
before-asym x y (lower_split h) b = elim (before-parts b) [ inl h' ↦ omega arith | inr s ↦ let h' = s.1 in omega arith ]

-- A line has no two first plans.
pub first-plan-unique : {g : List Rule} {at : ℕ → ℕ → Type 0} {n : ℕ} {plan other : List PlanStep} → FirstPlan g at n plan
    → FirstPlan g at n other → plan ≡ other
first-plan-unique {plan = plan} {other = other} a b =
    not-after-both before-asym (a.first other b.derives) (b.first plan a.derives)

-- In order one way or the other. Where two steps stand first, their productions decide, then their splits, then what comes after.
abbrev Ordered : List PlanStep → List PlanStep → Type 0
Ordered l m = NotAfter Before l m ⊎ NotAfter Before m l

data Compared : ℕ → ℕ → Type 0 where
  lower : {m n : ℕ} → m < n → Compared m n
  equal : {n : ℕ} → Compared n n
  higher : {m n : ℕ} → n < m → Compared m n

compared : (m n : ℕ) → Compared m n
compared m n = elim (dec_lt m n) [
  | yes h ↦ lower h
  | no h ↦ elim (ℕ_discrete m n) [ yes e ↦ rw e equal | no d ↦ let h : n < m = omega arith in higher h ]
]

ordered_step : {p p' i k k' j : ℕ} {l m : List PlanStep} → Compared p p' → Compared k k' → (p ≡ p' → k ≡ k' → Ordered l m)
    → Ordered (plan_step p i k j ∷ l) (plan_step p' i k' j ∷ m)
ordered_step (lower h) c o = inl (sooner (lower_production h))
ordered_step (higher h) c o = inr (sooner (lower_production h))
ordered_step equal (lower h) o = inl (sooner (lower_split h))
ordered_step equal (higher h) o = inr (sooner (lower_split h))
ordered_step equal equal o = elim (o refl refl) [ inl x ↦ inl (agreed x) | inr x ↦ inr (agreed x) ]

-- One symbol at most: then a stretch of the form is a stretch of the symbol.
data Alone : List Symbol → Type 0 where
  no_symbol : Alone []
  one_symbol : {X : Symbol} → Alone (X ∷ [])

first_alone : (r : List Symbol) → Alone (first_of r)
first_alone [] = no_symbol
first_alone (X ∷ r) = one_symbol

spine-alone : {A D : ℕ} {a : Action} {before after : List ℕ} (t : List ℕ) → OneSide (Spine A a before D after)
    → Alone (others_of (sides before ++ (nonterminal D t ∷ sides after)))
spine-alone t is_first = one_symbol
spine-alone t is_last = one_symbol

others-alone : {g : List Rule} {p : ℕ} {X : Symbol} {r : List Symbol} → OneSided g → Replaces g p X r → Alone (others_of r)
others-alone one (lexical x) = no_symbol
others-alone one (spine {p = p} {t = t} x a) = spine-alone t (one p _ x)

module _ (g : List Rule) (at : ℕ → ℕ → Type 0) (one : OneSided g) where
  -- Two plans of a symbol over one stretch, with whatever comes after them, if that is in order.
  ordered : {f : List Symbol} {i j j' : ℕ} {l l' m m' : List PlanStep} → Alone f → Yields g at f i j l → Yields g at f i j' l' → j ≡ j'
      → Ordered m m' → Ordered (l ++ m) (l' ++ m')
  ordered no_symbol nothing nothing c o = o
  ordered one_symbol (reads a nothing) (reads b nothing) c o = o
  ordered one_symbol (reads a nothing) (replaces x z₀ z₁ nothing) c o = absurd (no_word g x)
  ordered one_symbol (replaces x y₀ y₁ nothing) (reads b nothing) c o = absurd (no_word g x)
  ordered one_symbol (replaces {p} {k = k} {X = X} {r = r} x y₀ y₁ nothing) (replaces {p = p'} {k = k'} x' z₀ z₁ nothing) c o =
      rw c (ordered_step (compared p p') (compared k k') λ e d.
      let q = replaces-unique g X (rw e at x) x' in
      simp (append-nil, append_assoc)
      (ordered (first_alone r) y₀ (rw (← q) at z₀) d (ordered (others-alone one x) y₁ (rw (← q, ← d) at z₁) c o)))

  pub plans-ordered : {n : ℕ} {plan other : List PlanStep} → LeftmostDerivation g at n plan → LeftmostDerivation g at n other
      → NotAfter Before plan other ⊎ NotAfter Before other plan
  plans-ordered y z = simp append-nil at (ordered {m = []} {m' = []} one_symbol y z refl (inl ended))

-- The first of those plans in a list that are derivations, found from any one derivation: each that comes sooner takes its place.
module _ (g : List Rule) (at : ℕ → ℕ → Bool) (n : ℕ) (one : OneSided g) where
  abbrev FirstAmong : List PlanStep → List (List PlanStep) → Type 0
  FirstAmong plan plans =
      (other : List PlanStep) → Memᴰ other plans → LeftmostDerivation g (Holds at) n other → NotAfter Before plan other

  among-more : {plan m : List PlanStep} {plans : List (List PlanStep)} → (LeftmostDerivation g (Holds at) n m → NotAfter Before plan m)
      → FirstAmong plan plans → FirstAmong plan (m ∷ plans)
  among-more a b other i z = elim (Memᴰ.cases_cons i) [ inl e ↦ rw e (a (rw e at z)) | inr k ↦ b other k z ]

  abbrev HasFirst : List (List PlanStep) → Type 0
  HasFirst plans = (plan : List PlanStep) × LeftmostDerivation g (Holds at) n plan × FirstAmong plan plans

  first_more : (m : List PlanStep) {plans : List (List PlanStep)} (b : Bool) → passes g at n m ≡ b → HasFirst plans → HasFirst (m ∷ plans)
  first_more m false e (plan, y, a) = (plan, y, among-more (λ z. absurd (false≢true (sym e ∙ passes-complete g at n z))) a)
  first_more m true e (plan, y, a) = let z = passes-sound g at n {plan = m} e in elim (plans-ordered g (Holds at) one y z) [
    | inl h ↦ (plan, y, among-more (λ _. h) a)
    | inr h ↦ (m, z, among-more (λ _. not-after-self m) (λ other i u. not-after-trans before-trans h (a other i u)))
  ]

  has_first : {plan : List PlanStep} → LeftmostDerivation g (Holds at) n plan → (plans : List (List PlanStep)) → HasFirst plans
  has_first {plan} y [] = (plan, y, λ other i z. absurd (Memᴰ.not-nil i))
  has_first y (m ∷ plans) = first_more m (passes g at n m) refl (has_first y plans)

  pub first-plan-exists : {plan : List PlanStep} → LeftmostDerivation g (Holds at) n plan
      → (first : List PlanStep) × FirstPlan g (Holds at) n first
  first-plan-exists y = let (plan, z, a) = has_first y (every_plan g at (2 * n - 1) n) in (
    plan,
    record {
      derives = z;
      first = λ other u. a other (every-plan g at u (2 * n - 1) (le_of_eq (derivation-length g (Holds at) one u))) u;
    },
  )

-- All plans have equally many steps, so the first of all is the first of those with the fewest.
module _ (g : List Rule) (at : ℕ → ℕ → Type 0) (n : ℕ) where
  pub record FirstOfFewest (plan : List PlanStep) : Type 0 where
    pub derives : LeftmostDerivation g at n plan
    pub fewest : (other : List PlanStep) → LeftmostDerivation g at n other → length plan ≤ length other
    pub first : (other : List PlanStep) → LeftmostDerivation g at n other → length other ≡ length plan → NotAfter Before plan other

  pub first-of-fewest : OneSided g → (plan : List PlanStep) → FirstPlan g at n plan ↔ FirstOfFewest plan
  first-of-fewest one plan = (
    λ f. record {
      derives = f.derives;
      fewest = λ other z. omega (arith, derivation-length g at one f.derives, derivation-length g at one z);
      first = λ other z e. f.first other z;
    },
    λ f. record {
      derives = f.derives;
      first = λ other z. f.first other z (omega (arith, derivation-length g at one f.derives, derivation-length g at one z));
    },
  )

-- `Changed x y l m`: m is l with y at one place at which l has x.
data Changed {A : Type 0} (x y : A) : List A → List A → Type 0 where
  this : {l : List A} → Changed x y (x ∷ l) (y ∷ l)
  further : {z : A} {l m : List A} → Changed x y l m → Changed x y (z ∷ l) (z ∷ m)

-- The place is in the one part of a list or in the other.
data InParts {A : Type 0} (x y : A) (l m h : List A) : Type 0 where
  in_left : {l' : List A} → Changed x y l l' → h ≡ l' ++ m → InParts x y l m h
  in_right : {m' : List A} → Changed x y m m' → h ≡ l ++ m' → InParts x y l m h

module _ {A : Type 0} {x y : A} where
  changed-at : (l m : List A) → Changed x y (l ++ (x ∷ m)) (l ++ (y ∷ m))
  changed-at [] m = this
  changed-at (z ∷ l) m = further (changed-at l m)

  changed-same : {l m : List A} → Changed x y l m → l ≡ m → x ≡ y
  changed-same this e = head-eq_of_cons-eq e
  changed-same (further r) e = changed-same r (tail-eq_of_cons-eq e)

  changed-sooner : {R : A → A → Type 0} {l m : List A} → R y x → Changed x y l m → NotAfter R m l
  changed-sooner b this = sooner b
  changed-sooner b (further r) = agreed (changed-sooner b r)

  changed-parts : (l : List A) {m h : List A} → Changed x y (l ++ m) h → InParts x y l m h
  changed-parts [] r = in_right r refl
  changed-parts (z ∷ l) this = in_left this refl
  changed-parts (z ∷ l) (further r) = elim (changed-parts l r) [
    | in_left s e ↦ in_left (further s) (ap (λ (h : List A). z ∷ h) e)
    | in_right s e ↦ in_right s (ap (λ (h : List A). z ∷ h) e)
  ]

-- A rule that stands twice serves as well by its other number, at any step of a plan.
module _ (g : List Rule) (at : ℕ → ℕ → Type 0) {R : Rule} {p q : ℕ} (low : Stands g p R) (high : Stands g q R) where
  replaces-too : (X : Symbol) {r : List Symbol} → Replaces g q X r → Replaces g p X r
  replaces-too (word w) x = absurd (no_word g x)
  replaces-too (nonterminal A s) x = (right_side_lem g).0 (rw (stands-get_elem low) (rule-right g R x high))

  renumbered : {f : List Symbol} {i j a b c : ℕ} {l m : List PlanStep} → Yields g at f i j l
      → Changed (plan_step q a b c) (plan_step p a b c) l m → Yields g at f i j m
  renumbered (reads a y) r = reads a (renumbered y r)
  renumbered (replaces {X = X} x y₀ y₁ y₂) this = replaces (replaces-too X x) y₀ y₁ y₂
  renumbered (replaces {first = l₀} {others = l₁} x y₀ y₁ y₂) (further r) = elim (changed-parts (l₀ ++ l₁) r) [
    | in_right r₂ e ↦ rw e (replaces x y₀ y₁ (renumbered y₂ r₂))
    | in_left r e ↦ rw e (elim (changed-parts l₀ r) [
      | in_left r₀ d ↦ rw d (replaces x (renumbered y₀ r₀) y₁ y₂)
      | in_right r₁ d ↦ rw d (replaces x y₀ (renumbered y₁ r₁) y₂)
    ])
  ]
  renumbered nothing r = elim r [ ]

  -- So no step of the first plan has the higher number.
  pub equal-productions : {n : ℕ} {plan : List PlanStep} (before : List PlanStep) (i k j : ℕ) (after : List PlanStep) → p < q
      → FirstPlan g at n plan → plan ≡ before ++ (plan_step q i k j ∷ after) → ⊥
  equal-productions {plan = plan} before i k j after h f e =
      let r : Changed (plan_step q i k j) (plan_step p i k j) plan (before ++ (plan_step p i k j ∷ after)) = rw e (changed-at before after) in
      let b : Before (plan_step p i k j) (plan_step q i k j) = lower_production h in
      let same = changed-same r (not-after-both before-asym (f.first _ (renumbered f.derives r)) (changed-sooner b r)) in
      omega (arith, ap production_in same)
