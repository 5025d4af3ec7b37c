-- A cell has no candidates where no rule makes any: none for its word, and none at any split of its span.
-- And a rule makes none of a dependent that is not there. Each list is empty since each of its parts is.
use Prim.Native.Nat.{ℕ, zero, suc, ◌+◌, ◌-◌, ◌≤◌, ◌<◌}
use native.Mathlib.Omega.{arith}
use mathlib.Core.Path.{◌≡◌, refl}
use mathlib.Core.Bool.{Bool, true, false}
use mathlib.Core.List.{List, [], ◌∷◌}
use mathlib.Core.Option.{Option, none, some}
use lib.ListN.{length, get_elem?}
use Rattle.grammar.specs.Lists.{concat_map}
use Rattle.grammar.specs.Rewriting.{Rule, Action, Take, Keep, Give}
use Rattle.grammar.specs.Chart.{Record}
use Rattle.chart_model.specs.Build.{flat_up, places, by_action, by_rule, rule_at, across_splits, by_rule_over, by_production, candidates}

pub concat_map-none : {A B : Type 0} (f : A → List B) (l : List A) → ((x : A) → f x ≡ []) → concat_map f l ≡ []
concat_map-none f [] h = refl
concat_map-none f (x ∷ l) h = rw (h x, concat_map-none f l h)

pub flat_up-none : {A : Type 0} (f : ℕ → List A) (from m : ℕ) → ((k : ℕ) → from ≤ k → k < from + m → f k ≡ []) → flat_up f from m ≡ []
flat_up-none f from zero h = refl
flat_up-none f from (suc m) h =
    rw (flat_up-none f from m (λ k a b. h k a (omega arith)), h (from + m) (omega arith) (omega arith))

pub choice-none : {A : Type 0} (b : Bool) (l : List A) → l ≡ [] → ◌≡◌ {A = List A} (elim b [ true ↦ l | false ↦ [] ]) []
choice-none true l e = e
choice-none false l e = refl

option-none : {A B : Type 0} (f : A → List B) (o : Option A) → ((a : A) → o ≡ some a → f a ≡ [])
    → ◌≡◌ {A = List B} (elim o [ none ↦ [] | some a ↦ f a ]) []
option-none f none h = refl
option-none f (some a) h = h a refl

pub action-none : (c : List Record) (a : Action) (D k m A i j p x : ℕ) → places c D k m ≡ [] → by_action c a D k m A i j p x ≡ []
action-none c (Take γ) D k m A i j p x e = rw e
action-none c Keep D k m A i j p x e = rw e
action-none c (Give γ) D k m A i j p x e = rw e

-- A production adds nothing over a span where it has nothing at any split; and a cell has no candidates where no production adds any.
pub splits-none : (c : List Record) (A i j p : ℕ) (r : Rule) → ((k : ℕ) → i < k → k < j → by_rule c A i k j p r ≡ [])
    → across_splits c A i j p r ≡ []
splits-none c A i j p r h = flat_up-none (rule_at c A i j p r) (suc i) (j - suc i) (λ k a b. h k a (omega arith))

pub candidates-none : (g : List Rule) (at : ℕ → ℕ → Bool) (c : List Record) (A i len : ℕ)
    → ((p : ℕ) (r : Rule) → get_elem? g p ≡ some r → by_rule_over at c A i len p r ≡ []) → candidates g at c A i len ≡ []
candidates-none g at c A i len h =
    flat_up-none (by_production g at c A i len) 0 (length g)
    (λ p a b. option-none (by_rule_over at c A i len p) (get_elem? g p) (λ r e. h p r e))
