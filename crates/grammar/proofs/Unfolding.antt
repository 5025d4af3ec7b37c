-- A justified record's stretch is longer than those of its antecedents, for each takes at least one word; so a depth that bounds
-- the stretch bounds the unfolding, and what is pending has, by the foot, the very name and stretch that a take left open.
use Prim.Native.Nat.{ℕ, zero, suc, ◌≤◌, ◌<◌}
use native.Mathlib.Nat.{le_trans}
use native.Mathlib.Omega.{arith}
use mathlib.Core.Path.{◌≡◌, subst}
use mathlib.Core.List.{List, [], ◌∷◌, ◌++◌, append-nil}
use Rattle.grammar.specs.Lists.{Stands}
use Rattle.grammar.specs.Rewriting.{Rule, Action, Symbol, Replaces, Acts, takes, keeps, gives}
use Rattle.grammar.specs.Items.{Foot, Derived, word_step, take_step, keep_step, give_step, Sides, no_side, next_side}
use Rattle.grammar.specs.ItemList.{Item, item}
use Rattle.grammar.specs.Plan.{PlanStep, plan_step, first_of, others_of, Yields, nothing, replaces}
use Rattle.grammar.specs.Chart.{Record, recorded, item_of, Earlier, earlier, Results, taken, kept, given}
use Rattle.grammar.specs.Chart.{Justified, by_word, side_first, side_last, onward, Pends, awaits}

-- The parts of an item.
abbrev name_of : Item → ℕ
name_of (item A i j φ) = A

abbrev start_of : Item → ℕ
start_of (item A i j φ) = i

abbrev end_of : Item → ℕ
end_of (item A i j φ) = j

abbrev item_foot : Item → Foot
item_foot (item A i j φ) = φ

-- `Goes c A i j x s pending`: at position x stands a record of A over i to j, and pending records fit its foot and the stack s.
pub data Goes (c : List Record) (A i j x : ℕ) (s pending : List ℕ) : Type 0 where
  goes : {φ : Foot} {p y z u : ℕ} → Stands c x (recorded (item A i j φ) p y z u) → Pends c φ s pending → Goes c A i j x s pending

-- After a step the spine goes on with such a record of the dependent.
pub record Onwards (c : List Record) (a : Action) (D k j y z : ℕ) (s pending : List ℕ) : Type 0 where
  pub stack : List ℕ
  pub acts : Acts a s stack
  pub rest : Goes c D k j (onward a y z pending).position stack (onward a y z pending).pending

pub onwards : {c : List Record} {m D k j y z : ℕ} {a : Action} {ψ φ : Foot} {s pending : List ℕ} → Results c m a D k j ψ z φ
    → Earlier c m y (item D k j ψ) → Pends c φ s pending → Onwards c a D k j y z s pending
onwards taken y (awaits r ps) = record { stack = _; acts = takes; rest = goes r ps }
onwards kept (earlier l y) ps = record { stack = _; acts = keeps; rest = goes y ps }
onwards (given (earlier l' z)) (earlier l y) ps = record { stack = _; acts = gives; rest = goes y (awaits z ps) }

-- An item takes at least one word.
mutual
  pub derived-longer : {g : List Rule} {at : ℕ → ℕ → Type 0} {A i j : ℕ} {φ : Foot} → Derived g at A i j φ → i < j
  derived-longer (word_step s a) = omega arith
  derived-longer (take_step s l d r) = let x = sides-long l in let y = derived-longer d in let z = sides-long r in omega arith
  derived-longer (keep_step s l d r) = let x = sides-long l in let y = derived-longer d in let z = sides-long r in omega arith
  derived-longer (give_step s l d r e) = let x = sides-long l in let y = derived-longer d in let z = sides-long r in omega arith

  pub sides-long : {g : List Rule} {at : ℕ → ℕ → Type 0} {Bs : List ℕ} {i j : ℕ} → Sides g at Bs i j → i ≤ j
  sides-long no_side = omega arith
  sides-long (next_side d l) = let x = derived-longer d in let y = sides-long l in omega arith

pub earlier-below : {c : List Record} {m n x : ℕ} {it : Item} → m ≤ n → Earlier c m x it → Earlier c n x it
earlier-below h (earlier l s) = earlier (le_trans l h) s

module _ (g : List Rule) (at : ℕ → ℕ → Type 0) where
  abbrev DerivedItem : Item → Type 0
  DerivedItem it = Derived g at (name_of it) (start_of it) (end_of it) (item_foot it)

  -- A step whose nonterminal stands alone.
  pub step-yields : {p i k j : ℕ} {X : Symbol} {r : List Symbol} {ps qs : List PlanStep} → Replaces g p X r → Yields g at (first_of r) i k ps
      → Yields g at (others_of r) k j qs → Yields g at (X ∷ []) i j (plan_step p i k j ∷ (ps ++ qs))
  step-yields {ps = ps} {qs = qs} r x y = rw (← append-nil (ps ++ qs)) (replaces r x y nothing)

  -- A record is derived if its antecedents are.
  pub derived-step : {c : List Record} {m : ℕ} {e : Record} → Justified g at c m e
      → ((x : ℕ) (it : Item) → Earlier c m x it → DerivedItem it) → DerivedItem (item_of e)
  derived-step (by_word s a) from = word_step s a
  derived-step (side_first s x y taken) from = take_step s (next_side (from _ _ x) no_side) (from _ _ y) no_side
  derived-step (side_first s x y kept) from = keep_step s (next_side (from _ _ x) no_side) (from _ _ y) no_side
  derived-step (side_first s x y (given z)) from = give_step s (next_side (from _ _ x) no_side) (from _ _ y) no_side (from _ _ z)
  derived-step (side_last s y x taken) from = take_step s no_side (from _ _ y) (next_side (from _ _ x) no_side)
  derived-step (side_last s y x kept) from = keep_step s no_side (from _ _ y) (next_side (from _ _ x) no_side)
  derived-step (side_last s y x (given z)) from = give_step s no_side (from _ _ y) (next_side (from _ _ x) no_side) (from _ _ z)

module _ (g : List Rule) (at : ℕ → ℕ → Type 0) (c : List Record)
    (justified : (m : ℕ) (e : Record) → Stands c m e → Justified g at c m e) where
  pub derived-below : (bound : ℕ) (x : ℕ) (it : Item) → Earlier c bound x it → DerivedItem g at it
  derived-below zero x it (earlier l s) = absurd (omega arith)
  derived-below (suc bound) x it (earlier l s) =
      derived-step g at (justified x _ s) (λ y it' v. derived-below bound y it' (earlier-below (omega arith) v))

  pub justified-derived : {m A i j : ℕ} {φ : Foot} {e : Record} → Stands c m e → item_of e ≡ item A i j φ → Derived g at A i j φ
  justified-derived {m} {e = recorded it p x y z} s h = subst (DerivedItem g at) h (derived-below (suc m) m it (earlier (omega arith) s))

  pub justified-longer : {m A i j : ℕ} {φ : Foot} {e : Record} → Stands c m e → item_of e ≡ item A i j φ → i < j
  justified-longer s h = derived-longer (justified-derived s h)
