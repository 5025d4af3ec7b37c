-- The list `items` holds the derived items, each once. Sound: what follows from derived items is derived. Complete: a list that
-- holds all that follows from it holds every derived item, and the rounds end in one, since else each makes the list longer.
use Prim.Native.Nat.{ℕ, zero, suc, ◌+◌, ◌≤◌, ◌<◌}
use native.Mathlib.Nat.{le_antisymm, le_refl}
use native.Mathlib.Omega.{arith}
use mathlib.Core.Path.{◌≡◌, refl, sym, ◌∙◌, subst}
use mathlib.Core.Logic.{inl, inr}
use mathlib.Core.Bool.{Bool, true, false, false≢true}
use mathlib.Core.List.Memᴰ
use mathlib.Core.List.{List, [], ◌∷◌, Memᴰ}
use lib.ListN.{length}
use lib.Dec.{eqb}
use borrow.Author.Tests.{eqb-true, eqb-false}
use Rattle.grammar.specs.Lists.{Stands, Distinct, none, more, concat_map}
use Rattle.grammar.specs.Rewriting.{Rule, Spine, Action}
use Rattle.grammar.specs.Input.{Holds, Below}
use Rattle.grammar.specs.Items.{Foot, bare, Derived, word_step, take_step, keep_step, give_step, Sides, no_side, next_side}
use Rattle.grammar.specs.ItemList.{Item, item, among, end_of, ends, consequences, add_all, rounds, extent, most_items, items}
use Rattle.grammar.proofs.ListLaws.{distinct-length, in-concat_map, concat_map-in, in-stands, stands-in}
use Rattle.grammar.proofs.Bounds.{derived-bounds}
use Rattle.grammar.proofs.ItemTests.{choice, in-end_of, end_of-in}
pub use Rattle.grammar.proofs.ItemTests.{among-true, among-mem}
use Rattle.grammar.proofs.ItemSteps.{Makes, taken, kept, given, Follows, by_word, by_spine, in-consequences, consequences-in}
use Rattle.grammar.proofs.ItemUniverse.{universe, length-universe, universe-in}

-- An item is added to a list if it is not there.
add-cases : (P : List Item → Type 0) (x : Item) (k : List Item) → (Memᴰ x k → P k)
    → ((Memᴰ x k → ⊥) → P (x ∷ k)) → P (elim (among x k) [ true ↦ k | false ↦ x ∷ k ])
add-cases P x k old new =
    choice P (among x k) k (x ∷ k) (λ e. old (among-true x k e)) (λ e. new (λ m. false≢true (sym e ∙ among-mem m)))

-- The items of xs that l lacks, put before l.
add_all-all : (P : Item → Type 0) (xs l : List Item) → ((x : Item) → Memᴰ x xs → P x)
    → ((x : Item) → Memᴰ x l → P x) → (x : Item) → Memᴰ x (add_all xs l) → P x
add_all-all P [] l f h = h
add_all-all P (y ∷ xs) l f h =
    let r = add_all-all P xs l (λ x m. f x (Memᴰ.tail m)) h in
    add-cases (λ k. (x : Item) → Memᴰ x k → P x) y (add_all xs l) (λ _. r) λ _ x m.
    elim (Memᴰ.cases_cons m) [ inl e ↦ f x (Memᴰ.head e) | inr p ↦ r x p ]

add_all-in : {x : Item} {xs : List Item} (l : List Item) → Memᴰ x xs → Memᴰ x (add_all xs l)
add_all-in {x} l (Memᴰ.head {x = y} {xs = xs} e) =
    add-cases (Memᴰ x) y (add_all xs l) (λ m. Memᴰ.cast e m) (λ _. Memᴰ.head e)
add_all-in {x} l (Memᴰ.tail {x = y} {xs = xs} m) =
    let p = add_all-in l m in
    add-cases (Memᴰ x) y (add_all xs l) (λ _. p) (λ _. Memᴰ.tail p)

add_all-distinct : (xs : List Item) {l : List Item} → Distinct l → Distinct (add_all xs l)
add_all-distinct [] d = d
add_all-distinct (x ∷ xs) {l} d =
    let r = add_all-distinct xs d in
    add-cases Distinct x (add_all xs l) (λ _. r) (λ new. more new r)

add_all-longer : (xs l : List Item) → length l ≤ length (add_all xs l)
add_all-longer [] l = le_refl (length l)
add_all-longer (x ∷ xs) l =
    let h = add_all-longer xs l in
    add-cases (λ k. length l ≤ length k) x (add_all xs l) (λ _. h) (λ _. omega arith)

add_all-same : (xs l : List Item) → length (add_all xs l) ≡ length l → add_all xs l ≡ l
add_all-same [] l e = refl
add_all-same (x ∷ xs) l e =
    let h = add_all-longer xs l in
    add-cases (λ k. length k ≡ length l → k ≡ l) x (add_all xs l) (λ _. add_all-same xs l) (λ _ e'. absurd (omega arith)) e

-- An item is derived; all items of a list are.
abbrev IsDerived : List Rule → (ℕ → ℕ → Bool) → Item → Type 0
IsDerived g at (item A i j φ) = Derived g (Holds at) A i j φ

abbrev AllDerived : List Rule → (ℕ → ℕ → Bool) → List Item → Type 0
AllDerived g at l = (x : Item) → Memᴰ x l → IsDerived g at x

-- What follows from derived items is derived.
module _ (g : List Rule) (at : ℕ → ℕ → Bool) (l : List Item) (h : AllDerived g at l) where
  ends-sound : {j : ℕ} (Bs : List ℕ) (i : ℕ) → Memᴰ j (ends l Bs i) → Sides g (Holds at) Bs i j
  ends-sound [] i m = subst (Sides g (Holds at) [] i) (sym (Memᴰ.eq_of_singleton m)) no_side
  ends-sound (B ∷ Bs) i m =
      let (k, p, q) = in-concat_map (ends l Bs) (concat_map (end_of B i) l) m in
      next_side (h (item B i k bare) (in-end_of l B i p)) (ends-sound Bs k q)

  makes-sound : {p A D i k m j : ℕ} {a : Action} {before after : List ℕ} {ψ φ : Foot} → Stands g p (Spine A a before D after)
      → Sides g (Holds at) before i k → Derived g (Holds at) D k m ψ → Sides g (Holds at) after m j → Makes l a D k m ψ φ
      → Derived g (Holds at) A i j φ
  makes-sound s b d a taken = take_step s b d a
  makes-sound s b d a kept = keep_step s b d a
  makes-sound s b d a (given {B = B} {p = p} {q = q} {φ = φ} m) = give_step s b d a (h (item B p q φ) m)

  follows-sound : {i : ℕ} {x : Item} → Follows g at l i x → IsDerived g at x
  follows-sound (by_word r e) = word_step (in-stands r).1 e
  follows-sound {i} (by_spine {D = D} {k = k} {m = m} {before = before} {after = after} {ψ = ψ} r b d a s) =
      makes-sound (in-stands r).1 (ends-sound before i b) (h (item D k m ψ) d) (ends-sound after m a) s

  added-sound : (n : ℕ) → AllDerived g at (add_all (consequences g at n l) l)
  added-sound n =
      add_all-all (IsDerived g at) (consequences g at n l) l (λ x m. follows-sound (in-consequences g at n l m).1) h

-- A list that holds all that follows from it holds every derived item.
abbrev Closed : List Rule → (ℕ → ℕ → Bool) → ℕ → List Item → Type 0
Closed g at n l = (x : Item) → Memᴰ x (consequences g at n l) → Memᴰ x l

module _ {g : List Rule} {at : ℕ → ℕ → Bool} (n : ℕ) (below : Below (Holds at) n) (l : List Item)
    (closed : Closed g at n l) where
  closed-follows : {A i j : ℕ} {φ : Foot} → Derived g (Holds at) A i j φ → Follows g at l i (item A i j φ)
      → Memᴰ (item A i j φ) l
  closed-follows {i = i} d f =
      let b = derived-bounds n below d in
      let start : i < n = omega arith in
      closed _ (consequences-in n start f)

  mutual
    closed-derived : {A i j : ℕ} {φ : Foot} → Derived g (Holds at) A i j φ → Memᴰ (item A i j φ) l
    closed-derived (word_step s e) = closed-follows (word_step s e) (by_word (stands-in s) e)
    closed-derived (take_step s b d a) =
        closed-follows (take_step s b d a) (by_spine (stands-in s) (closed-sides b) (closed-derived d) (closed-sides a) taken)
    closed-derived (keep_step s b d a) =
        closed-follows (keep_step s b d a) (by_spine (stands-in s) (closed-sides b) (closed-derived d) (closed-sides a) kept)
    closed-derived (give_step s b d a c) =
        let m = given (closed-derived c) in
        closed-follows (give_step s b d a c) (by_spine (stands-in s) (closed-sides b) (closed-derived d) (closed-sides a) m)

    closed-sides : {Bs : List ℕ} {i j : ℕ} → Sides g (Holds at) Bs i j → Memᴰ j (ends l Bs i)
    closed-sides no_side = Memᴰ.head refl
    closed-sides (next_side {Bs = Bs} d s) = concat_map-in (ends l Bs) (end_of-in (closed-derived d)) (closed-sides s)

-- The rounds end if one adds nothing.
module _ (g : List Rule) (at : ℕ → ℕ → Bool) (n : ℕ) where
  abbrev added : List Item → List Item
  added l = add_all (consequences g at n l) l

  round-cases : (P : List Item → Type 0) (fuel : ℕ) (l : List Item) → (length (added l) ≡ length l → P l)
      → ((length (added l) ≡ length l → ⊥) → P (rounds g at n fuel (added l))) → P (rounds g at n (suc fuel) l)
  round-cases P fuel l end on =
      choice P (eqb (length (added l)) (length l)) l _ (λ e. end (eqb-true _ _ e)) (λ e. on (eqb-false _ _ e))

  rounds-sound : (fuel : ℕ) (l : List Item) → AllDerived g at l → AllDerived g at (rounds g at n fuel l)
  rounds-sound zero l h = h
  rounds-sound (suc fuel) l h =
      round-cases (AllDerived g at) fuel l (λ _. h) (λ _. rounds-sound fuel (added l) (added-sound g at l h n))

  added-distinct : {l : List Item} → Distinct l → Distinct (added l)
  added-distinct {l} d = add_all-distinct (consequences g at n l) d

  rounds-distinct : (fuel : ℕ) (l : List Item) → Distinct l → Distinct (rounds g at n fuel l)
  rounds-distinct zero l d = d
  rounds-distinct (suc fuel) l d =
      round-cases Distinct fuel l (λ _. d) (λ _. rounds-distinct fuel (added l) (added-distinct d))

  added-closed : (l : List Item) → length (added l) ≡ length l → Closed g at n l
  added-closed l e x m = subst (Memᴰ x) (add_all-same (consequences g at n l) l e) (add_all-in l m)

  length_most : Below (Holds at) n → (l : List Item) → AllDerived g at l → Distinct l → length l ≤ most_items (extent g) n
  length_most below l h d = omega (arith, length-universe (extent g) n, distinct-length d held)
    where
      held : (x : Item) → Memᴰ x l → Memᴰ x (universe (extent g) n)
      held (item A i j φ) m = universe-in n below (h (item A i j φ) m)

  rounds-closed : Below (Holds at) n → (fuel : ℕ) (l : List Item) → AllDerived g at l → Distinct l
      → most_items (extent g) n < fuel + length l → Closed g at n (rounds g at n fuel l)
  rounds-closed below zero l h d e = let m = length_most below l h d in absurd (omega arith)
  rounds-closed below (suc fuel) l h d e = round-cases (Closed g at n) fuel l (added-closed l) λ differ.
      let longer = add_all-longer (consequences g at n l) l in
      rounds-closed below fuel (added l) (added-sound g at l h n) (added-distinct d) (omega arith)

  -- The list is exact.
  none-derived : AllDerived g at []
  none-derived x m = absurd (Memᴰ.not-nil m)

  pub items-sound : (A i j : ℕ) (φ : Foot) → Memᴰ (item A i j φ) (items g at n) → Derived g (Holds at) A i j φ
  items-sound A i j φ m = rounds-sound (suc (most_items (extent g) n)) [] none-derived (item A i j φ) m

  pub items-complete : Below (Holds at) n → (A i j : ℕ) (φ : Foot) → Derived g (Holds at) A i j φ
      → Memᴰ (item A i j φ) (items g at n)
  items-complete below A i j φ d =
      let closed = rounds-closed below (suc (most_items (extent g) n)) [] none-derived none (omega arith) in
      closed-derived n below (items g at n) closed d

  pub items-distinct : Distinct (items g at n)
  items-distinct = rounds-distinct (suc (most_items (extent g) n)) [] none

-- Two lists of the same items, each once, have the same length.
pub exact-length : (l l' : List Item) → Distinct l → Distinct l' → ((x : Item) → Memᴰ x l → Memᴰ x l')
    → ((x : Item) → Memᴰ x l' → Memᴰ x l) → length l ≡ length l'
exact-length l l' d d' f f' = le_antisymm (distinct-length d f) (distinct-length d' f')
