-- Laws of the functions that the model is made of: what is in a list made place by place, which positions pass a test, what a fold
-- keeps, what adding does. Each by induction on the number of places or on the list, as the function itself goes.
use Prim.Native.Nat.{ℕ, zero, suc, ◌+◌, ◌≤◌, ◌<◌}
use native.Mathlib.Numerals.{add-one}
use native.Mathlib.Nat.{zero-add, add-zero, suc-add, add-suc}
use native.Mathlib.Decide.{ℕ_discrete}
use native.Mathlib.Omega.{arith}
use mathlib.Core.Path.{◌≡◌, refl, sym, ◌∙◌, ap, subst}
use mathlib.Core.Logic.{◌⊎◌, inl, inr}
use mathlib.Core.Bool.{Bool, true, false≢true}
use mathlib.Core.List.Memᴰ
use mathlib.Core.List.{List, [], ◌∷◌, ◌++◌, map, append_assoc, Memᴰ}
use mathlib.Core.Option.{Option, none, some}
use lib.Dec.{ltb}
use lib.ListN.{length, get_elem?}
use borrow.Author.Tests.{ltb-true, ltb-false}
use Rattle.grammar.specs.Lists.{Stands, here, there, Distinct, more, only}
use Rattle.grammar.specs.Lists
use Rattle.grammar.specs.ItemList.{Item, among}
use Rattle.grammar.specs.Chart.{Record, item_of}
use Rattle.grammar.proofs.ListLaws.{in-only, only-in, in_map, map-in}
use Rattle.grammar.proofs.StandsLaws.{none-some, some_same}
use Rattle.grammar.proofs.ItemTests.{choice, among-true, among-mem}
use Rattle.chart_model.specs.Build.{flat_up, fold_up, places_from, added, add_one, add_each}

-- One place more.
pub flat_up-more : {A : Type 0} (f : ℕ → List A) (from m : ℕ) → flat_up f from (m + 1) ≡ flat_up f from m ++ f (from + m)
flat_up-more f from m = rw add-one

pub fold_up-more : {S : Type 0} (f : ℕ → S → S) (m : ℕ) (s : S) → fold_up f (m + 1) s ≡ f m (fold_up f m s)
fold_up-more f m s = rw add-one

-- What is in `flat_up f from m` is in f at some place from `from` on and below from + m.
pub in-flat_up : {A : Type 0} {x : A} (f : ℕ → List A) (from m : ℕ) → Memᴰ x (flat_up f from m)
    → (k : ℕ) × (from ≤ k) × (k < from + m) × Memᴰ x (f k)
in-flat_up f from zero h = absurd (Memᴰ.not-nil h)
in-flat_up f from (suc m) h = elim (Memᴰ.append_cases (flat_up f from m) h) [
  | inl p ↦ let (k, a, b, q) = in-flat_up f from m p in (k, a, omega arith, q)
  | inr p ↦ (from + m, omega arith, omega arith, p)
]

pub flat_up-in : {A : Type 0} {x : A} (f : ℕ → List A) (from m k : ℕ) → from ≤ k → k < from + m → Memᴰ x (f k)
    → Memᴰ x (flat_up f from m)
flat_up-in f from zero k a b h = absurd (omega arith)
flat_up-in {x = x} f from (suc m) k a b h = elim (ℕ_discrete k (from + m)) [
  | yes e ↦ Memᴰ.append_right (flat_up f from m) (subst (λ (i : ℕ). Memᴰ x (f i)) e h)
  | no d ↦ Memᴰ.append_left (f (from + m)) (flat_up-in f from m k a (omega arith) h)
]

-- What each turn keeps holds at the end.
pub fold_up-keeps : {S : Type 0} (I : ℕ → S → Type 0) (f : ℕ → S → S) (m : ℕ) {s : S}
    → ((k : ℕ) (t : S) → k < m → I k t → I (suc k) (f k t)) → I 0 s → I m (fold_up f m s)
fold_up-keeps I f zero turn h = h
fold_up-keeps I f (suc m) {s} turn h =
    turn m (fold_up f m s) (omega arith) (fold_up-keeps I f m (λ k t l. turn k t (omega arith)) h)

-- The positions that pass a test.
pub in-places_from : {x : ℕ} (m : ℕ) (test : Record → Bool) (c : List Record) → Memᴰ x (places_from m test c)
    → (k : ℕ) × (e : Record) × (x ≡ m + k) × Stands c k e × (test e ≡ true)
in-places_from m test [] h = absurd (Memᴰ.not-nil h)
in-places_from m test (r ∷ c) h = elim (Memᴰ.append_cases (only (test r) m) h) [
  | inl p ↦ let (t, e) = in-only (test r) p in (0, r, omega arith, here, t)
  | inr p ↦ let (k, e, q, s, t) = in-places_from (suc m) test c p in (suc k, e, omega arith, there s, t)
]

pub places_from-in : {k : ℕ} {e : Record} {c : List Record} (m : ℕ) (test : Record → Bool) → Stands c k e → test e ≡ true
    → Memᴰ (m + k) (places_from m test c)
places_from-in m test (here {x = r} {l = c}) t =
    Memᴰ.append_left (places_from (suc m) test c) (Memᴰ.cast (omega arith) (only-in (test r) m t))
places_from-in m test (there {y = r} {k = k} s) t =
    Memᴰ.append_right (only (test r) m) (Memᴰ.cast (omega arith) (places_from-in (suc m) test s t))

pub in-places_all : {x : ℕ} (test : Record → Bool) (c : List Record) → Memᴰ x (places_from 0 test c)
    → (e : Record) × Stands c x e × (test e ≡ true)
in-places_all {x} test c h =
    let (k, e, q, s, t) = in-places_from 0 test c h in
    let same : k ≡ x = omega arith in
    (e, subst (λ (i : ℕ). Stands c i e) same s, t)

pub places_all-in : {k : ℕ} {e : Record} {c : List Record} (test : Record → Bool) → Stands c k e → test e ≡ true
    → Memᴰ k (places_from 0 test c)
places_all-in {k} test s t = Memᴰ.cast (sym (zero-add k)) (places_from-in 0 test s t)

pub places_from-append : (m : ℕ) (test : Record → Bool) (c d : List Record)
    → places_from m test (c ++ d) ≡ places_from m test c ++ places_from (m + length c) test d
places_from-append m test [] d = rw add-zero
places_from-append m test (r ∷ c) d =
    rw (places_from-append (suc m) test c d, append_assoc, suc-add, add-suc)

-- The item of some record.
abbrev pub Has : List Record → Item → Type 0
Has c x = Memᴰ x (map item_of c)

-- Adding: the item is there already, or the room holds one more record, or it does not.
pub added-cases : (P : Option (List Record) → Type 0) (room : ℕ) (r : Record) (c : List Record) → (Has c (item_of r) → P (some c))
    → ((Has c (item_of r) → ⊥) → length c < room → P (some (c ++ (r ∷ [])))) → ((Has c (item_of r) → ⊥) → room ≤ length c → P none)
    → P (added room r c)
added-cases P room r c old new full =
    choice P (among (item_of r) (map item_of c)) _ _ (λ t. old (among-true _ _ t)) λ t.
    let lacks : Has c (item_of r) → ⊥ = λ m. false≢true (sym t ∙ among-mem m) in
    choice P (ltb (length c) room) _ _ (λ u. new lacks (ltb-true _ _ u)) (λ u. full lacks (ltb-false _ _ u))

-- Adding to no chart; and in two parts.
pub add_each-none : (room : ℕ) (rs : List Record) → add_each room rs none ≡ none
add_each-none room [] = refl
add_each-none room (r ∷ rs) = add_each-none room rs

pub add_each-append : (room : ℕ) (xs ys : List Record) (s : Option (List Record))
    → add_each room (xs ++ ys) s ≡ add_each room ys (add_each room xs s)
add_each-append room [] ys s = refl
add_each-append room (x ∷ xs) ys s = add_each-append room xs ys (add_one room x s)

-- A list that is there only if an option holds something.
pub in-option : {A B : Type 0} {x : B} (f : A → List B) (o : Option A) → Memᴰ x (elim o [ none ↦ [] | some a ↦ f a ])
    → (a : A) × (o ≡ some a) × Memᴰ x (f a)
in-option f none h = absurd (Memᴰ.not-nil h)
in-option f (some a) h = (a, refl, h)

pub option-in : {A B : Type 0} {x : B} {a : A} (f : A → List B) (o : Option A) → o ≡ some a → Memᴰ x (f a)
    → Memᴰ x (elim o [ none ↦ [] | some b ↦ f b ])
option-in f none e h = absurd (none-some e)
option-in {x = x} f (some b) e h = subst (λ c. Memᴰ x (f c)) (sym (some_same e)) h

-- The values over a longer list; what stands in a list with more after it, and in one with one more; one new element more.
pub map-wider : {A B : Type 0} {y : B} (f : A → B) (l l' : List A) → ((x : A) → Memᴰ x l → Memᴰ x l')
    → Memᴰ y (map f l) → Memᴰ y (map f l')
map-wider f l l' h m = let (x, p, e) = in_map f l m in Memᴰ.cast e (map-in f (h x p))

pub stands-append : {A : Type 0} {l : List A} {k : ℕ} {x : A} (t : List A) → Stands l k x → Stands (l ++ t) k x
stands-append t here = here
stands-append t (there s) = there (stands-append t s)

pub get_elem-append : {A : Type 0} (l t : List A) (k : ℕ) → k < length l → get_elem? (l ++ t) k ≡ get_elem? l k
get_elem-append [] t k h = absurd (omega arith)
get_elem-append (x ∷ l) t zero h = refl
get_elem-append (x ∷ l) t (suc k) h = get_elem-append l t k (omega arith)

pub stands-last : {A : Type 0} (l : List A) (x : A) → Stands (l ++ (x ∷ [])) (length l) x
stands-last [] x = here
stands-last (y ∷ l) x = there (stands-last l x)

pub stands-cases : {A : Type 0} {x y : A} {k : ℕ} (l : List A) → Stands (l ++ (y ∷ [])) k x
    → Stands l k x ⊎ ((k ≡ length l) × (x ≡ y))
stands-cases [] here = inr (refl, refl)
stands-cases (z ∷ l) here = inl here
stands-cases (z ∷ l) (there s) = elim (stands-cases l s) [ inl p ↦ inl (there p) | inr e ↦ inr (ap suc e.0, e.1) ]
stands-cases [] (there s) = elim s [ ]

pub distinct-last : {A : Type 0} {x : A} {l : List A} → Distinct l → (Memᴰ x l → ⊥) → Distinct (l ++ (x ∷ []))
distinct-last Lists.none new = more new Lists.none
distinct-last {x = x} (more {x = y} {l = l} old d) new =
    more fresh (distinct-last d (λ m. new (Memᴰ.tail m)))
  where
    fresh : Memᴰ y (l ++ (x ∷ [])) → ⊥
    fresh m = elim (Memᴰ.append_cases l m) [
      | inl p ↦ old p
      | inr p ↦ new (Memᴰ.head (sym (Memᴰ.eq_of_singleton p)))
    ]
