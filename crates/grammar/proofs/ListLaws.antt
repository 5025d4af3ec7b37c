-- Laws of lists: what is in a list that is made of others, and how long it is; and the pigeonhole: to compare lengths, each
-- element of the distinct list is taken out of the list that holds it, which is then one shorter and still holds the rest.
use Prim.Native.Nat.{ℕ, zero, suc, ◌*◌, ◌≤◌, ◌<◌, zero-le}
use native.Mathlib.Nat.{suc-mul, zero-mul, not-suc-le-zero}
use native.Mathlib.Omega.{arith}
use native.Mathlib.Decide.{ℕ_discrete}
use mathlib.Core.Path.{◌≡◌, refl, sym, ◌∙◌, ap, subst}
use mathlib.Core.Logic.{◌⊎◌, inl, inr}
use mathlib.Core.Bool.{Bool, true, false, ◌&&◌, ◌||◌, and-false, or-true, false≢true}
use mathlib.Core.List.Memᴰ
use mathlib.Core.List.{List, [], ◌∷◌, map, Memᴰ}
use lib.Dec.{eqb}
use lib.ListN.{length, length-append}
use borrow.Author.Tests.{eq-eqb}
use Rattle.grammar.specs.Lists.{Stands, here, there, Distinct, none, more, concat_map, only, up_to, all_of, some_of}

-- A number is itself.
pub eqb-self : (n : ℕ) → eqb n n ≡ true
eqb-self n = eq-eqb n n refl

-- The parts of a concatenation.
pub in-concat_map : {A B : Type 0} {x : B} (f : A → List B) (l : List A) → Memᴰ x (concat_map f l)
    → (y : A) × Memᴰ y l × Memᴰ x (f y)
in-concat_map f [] m = absurd (Memᴰ.not-nil m)
in-concat_map f (z ∷ l) m = elim (Memᴰ.append_cases (f z) m) [
  | inl p ↦ (z, Memᴰ.head refl, p)
  | inr p ↦ let (y, q, r) = in-concat_map f l p in (y, Memᴰ.tail q, r)
]

pub concat_map-in : {A B : Type 0} {x : B} {y : A} {l : List A} (f : A → List B) → Memᴰ y l → Memᴰ x (f y)
    → Memᴰ x (concat_map f l)
concat_map-in {x = x} f (Memᴰ.head {xs = l} e) m =
    Memᴰ.append_left (concat_map f l) (subst (λ w. Memᴰ x (f w)) e m)
concat_map-in f (Memᴰ.tail {x = z} n) m = Memᴰ.append_right (f z) (concat_map-in f n m)

pub length-concat_map : {A B : Type 0} (f : A → List B) (c : ℕ) → ((x : A) → length (f x) ≡ c) → (l : List A)
    → length (concat_map f l) ≡ length l * c
length-concat_map f c h [] = sym (zero-mul c)
length-concat_map f c h (x ∷ l) =
    omega (arith, length-append (f x) (concat_map f l), h x, length-concat_map f c h l, suc-mul (length l) c)

-- An element under a test.
pub in-only : {A : Type 0} {x y : A} (b : Bool) → Memᴰ y (only b x) → (b ≡ true) × (y ≡ x)
in-only true m = (refl, Memᴰ.eq_of_singleton m)
in-only false m = absurd (Memᴰ.not-nil m)

pub only-in : {A : Type 0} (b : Bool) (x : A) → b ≡ true → Memᴰ x (only b x)
only-in true x e = Memᴰ.head refl
only-in false x e = absurd (false≢true e)

-- A test of every element: one that fails is found, and none fails where it holds. A test of some one, both ways.
module _ {A : Type 0} (test : A → Bool) where
  pub not-all-of : (l : List A) → all_of test l ≡ false → (x : A) × Memᴰ x l × (test x ≡ false)
  not-all-of [] e = absurd (false≢true (sym e))
  not-all-of (x ∷ l) e = go (test x) refl e (not-all-of l)
    where
      go : (t : Bool) → test x ≡ t → (t && all_of test l) ≡ false
          → (all_of test l ≡ false → (y : A) × Memᴰ y l × (test y ≡ false)) → (y : A) × Memᴰ y (x ∷ l) × (test y ≡ false)
      go true h e further = let (y, m, f) = further e in (y, Memᴰ.tail m, f)
      go false h e further = (x, Memᴰ.head refl, h)

  pub of-all : {x : A} (l : List A) → all_of test l ≡ true → Memᴰ x l → test x ≡ true
  of-all {x} l e m = go (test x) refl
    where
      one-fails : (l : List A) → Memᴰ x l → test x ≡ false → all_of test l ≡ false
      one-fails (y ∷ l) (Memᴰ.head same) f = rw (← same, f)
      one-fails (y ∷ l) (Memᴰ.tail m) f = rw (one-fails l m f) (and-false (test y))
      one-fails [] h f = elim h [ ]

      go : (t : Bool) → test x ≡ t → t ≡ true
      go true h = refl
      go false h = sym (one-fails l m h) ∙ e

  pub some_of_lem : {x : A} (l : List A) → Memᴰ x l → test x ≡ true → some_of test l ≡ true
  some_of_lem (y ∷ l) (Memᴰ.head same) e = rw (← same, e)
  some_of_lem (y ∷ l) (Memᴰ.tail m) e = rw (some_of_lem l m e) (or-true (test y))
  some_of_lem [] h e = elim h [ ]

  pub of_some : (l : List A) → some_of test l ≡ true → (x : A) × Memᴰ x l × (test x ≡ true)
  of_some [] e = absurd (false≢true e)
  of_some (x ∷ l) e = go (test x) refl e (of_some l)
    where
      go : (t : Bool) → test x ≡ t → (t || some_of test l) ≡ true
          → (some_of test l ≡ true → (y : A) × Memᴰ y l × (test y ≡ true)) → (y : A) × Memᴰ y (x ∷ l) × (test y ≡ true)
      go true h e further = (x, Memᴰ.head refl, h)
      go false h e further = let (y, m, f) = further e in (y, Memᴰ.tail m, f)

-- The numbers below a bound.
pub in-up_to : {k : ℕ} (n : ℕ) → Memᴰ k (up_to n) → k < n
in-up_to zero m = absurd (Memᴰ.not-nil m)
in-up_to (suc n) m = elim (Memᴰ.cases_cons m) [
  | inl e ↦ omega arith
  | inr p ↦ omega (arith, in-up_to n p)
]

pub up_to-in : {k : ℕ} (n : ℕ) → k < n → Memᴰ k (up_to n)
up_to-in zero h = absurd (not-suc-le-zero h)
up_to-in {k} (suc n) h = elim (ℕ_discrete k n) [
  | yes e ↦ Memᴰ.head e
  | no d ↦ Memᴰ.tail (up_to-in n (omega arith))
]

pub length-up_to : (n : ℕ) → length (up_to n) ≡ n
length-up_to zero = refl
length-up_to (suc n) = ap suc (length-up_to n)

-- The values of a function.
pub in_map : {A B : Type 0} {y : B} (f : A → B) (l : List A) → Memᴰ y (map f l) → (x : A) × Memᴰ x l × (y ≡ f x)
in_map f [] m = absurd (Memᴰ.not-nil m)
in_map f (z ∷ l) m = elim (Memᴰ.cases_cons m) [
  | inl e ↦ (z, Memᴰ.head refl, e)
  | inr p ↦ let (x, q, e) = in_map f l p in (x, Memᴰ.tail q, e)
]

pub map-in : {A B : Type 0} {x : A} {l : List A} (f : A → B) → Memᴰ x l → Memᴰ (f x) (map f l)
map-in f (Memᴰ.head e) = Memᴰ.head (ap f e)
map-in f (Memᴰ.tail m) = Memᴰ.tail (map-in f m)

-- A member has a place, and what has a place is a member.
pub stands-in : {A : Type 0} {x : A} {k : ℕ} {l : List A} → Stands l k x → Memᴰ x l
stands-in here = Memᴰ.head refl
stands-in (there s) = Memᴰ.tail (stands-in s)

pub in-stands : {A : Type 0} {x : A} {l : List A} → Memᴰ x l → (k : ℕ) × Stands l k x
in-stands (Memᴰ.head {x = y} {xs = l} e) = (0, subst (λ z. Stands (y ∷ l) 0 z) (sym e) here)
in-stands (Memᴰ.tail m) = let (k, s) = in-stands m in (suc k, there s)

-- The list without one member.
without : {A : Type 0} {x : A} {l : List A} → Memᴰ x l → List A
without (Memᴰ.head {xs = l} e) = l
without (Memᴰ.tail {x = z} m) = z ∷ without m

length_without : {A : Type 0} {x : A} {l : List A} (m : Memᴰ x l) → length l ≡ suc (length (without m))
unfolding without
length_without (Memᴰ.head e) = refl
length_without (Memᴰ.tail m) = ap suc (length_without m)

in_without : {A : Type 0} {x y : A} {l : List A} (m : Memᴰ x l) → Memᴰ y l → (y ≡ x) ⊎ Memᴰ y (without m)
unfolding without
in_without (Memᴰ.head e) n = elim (Memᴰ.cases_cons n) [ inl d ↦ inl (d ∙ sym e) | inr p ↦ inr p ]
in_without (Memᴰ.tail m) n = elim (Memᴰ.cases_cons n) [
  | inl d ↦ inr (Memᴰ.head d)
  | inr p ↦ elim (in_without m p) [ inl d ↦ inl d | inr q ↦ inr (Memᴰ.tail q) ]
]

-- The pigeonhole.
pub distinct-length : {A : Type 0} {l l' : List A} → Distinct l → ((x : A) → Memᴰ x l → Memᴰ x l')
    → length l ≤ length l'
distinct-length none h = zero-le
distinct-length {A} {l' = l'} (more {x} {l} new d) h = omega (arith, length_without m, distinct-length d rest)
  where
    m : Memᴰ x l'
    m = h x (Memᴰ.head refl)

    rest : (y : A) → Memᴰ y l → Memᴰ y (without m)
    rest y n = elim (in_without m (h y (Memᴰ.tail n))) [ inl e ↦ absurd (new (Memᴰ.cast (sym e) n)) | inr p ↦ p ]
