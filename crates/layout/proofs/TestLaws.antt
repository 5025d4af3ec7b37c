-- Laws of the tests of the definitions, over plain lists and numbers: a test of all holds where each one holds, and
-- does not where some one does not. The proofs of the functions cite them at what their loops have shown.
use Prim.Native.Nat.{ℕ, zero, suc, ◌<◌, ◌≤◌}
use native.Mathlib.Omega.{arith}
use native.Mathlib.Decide.{ℕ_discrete}
use mathlib.Core.Path.{◌≡◌, refl, sym, ◌∙◌, ap, ap₂}
use mathlib.Core.Bool.{Bool, true, false, not, ◌&&◌, ◌||◌, and-eq-true_iff, false≢true}
use mathlib.Core.List.{List, [], ◌∷◌}
use borrow.Author.Tests.{not-true, not-false, leb-true, leb-false, eqb-true, eqb-false, le-leb, lt-leb, eq-eqb, ne_eqb}
use lib.Dec.{eqb, leb}
use lib.ListN.{length, get_or}
use Rattle.layout.specs.Bytes.{same_bytes, all_bytes, all_below, some_below}
use Rattle.layout.specs.Card.{within}

-- A test that was made by a function: its answer t is the definition's b.
pub refused : {t b : Bool} → t ≡ b → not t ≡ true → b ≡ false
refused {t} e h = sym e ∙ not-true t h

pub passed : {t b : Bool} → t ≡ b → not t ≡ false → b ≡ true
passed {t} e h = sym e ∙ not-false t h

-- Two tests of numbers that hold of the same numbers, however they are written: `omega (arith, tests)` turns each into its fact.
pub same_answer : (t : Bool) {u : Bool} → (t ≡ true → u ≡ true) → (t ≡ false → u ≡ false) → t ≡ u
same_answer true h k = sym (h refl)
same_answer false h k = sym (k refl)

pub ruleset tests = (leb-true, leb-false, eqb-true, eqb-false, le-leb, lt-leb, eq-eqb, ne_eqb)

-- An answer that cannot be the other one.
pub unless-true : (t : Bool) → (t ≡ true → t ≡ false) → t ≡ false
unless-true true h = h refl
unless-true false h = refl

pub unless-false : (t : Bool) → (t ≡ false → t ≡ true) → t ≡ true
unless-false true h = refl
unless-false false h = h refl

-- A later part that does not hold.
no-later : (t : Bool) {b : Bool} → false ≡ b → false ≡ (t && b)
no-later true h = h
no-later false h = refl

-- The two parts of a test that holds; and so the limits of a number.
pub both : (a b : Bool) → (a && b) ≡ true → (a ≡ true) × (b ≡ true)
both a b h = (and-eq-true_iff a b).0 h

pub limits : (low high x : ℕ) → within low high x ≡ true → (low ≤ x) × (x ≤ high)
limits low high x h = let (l, u) = both (leb low x) (leb x high) h in (leb-true low x l, leb-true x high u)

-- Of every byte.
pub all-bytes : (test : ℕ → Bool) (l : List ℕ) → ((k : ℕ) → k < length l → test (get_or l k 0) ≡ true) → true ≡ all_bytes test l
all-bytes test [] h = refl
all-bytes test (b ∷ l) h = rw (h 0 (omega arith)) (all-bytes test l λ k lt. h (suc k) (omega arith))

pub some_byte : (test : ℕ → Bool) (l : List ℕ) (k : ℕ) → k < length l → test (get_or l k 0) ≡ false → false ≡ all_bytes test l
some_byte test [] k lt h = absurd (omega arith)
some_byte test (b ∷ l) zero lt h = rw h
some_byte test (b ∷ l) (suc k) lt h = no-later (test b) (some_byte test l k (omega arith) h)

-- Of two lists byte by byte.
pub same-all : (a b : List ℕ) → length a ≡ length b → ((k : ℕ) → k < length a → get_or a k 0 ≡ get_or b k 0) → true ≡ same_bytes a b
same-all [] [] e h = refl
same-all [] (y ∷ b) e h = absurd (omega arith)
same-all (x ∷ a) [] e h = absurd (omega arith)
same-all (x ∷ a) (y ∷ b) e h =
    rw (eq-eqb x y (h 0 (omega arith))) (same-all a b (omega arith) λ k lt. h (suc k) (omega arith))

pub same_not : (a b : List ℕ) (k : ℕ) → k < length a → (get_or a k 0 ≡ get_or b k 0 → ⊥) → false ≡ same_bytes a b
same_not [] b k lt h = absurd (omega arith)
same_not (x ∷ a) [] k lt h = refl
same_not (x ∷ a) (y ∷ b) zero lt h = rw (ne_eqb x y h)
same_not (x ∷ a) (y ∷ b) (suc k) lt h = no-later (eqb x y) (same_not a b k (omega arith) h)

pub same_length : (a b : List ℕ) → (length a ≡ length b → ⊥) → false ≡ same_bytes a b
same_length [] [] h = absurd (h refl)
same_length [] (y ∷ b) h = refl
same_length (x ∷ a) [] h = refl
same_length (x ∷ a) (y ∷ b) h = no-later (eqb x y) (same_length a b λ e. h (ap suc e))

pub same-equal : (a b : List ℕ) → same_bytes a b ≡ true → a ≡ b
same-equal [] [] h = refl
same-equal [] (y ∷ b) h = absurd (false≢true h)
same-equal (x ∷ a) [] h = absurd (false≢true h)
same-equal (x ∷ a) (y ∷ b) h = let (e, f) = both (eqb x y) (same_bytes a b) h in ap₂ ◌∷◌ (eqb-true x y e) (same-equal a b f)

-- Of every number below n.
pub all-below : (n : ℕ) (test : ℕ → Bool) → ((v : ℕ) → v < n → test v ≡ true) → true ≡ all_below n test
all-below zero test h = refl
all-below (suc n) test h = rw (h n (omega arith)) (all-below n test λ v lt. h v (omega arith))

pub some_below_lem : (n : ℕ) (test : ℕ → Bool) (v : ℕ) → v < n → test v ≡ false → false ≡ all_below n test
some_below_lem zero test v lt h = absurd (omega arith)
some_below_lem (suc n) test v lt h =
    elim (ℕ_discrete v n) [ yes e ↦ rw (← e, h) | no ne ↦ no-later (test n) (some_below_lem n test v (omega arith) h) ]

pub below_all : (n : ℕ) (test : ℕ → Bool) → all_below n test ≡ true → (v : ℕ) → v < n → test v ≡ true
below_all n test h v lt = go (test v) refl
  where
    go : (t : Bool) → test v ≡ t → t ≡ true
    go true e = refl
    go false e = some_below_lem n test v lt e ∙ h

-- Of some number below n.
pub one_below : (n : ℕ) (test : ℕ → Bool) (v : ℕ) → v < n → test v ≡ true → some_below n test ≡ true
one_below zero test v lt h = absurd (omega arith)
one_below (suc n) test v lt h =
    elim (ℕ_discrete v n) [ yes e ↦ rw (← e, h) | no ne ↦ rw (one_below n test v (omega arith) h) (or-true (test n)) ]
  where
    or-true : (t : Bool) → (t || true) ≡ true
    or-true true = refl
    or-true false = refl

pub below_one : (n : ℕ) (test : ℕ → Bool) → some_below n test ≡ true → (v : ℕ) × (v < n) × (test v ≡ true)
below_one zero test h = absurd (false≢true h)
below_one (suc n) test h = go (test n) refl h (below_one n test)
  where
    go : (t : Bool) → test n ≡ t → (t || some_below n test) ≡ true → (some_below n test ≡ true → (v : ℕ) × (v < n) × (test v ≡ true))
        → (v : ℕ) × (v < suc n) × (test v ≡ true)
    go true e h further = (n, omega arith, e)
    go false e h further = let (v, lt, f) = further h in (v, omega arith, f)
