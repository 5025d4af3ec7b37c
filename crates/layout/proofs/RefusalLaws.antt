-- What a list of refusals answers: the first condition that does not hold gives its number, and 0 says that all hold.
-- One law, `first-decides`, by going down the list; the others follow from it. No proof elsewhere takes a list of refusals apart.
use Prim.Native.Nat.{ℕ, suc, ◌≤◌, max}
use native.Mathlib.Omega.{arith}
use mathlib.Core.Path.{◌≡◌, refl, sym, ◌∙◌, subst}
use mathlib.Core.Bool.{Bool, true, false, ◌&&◌, ◌||◌, false≢true}
use mathlib.Core.List.{List, [], ◌∷◌, ◌++◌}
use lib.Dec.{eqb, ltb}
use borrow.Author.Tests.{eq-eqb, ltb-true}
use Rattle.grammar.specs.Lists.{Stands, here, there}
use Rattle.layout.specs.Refusals.{Refusal, unless, first_refusal}

-- The answer x of a list: 0 where nothing is left to ask; the number of a condition that does not hold; what the others answer after
-- one that holds.
pub data Decides : List Refusal → ℕ → Type 0 where
  accepts : Decides [] 0
  refuses : {number : ℕ} {others : List Refusal} → Decides (unless false number ∷ others) number
  passes : {number x : ℕ} {others : List Refusal} → Decides others x → Decides (unless true number ∷ others) x

pub first-decides : (l : List Refusal) → Decides l (first_refusal l)
first-decides [] = accepts
first-decides (unless true number ∷ others) = passes (first-decides others)
first-decides (unless false number ∷ others) = refuses

-- By a condition that is known to hold, or not to.
pub holding : {holds : Bool} {number x : ℕ} {others : List Refusal} → holds ≡ true → Decides others x → Decides (unless holds number ∷ others) x
holding {number = number} {x = x} {others = others} e a = subst (λ (b : Bool). Decides (unless b number ∷ others) x) (sym e) (passes a)

pub failing : {holds : Bool} {number : ℕ} {others : List Refusal} → holds ≡ false → Decides (unless holds number ∷ others) number
failing {number = number} {others = others} e = subst (λ (b : Bool). Decides (unless b number ∷ others) number) (sym e) refuses

-- And no other number is an answer: this is how a call shows that its number is right.
pub decides-first : (l : List Refusal) {x : ℕ} → Decides l x → x ≡ first_refusal l
decides-first [] accepts = refl
decides-first (unless false number ∷ l) refuses = refl
decides-first (unless true number ∷ l) (passes a) = decides-first l a

-- No refusal has the number 0; the greatest number of a list; does a number stand in it? All three compute.
abbrev pub numbered : List Refusal → Bool
numbered [] = true
numbered (unless holds number ∷ others) = ltb 0 number && numbered others

abbrev pub greatest : List Refusal → ℕ
greatest [] = 0
greatest (unless holds number ∷ others) = max number (greatest others)

abbrev pub names : ℕ → List Refusal → Bool
names x [] = false
names x (unless holds number ∷ others) = eqb number x || names x others

and_parts : (a b : Bool) → (a && b) ≡ true → (a ≡ true) × (b ≡ true)
and_parts true true e = (refl, refl)
and_parts true false e = absurd (false≢true e)
and_parts false b e = absurd (false≢true e)

or_parts : (a b : Bool) → (a || b) ≡ false → (a ≡ false) × (b ≡ false)
or_parts true b e = absurd (false≢true (sym e))
or_parts false b e = (refl, e)

some_number : (number : ℕ) (others : List Refusal) → numbered (unless false number ∷ others) ≡ true → number ≡ 0 → ⊥
some_number number others n e = let h = ltb-true 0 number (and_parts (ltb 0 number) (numbered others) n).0 in omega arith

-- Where the answer is 0 every condition holds.
decides-hold : {l : List Refusal} {x k number : ℕ} {b : Bool} → Decides l x → numbered l ≡ true → x ≡ 0 → Stands l k (unless b number)
    → b ≡ true
decides-hold (refuses {number} {others}) n e s = absurd (some_number number others n e)
decides-hold (passes a) n e here = refl
decides-hold (passes {number} {others = others} a) n e (there s) =
    decides-hold a (and_parts (ltb 0 number) (numbered others) n).1 e s
decides-hold accepts n e s = elim s [ ]

pub zero-holds : (l : List Refusal) {k number : ℕ} {b : Bool} → numbered l ≡ true → first_refusal l ≡ 0 → Stands l k (unless b number)
    → b ≡ true
zero-holds l n e s = decides-hold (first-decides l) n e s

-- Refusals that come before others: where they refuse they answer, and else the others do.
pub before-refuses : (l m : List Refusal) → (first_refusal l ≡ 0 → ⊥) → first_refusal (l ++ m) ≡ first_refusal l
before-refuses [] m ne = absurd (ne refl)
before-refuses (unless true number ∷ l) m ne = before-refuses l m ne
before-refuses (unless false number ∷ l) m ne = refl

pub before-accepts : (l m : List Refusal) → numbered l ≡ true → first_refusal l ≡ 0 → first_refusal (l ++ m) ≡ first_refusal m
before-accepts [] m n e = refl
before-accepts (unless true number ∷ l) m n e = before-accepts l m (and_parts (ltb 0 number) (numbered l) n).1 e
before-accepts (unless false number ∷ l) m n e = absurd (some_number number l n e)

pub both-accept : (l m : List Refusal) → first_refusal (l ++ m) ≡ 0 → numbered l ≡ true → (first_refusal l ≡ 0) × (first_refusal m ≡ 0)
both-accept [] m e n = (refl, e)
both-accept (unless true number ∷ l) m e n = both-accept l m e (and_parts (ltb 0 number) (numbered l) n).1
both-accept (unless false number ∷ l) m e n = absurd (some_number number l n e)

-- A number that the last one alone has shows that its condition does not hold.
pub last-fails : (l : List Refusal) (holds : Bool) (x : ℕ) → names (suc x) l ≡ false → first_refusal (l ++ (unless holds (suc x) ∷ [])) ≡ suc x
    → holds ≡ false
last-fails [] true x n e = absurd (omega arith)
last-fails [] false x n e = refl
last-fails (unless true number ∷ l) holds x n e = last-fails l holds x (or_parts (eqb number (suc x)) (names (suc x) l) n).1 e
last-fails (unless false number ∷ l) holds x n e =
    absurd (false≢true (sym (or_parts (eqb number (suc x)) (names (suc x) l) n).0 ∙ eq-eqb number (suc x) e))

-- Bounds of the answer.
pub first-most : (l : List Refusal) → first_refusal l ≤ greatest l
first-most [] = omega arith
first-most (unless true number ∷ l) = omega (arith, first-most l)
first-most (unless false number ∷ l) = omega arith

pub first-other : (x : ℕ) (l : List Refusal) → names (suc x) l ≡ false → first_refusal l ≡ suc x → ⊥
first-other x [] n e = omega arith
first-other x (unless true number ∷ l) n e = first-other x l (or_parts (eqb number (suc x)) (names (suc x) l) n).1 e
first-other x (unless false number ∷ l) n e =
    false≢true (sym (or_parts (eqb number (suc x)) (names (suc x) l) n).0 ∙ eq-eqb number (suc x) e)
