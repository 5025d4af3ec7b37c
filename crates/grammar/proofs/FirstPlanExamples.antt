-- Two lines whose first plan is easily got wrong, computed: all plans of each are listed, by the enumeration that leaves none out, and the
-- first is in order with each of them, by a test.
use Prim.Native.Nat.{ℕ, ◌-◌, ◌*◌}
use native.Mathlib.Nat.{le_of_eq}
use mathlib.Core.Path.{◌≡◌, refl}
use mathlib.Core.Bool.{Bool, true, false, ◌&&◌, ◌||◌, false≢true, and-eq-true_iff}
use mathlib.Core.List.{List, [], ◌∷◌}
use lib.Dec.{eqb, ltb}
use borrow.Author.Tests.{eqb-true, ltb-true}
use Rattle.grammar.specs.Lists.{NotAfter, ended, sooner, agreed, here, there, all_of}
use Rattle.grammar.specs.Input.{Holds}
use Rattle.grammar.specs.Rewriting.{Rule, Lexical, Spine, Take, Give, is_word, is_first, is_last, OneSided}
use Rattle.grammar.specs.Plan.{PlanStep, plan_step, passes}
use Rattle.grammar.specs.FirstPlan.{Before, lower_production, lower_split, FirstPlan}
use Rattle.grammar.proofs.ListLaws.{of-all}
use Rattle.grammar.proofs.PlanTest.{passes-sound}
use Rattle.grammar.proofs.PlanSize.{derivation-length}
use Rattle.grammar.proofs.EveryPlan.{every_plan, every-plan}

-- The order of two plans as a test.
abbrev is_before : PlanStep → PlanStep → Bool
is_before (plan_step p i k j) (plan_step p' i' k' j') = ltb p p' || (eqb p p' && ltb k k')

abbrev is_same : PlanStep → PlanStep → Bool
is_same (plan_step p i k j) (plan_step p' i' k' j') = eqb p p' && (eqb i i' && (eqb k k' && eqb j j'))

abbrev in_order : List PlanStep → List PlanStep → Bool
in_order [] [] = true
in_order [] (y ∷ m) = false
in_order (x ∷ l) [] = false
in_order (x ∷ l) (y ∷ m) = is_before x y || (is_same x y && in_order l m)

before-holds : (x y : PlanStep) → is_before x y ≡ true → Before x y
before-holds (plan_step p i k j) (plan_step p' i' k' j') e = go (ltb p p') refl e
  where
    go : (t : Bool) → ltb p p' ≡ t → (t || (eqb p p' && ltb k k')) ≡ true → Before (plan_step p i k j) (plan_step p' i' k' j')
    go true h e = lower_production (ltb-true p p' h)
    go false h e = let (u, v) = (and-eq-true_iff (eqb p p') _).0 e in rw (eqb-true p p' u) (lower_split (ltb-true k k' v))

same-holds : (x y : PlanStep) → is_same x y ≡ true → x ≡ y
same-holds (plan_step p i k j) (plan_step p' i' k' j') e =
    let (a, r) = (and-eq-true_iff (eqb p p') _).0 e in
    let (b, s) = (and-eq-true_iff (eqb i i') _).0 r in
    let (c, d) = (and-eq-true_iff (eqb k k') _).0 s in
    cc (eqb-true p p' a, eqb-true i i' b, eqb-true k k' c, eqb-true j j' d)

order-holds : (l m : List PlanStep) → in_order l m ≡ true → NotAfter Before l m
order-holds [] [] e = ended
order-holds [] (y ∷ m) e = absurd (false≢true e)
order-holds (x ∷ l) [] e = absurd (false≢true e)
order-holds (x ∷ l) (y ∷ m) e = go (is_before x y) refl e (order-holds l m)
  where
    go : (t : Bool) → is_before x y ≡ t → (t || (is_same x y && in_order l m)) ≡ true → (in_order l m ≡ true → NotAfter Before l m)
        → NotAfter Before (x ∷ l) (y ∷ m)
    go true h e further = sooner (before-holds x y h)
    go false h e further =
        let (u, v) = (and-eq-true_iff (is_same x y) _).0 e in rw (same-holds x y u) (agreed (further v))

-- A plan that passes, and that is in order with each plan of the list, is the first.
first-of-all : (g : List Rule) (at : ℕ → ℕ → Bool) (n : ℕ) (plan : List PlanStep) → OneSided g → passes g at n plan ≡ true
    → all_of (in_order plan) (every_plan g at (2 * n - 1) n) ≡ true → FirstPlan g (Holds at) n plan
first-of-all g at n plan one passed ordered =
    record {
      derives = passes-sound g at n passed;
      first = λ other y. order-holds plan other
          (of-all (in_order plan) (every_plan g at (2 * n - 1) n) ordered
          (every-plan g at y (2 * n - 1) (le_of_eq (derivation-length g (Holds at) one y))));
    }

-- One word, wherever it stands among the first n.
abbrev alone : ℕ → ℕ → ℕ → Bool
alone n i w = ltb i n && eqb w 0

-- Three words. Production 1, A[..] → A[..1] A[], fits at the split 2 alone, and production 2, A[..] → A[] A[..1], at the split 1. The first
-- plan has the lower production, though its split is higher: to compare by split first would be wrong.
abbrev early_give : List Rule
early_give =
    Lexical 0 0 ∷ Spine 0 (Give 1) [] 0 (0 ∷ []) ∷ Spine 0 (Give 1) (0 ∷ []) 0 [] ∷ Spine 0 (Take 1) (0 ∷ []) 0 [] ∷ []

abbrev given_first : List PlanStep
given_first = plan_step 1 0 2 3 ∷ plan_step 3 0 1 2 ∷ plan_step 0 0 1 1 ∷ plan_step 0 1 2 2 ∷ plan_step 0 2 3 3 ∷ []

abbrev given_last : List PlanStep
given_last = plan_step 2 0 1 3 ∷ plan_step 0 0 1 1 ∷ plan_step 3 1 2 3 ∷ plan_step 0 1 2 2 ∷ plan_step 0 2 3 3 ∷ []

early-one-sided : OneSided early_give
early-one-sided p r here = is_word
early-one-sided p r (there here) = is_last
early-one-sided p r (there (there here)) = is_first
early-one-sided p r (there (there (there here))) = is_first
early-one-sided _ r (there (there (there (there h)))) = elim h [ ]

early-plans : every_plan early_give (alone 3) 5 3 ≡ given_last ∷ given_first ∷ []
early-plans = refl

pub early-first : FirstPlan early_give (Holds (alone 3)) 3 given_first
early-first = first-of-all early_give (alone 3) 3 given_first early-one-sided refl refl

-- Three words. After the give, 1, the index goes by production 2, A[..1] → A[..] A[], or by 3, A[..1] → A[] A[..], over the same stretch: two
-- dependents of one give that differ in where the index has gone. The plans agree up to the third step, and to take the dependent that a
-- chart found last, or the one with the longer way to its foot, would be wrong.
abbrev two_takes : List Rule
two_takes =
    Lexical 0 0 ∷ Spine 0 (Give 1) (0 ∷ []) 0 [] ∷ Spine 0 (Take 1) [] 0 (0 ∷ []) ∷ Spine 0 (Take 1) (0 ∷ []) 0 [] ∷ []

abbrev taken_first : List PlanStep
taken_first = plan_step 1 0 1 3 ∷ plan_step 0 0 1 1 ∷ plan_step 2 1 2 3 ∷ plan_step 0 1 2 2 ∷ plan_step 0 2 3 3 ∷ []

abbrev taken_last : List PlanStep
taken_last = plan_step 1 0 1 3 ∷ plan_step 0 0 1 1 ∷ plan_step 3 1 2 3 ∷ plan_step 0 1 2 2 ∷ plan_step 0 2 3 3 ∷ []

takes-one-sided : OneSided two_takes
takes-one-sided p r here = is_word
takes-one-sided p r (there here) = is_first
takes-one-sided p r (there (there here)) = is_last
takes-one-sided p r (there (there (there here))) = is_first
takes-one-sided _ r (there (there (there (there h)))) = elim h [ ]

takes-plans : every_plan two_takes (alone 3) 5 3 ≡ taken_last ∷ taken_first ∷ []
takes-plans = refl

pub takes_first : FirstPlan two_takes (Holds (alone 3)) 3 taken_first
takes_first = first-of-all two_takes (alone 3) 3 taken_first takes-one-sided refl refl
