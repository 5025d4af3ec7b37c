-- Every derivation, in whatever order it replaces, has a leftmost one with the same trees, and the first plan comes after none of them.
-- A step that stands before leftmost steps is carried past each that replaces a nonterminal further to the left: the trees stay the same.
use Prim.Native.Nat.{ℕ}
use mathlib.Core.Path.{◌≡◌, refl, sym, ◌∙◌, ap, ap₂}
use mathlib.Core.Logic.{◌⊎◌, inl, inr}
use mathlib.Core.List.{List, [], ◌∷◌, ◌++◌, map, append_assoc}
use Rattle.grammar.specs.Lists.{NotAfter}
use Rattle.grammar.specs.Rewriting.{Rule, Symbol, word, nonterminal, Replaces, lexical, spine, Step, here, later, Steps, done, next, Derivation}
use Rattle.grammar.specs.Input.{WordsAt}
use Rattle.grammar.specs.Plan.{PlanStep, production_in, LeftmostDerivation, LeftmostStep, first, past_word, LeftmostSteps, finish, proceed}
use Rattle.grammar.specs.FirstPlan.{Before, FirstPlan}
use Rattle.grammar.specs.Trees.{Tree, leaf, node, Trees, none, ◌then◌, leaves, trees_below, trees_beside, trees_above, trees_of, preorder, preorder_in}
use Rattle.grammar.proofs.Leftmost.{leftmost-is-step, leftmost-is-steps, rewriting-plans}

-- One tree for each symbol of a form, and a leaf for a word.
data Root : Symbol → Tree → Type 0 where
  word_root : {w : ℕ} → Root (word w) (leaf (word w))
  any_root : {A : ℕ} {s : List ℕ} {t : Tree} → Root (nonterminal A s) t

data Fits : List Symbol → Trees → Type 0 where
  no_tree : Fits [] none
  one_tree : {X : Symbol} {f : List Symbol} {t : Tree} {trees : Trees} → Root X t → Fits f trees → Fits (X ∷ f) (t then trees)

leaf-root : (X : Symbol) → Root X (leaf X)
leaf-root (word w) = word_root
leaf-root (nonterminal A s) = any_root

leaves-fit : (f : List Symbol) → Fits f (leaves f)
leaves-fit [] = no_tree
leaves-fit (X ∷ f) = one_tree (leaf-root X) (leaves-fit f)

beside-fit : (r : List Symbol) {f : List Symbol} {trees : Trees} → Fits (r ++ f) trees → Fits f (trees_beside r trees)
beside-fit [] k = k
beside-fit (X ∷ r) (one_tree h k) = beside-fit r k

no_number : (f : List Symbol) → preorder (leaves f) ≡ []
no_number [] = refl
no_number (X ∷ f) = no_number f

preorder-parts : (r : List Symbol) (trees : Trees) → preorder (trees_below r trees) ++ preorder (trees_beside r trees) ≡ preorder trees
preorder-parts [] trees = refl
preorder-parts (X ∷ r) none = refl
preorder-parts (X ∷ r) (t then trees) = append_assoc (preorder_in t) _ _ ∙ ap (λ (l : List ℕ). preorder_in t ++ l) (preorder-parts r trees)

-- A form of words alone.
data AllWords : List Symbol → Type 0 where
  no_word : AllWords []
  one_word : {w : ℕ} {f : List Symbol} → AllWords f → AllWords (word w ∷ f)

all_words : (words : List ℕ) → AllWords (map word words)
all_words [] = no_word
all_words (w ∷ words) = one_word (all_words words)

module _ (g : List Rule) where
  replaced-root : {p : ℕ} {X : Symbol} {r : List Symbol} {t : Tree} → Replaces g p X r → Root X t
  replaced-root (lexical x) = any_root
  replaced-root (spine x a) = any_root

  above_fit : {f f' : List Symbol} {trees : Trees} (s : Step g f f') → Fits f' trees → Fits f (trees_above s trees)
  above_fit (here {r = r} x) k = one_tree (replaced-root x) (beside-fit r k)
  above_fit (later s) (one_tree h k) = one_tree h (above_fit s k)

  trees-fit : {f f' : List Symbol} (d : Steps g f f') → Fits f (trees_of d)
  trees-fit (done {f = f}) = leaves-fit f
  trees-fit (next s ss) = above_fit s (trees-fit ss)

  -- A leftmost rewriting replaces in preorder.
  preorder-step : {p : ℕ} {f f' : List Symbol} {trees : Trees} (t : LeftmostStep g p f f') → Fits f' trees
      → preorder (trees_above (leftmost-is-step g t) trees) ≡ p ∷ preorder trees
  preorder-step {p} {trees = trees} (first {r = r} x) k = ap (λ (l : List ℕ). p ∷ l) (preorder-parts r trees)
  preorder-step (past_word t) (one_tree word_root k) = preorder-step t k

  pub preorder-leftmost : {f f' : List Symbol} {ps : List ℕ} (l : LeftmostSteps g f ps f') → preorder (trees_of (leftmost-is-steps g l)) ≡ ps
  preorder-leftmost (finish {f = f}) = no_number f
  preorder-leftmost (proceed {p = p} t l) =
      preorder-step t (trees-fit (leftmost-is-steps g l)) ∙ ap (λ (ps : List ℕ). p ∷ ps) (preorder-leftmost l)

  -- A step past the trees of r.
  past : (r : List Symbol) {f f' : List Symbol} → Step g f f' → Step g (r ++ f) (r ++ f')
  past [] s = s
  past (X ∷ r) s = later (past r s)

  below-past : (r : List Symbol) {f f' : List Symbol} {trees : Trees} (s : Step g f f') → Fits (r ++ f') trees
      → trees_below r (trees_above (past r s) trees) ≡ trees_below r trees
  unfolding past
  below-past [] s k = refl
  below-past (X ∷ r) s (one_tree {t = t} h k) = ap (λ (l : Trees). t then l) (below-past r s k)

  beside-past : (r : List Symbol) {f f' : List Symbol} {trees : Trees} (s : Step g f f') → Fits (r ++ f') trees
      → trees_beside r (trees_above (past r s) trees) ≡ trees_above s (trees_beside r trees)
  unfolding past
  beside-past [] s k = refl
  beside-past (X ∷ r) s (one_tree h k) = beside-past r s k

  -- Two steps that come to the same form with the same trees, taken in the one order and in the other.
  abbrev Agree : {f h h' f' : List Symbol} → Step g f h → Step g h f' → Step g f h' → Step g h' f' → Type 0
  Agree {f' = f'} a b c d = (trees : Trees) → Fits f' trees → trees_above a (trees_above b trees) ≡ trees_above c (trees_above d trees)

  agree-later : {X : Symbol} {f h h' f' : List Symbol} (a : Step g f h) (b : Step g h f') (c : Step g f h') (d : Step g h' f') → Agree a b c d
      → Agree (later {X = X} a) (later b) (later c) (later d)
  agree-later a b c d same (t then trees) (one_tree h k) = ap (λ (l : Trees). t then l) (same trees k)
  agree-later a b c d same none h = elim h [ ]

  -- A step that is leftmost itself; and one after which a leftmost step comes that can be taken first.
  data IsLeftmost {f f' : List Symbol} (s : Step g f f') : Type 0 where
    is_leftmost : {p : ℕ} (t : LeftmostStep g p f f') → leftmost-is-step g t ≡ s → IsLeftmost s

  record Exchanged {p : ℕ} {f f' f'' : List Symbol} (s : Step g f f') (t : LeftmostStep g p f' f'') : Type 0 where
    between : List Symbol
    sooner : LeftmostStep g p f between
    afterwards : Step g between f''
    same : Agree (leftmost-is-step g sooner) afterwards s (leftmost-is-step g t)

  leftmost-past : {w : ℕ} {f f' : List Symbol} {s : Step g f f'} → IsLeftmost s → IsLeftmost (later {X = word w} s)
  leftmost-past (is_leftmost t e) = is_leftmost (past_word t) (ap later e)

  exchanged-past : {p w : ℕ} {f f' f'' : List Symbol} {s : Step g f f'} {t : LeftmostStep g p f' f''} → Exchanged s t
      → Exchanged (later {X = word w} s) (past_word t)
  exchanged-past {s = s} {t = t} x = record {
    between = _;
    sooner = past_word x.sooner;
    afterwards = later x.afterwards;
    same = agree-later (leftmost-is-step g x.sooner) x.afterwards s (leftmost-is-step g t) x.same;
  }

  exchange : {p : ℕ} {f f' f'' : List Symbol} (s : Step g f f') (t : LeftmostStep g p f' f'') → IsLeftmost s ⊎ Exchanged s t
  exchange (here x) t = inl (is_leftmost (first x) refl)
  exchange (later s) (first {p} {r = r} x) = inr (record {
    between = _;
    sooner = first x;
    afterwards = past r s;
    same = λ trees k. ap₂ (λ (l m : Trees). node p l then m) (below-past r s k) (beside-past r s k);
  })
  exchange (later s) (past_word t) = elim (exchange s t) [ inl x ↦ inl (leftmost-past x) | inr x ↦ inr (exchanged-past x) ]

  last-leftmost : {f f' : List Symbol} (s : Step g f f') → AllWords f' → IsLeftmost s
  last-leftmost (here x) k = is_leftmost (first x) refl
  last-leftmost (later s) (one_word k) = leftmost-past (last-leftmost s k)

  -- A leftmost rewriting with given trees; one more step before it.
  record LeftmostWith (f h : List Symbol) (trees : Trees) : Type 0 where
    numbers : List ℕ
    steps : LeftmostSteps g f numbers h
    same : trees_of (leftmost-is-steps g steps) ≡ trees

  leftmost-back : {f f' h : List Symbol} {ps : List ℕ} {s : Step g f f'} → IsLeftmost s → (l : LeftmostSteps g f' ps h)
      → LeftmostWith f h (trees_above s (trees_of (leftmost-is-steps g l)))
  leftmost-back {f = f} {f' = f'} (is_leftmost t e) l = record {
    numbers = _;
    steps = proceed t l;
    same = ap (λ (s : Step g f f'). trees_above s (trees_of (leftmost-is-steps g l))) e;
  }

  step_back : {f f' h : List Symbol} {ps : List ℕ} (s : Step g f f') (l : LeftmostSteps g f' ps h) → AllWords h
      → LeftmostWith f h (trees_above s (trees_of (leftmost-is-steps g l)))
  step_back s finish k = leftmost-back (last-leftmost s k) finish
  step_back {f = f} s (proceed t l) k = elim (exchange s t) [
    | inl x ↦ leftmost-back x (proceed t l)
    | inr x ↦ let y = step_back {f = x.between} x.afterwards l k in record {
      numbers = _;
      steps = proceed x.sooner y.steps;
      same = ap (trees_above (leftmost-is-step g x.sooner)) y.same ∙ x.same _ (trees-fit (leftmost-is-steps g l));
    }
  ]

  leftmost-with : {f h : List Symbol} (d : Steps g f h) → AllWords h → LeftmostWith f h (trees_of d)
  leftmost-with done k = record { numbers = []; steps = finish; same = refl }
  leftmost-with (next s d) k = let y = leftmost-with d k in let z = step_back s y.steps k in
      record { numbers = z.numbers; steps = z.steps; same = z.same ∙ ap (trees_above s) y.same }

  -- Every derivation, carried back step by step from its last form.
  pub leftmost-same-trees : {f : List Symbol} (words : List ℕ) (d : Steps g f (map word words))
      → (ps : List ℕ) × (l : LeftmostSteps g f ps (map word words)) × (trees_of (leftmost-is-steps g l) ≡ trees_of d)
  leftmost-same-trees words d = let y = leftmost-with d (all_words words) in (y.numbers, y.steps, y.same)

  module _ (at : ℕ → ℕ → Type 0) (n : ℕ) where
    -- So a derivation of the line has a plan, its trees in preorder; the only plan with these numbers, by `stretches-forced`.
    pub plan-of-trees : {words : List ℕ} → WordsAt at 0 words n → (d : Derivation g words)
        → (plan : List PlanStep) × LeftmostDerivation g at n plan × (map production_in plan ≡ preorder (trees_of d))
    plan-of-trees {words} a d =
        let (ps, l, e) = leftmost-same-trees words d in
        let (plan, y, c) = rewriting-plans g at l a in
        (plan, y, c ∙ (sym (preorder-leftmost l) ∙ ap preorder e))

    -- And the first plan is told against every derivation, in whatever order.
    pub told-against-every : {plan : List PlanStep} → FirstPlan g at n plan → {words : List ℕ} → WordsAt at 0 words n → (d : Derivation g words)
        → (other : List PlanStep) × LeftmostDerivation g at n other × (map production_in other ≡ preorder (trees_of d))
        × NotAfter Before plan other
    told-against-every f a d = let (other, y, e) = plan-of-trees a d in (other, y, e, f.first other y)
