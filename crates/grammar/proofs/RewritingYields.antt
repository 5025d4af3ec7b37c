-- Steps in any order to the words of a stretch give a yield: the last form yields by reading its words, and each step, taken
-- backwards, puts one replacement into the yield where its nonterminal stands.
use Prim.Native.Nat.{ℕ}
use mathlib.Core.List.{List, [], map}
use Rattle.grammar.specs.Rewriting.{Rule, Symbol, word, nonterminal, Replaces, Step, Steps, done, next}
use Rattle.grammar.specs.Rewriting
use Rattle.grammar.specs.Input.{WordsAt, nowords, oneword}
use Rattle.grammar.specs.Plan.{Yields, nothing, reads, replaces}
use Rattle.grammar.proofs.YieldsLaws.{yields-split, yields-parts}
use Rattle.grammar.proofs.Deduction.{Comes}

module _ (g : List Rule) (at : ℕ → ℕ → Type 0) where
  pub words-yield : {i j : ℕ} {words : List ℕ} → WordsAt at i words j → Yields g at (map word words) i j []
  words-yield nowords = nothing
  words-yield (oneword a x) = reads a (words-yield x)

  step_back : {f f' : List Symbol} {i j : ℕ} → Step g f f' → Comes g at f' i j → Comes g at f i j
  step_back (Rewriting.Step.here {p = p} {r = r} x) y =
      let q = yields-split g at r y.1 in
      let u = yields-parts g at r q.left_yields in
      (_, replaces x u.left_yields u.right_yields q.right_yields)
  step_back (Rewriting.Step.later s) (_, reads a y) = let z = step_back s (_, y) in (z.0, reads a z.1)
  step_back (Rewriting.Step.later s) (_, replaces x y₀ y₁ y₂) = let z = step_back s (_, y₂) in (_, replaces x y₀ y₁ z.1)

  pub steps-yield : {f f' : List Symbol} {i j : ℕ} → Steps g f f' → Comes g at f' i j → Comes g at f i j
  steps-yield done y = y
  steps-yield (next s ss) y = step_back s (steps-yield ss y)
