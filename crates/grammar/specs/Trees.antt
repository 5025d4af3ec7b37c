-- Document 02, Paper 5, "every other derivation of the line": the tree of a derivation that replaces nonterminals in any order. Two derivations
-- with equal trees differ only in the order in which they replace the same nonterminals by the same productions.
use Rattle.std.specs.Prelude.{ℕ, List, [], ◌∷◌, ◌++◌}
use Rattle.grammar.specs.Rewriting.{Rule, Symbol, Step, here, later, Steps, done, next}

infixr 5 ◌then◌
-- A symbol that is not replaced, such as a word; or the production that replaces a nonterminal, above the trees of its right side.
-- And trees one after the other: one for each symbol of a form.
mutual
  pub data Tree : Type 0 where
    leaf : (X : Symbol) → Tree
    node : (p : ℕ) (below : Trees) → Tree

  pub data Trees : Type 0 where
    none : Trees
    ◌then◌ : Tree → Trees → Trees

-- The trees of a form of which nothing is replaced.
abbrev pub leaves : List Symbol → Trees
leaves [] = none
leaves (X ∷ f) = leaf X then leaves f

-- Of the trees of a form r ++ f those of r; and those of f.
abbrev pub trees_below : List Symbol → Trees → Trees
trees_below [] trees = none
trees_below (X ∷ r) none = none
trees_below (X ∷ r) (t then trees) = t then trees_below r trees

abbrev pub trees_beside : List Symbol → Trees → Trees
trees_beside [] trees = trees
trees_beside (X ∷ r) none = none
trees_beside (X ∷ r) (t then trees) = trees_beside r trees

-- One step: the trees of the right side go under a node, and the trees before the nonterminal stay.
abbrev pub trees_above : {g : List Rule} {f f' : List Symbol} → Step g f f' → Trees → Trees
trees_above (here {p = p} {r = r} x) trees = node p (trees_below r trees) then trees_beside r trees
trees_above (later s) none = none
trees_above (later s) (t then trees) = t then trees_above s trees

-- All steps, from the last form back to the first.
abbrev pub trees_of : {g : List Rule} {f f' : List Symbol} → Steps g f f' → Trees
trees_of (done {f = f}) = leaves f
trees_of (next s ss) = trees_above s (trees_of ss)

-- The productions of trees: a node's own, then those below it, then those of the trees after it.
abbrev mutual
  pub preorder : Trees → List ℕ
  preorder none = []
  preorder (t then trees) = preorder_in t ++ preorder trees

  pub preorder_in : Tree → List ℕ
  preorder_in (leaf X) = []
  preorder_in (node p below) = p ∷ preorder below
