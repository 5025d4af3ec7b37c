-- Document 02, Paper 6: a pair gives the last word of each side's stretch. Both sides of a pair have words, so what is written of a side is
-- one of its words, and the side has none after it; no other place is so.
use Prim.Native.Nat.{ℕ, ◌≤◌, ◌<◌}
use native.Mathlib.Omega.{arith}
use mathlib.Core.Path.{◌≡◌}
use mathlib.Core.List.{List}
use Rattle.grammar.specs.Lists.{Stands}
use Rattle.grammar.specs.Rewriting.{Rule}
use Rattle.grammar.specs.Plan.{PlanStep, LeftmostDerivation}
use Rattle.grammar.specs.Pairs.{Stretch, stretch, place_in, pair, pairs_of}
use Rattle.grammar.proofs.Sides.{InLine, in_line}
use Rattle.grammar.proofs.PairsInside.{pairs-in-line}

-- The word at this place is one of the stretch.
pub data WordOf : Stretch → ℕ → Type 0 where
  word_of : {from to place : ℕ} → from ≤ place → place < to → WordOf (stretch from to) place

pub record LastWord (side : Stretch) (place : ℕ) : Type 0 where
  pub word : WordOf side place
  pub last : (other : ℕ) → WordOf side other → other ≤ place

pub one_last : {side : Stretch} (p q : ℕ) → LastWord side p → LastWord side q → p ≡ q
one_last p q x y = omega (arith, x.last q y.word, y.last p x.word)

place-word : {n : ℕ} {side : Stretch} → InLine n side → WordOf side (place_in side)
place-word (in_line {from = from} {to = to} l k) =
    word_of {from = from} {to = to} {place = place_in (stretch from to)} (omega arith) (omega arith)

not_after : {side : Stretch} (other : ℕ) → WordOf side other → other ≤ place_in side
not_after other (word_of l k) = omega arith

place-last : {n : ℕ} {side : Stretch} → InLine n side → LastWord side (place_in side)
place-last x = record { word = place-word x; last = not_after }

pub pairs-last : {g : List Rule} {at : ℕ → ℕ → Type 0} {n m : ℕ} {given taken : Stretch} {plan : List PlanStep}
    → LeftmostDerivation g at n plan → Stands (pairs_of g plan) m (pair given taken)
    → LastWord given (place_in given) × LastWord taken (place_in taken)
pairs-last y s = let (x, z) = pairs-in-line y s in (place-last x, place-last z)
