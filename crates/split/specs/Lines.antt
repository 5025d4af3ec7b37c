-- The lines of an input (document 01, "The tomato card") and of a sheet (document 02, Paper 1): each ended by hex 0A, the last one with or
-- without it. No bytes mean no lines.
use Rattle.std.specs.Prelude.{ℕ, ◌+◌, ◌-◌, ◌≤◌, ◌≡◌, cond, List, [], ◌∷◌, eqb, length, take, drop}

abbrev pub newline : ℕ
newline = 10

-- A byte in front of the first line; it is a line of its own where there is none.
abbrev pub in_front : ℕ → List (List ℕ) → List (List ℕ)
in_front b [] = (b ∷ []) ∷ []
in_front b (line ∷ lines) = (b ∷ line) ∷ lines

abbrev pub lines_of : List ℕ → List (List ℕ)
lines_of [] = []
lines_of (b ∷ bytes) = cond (eqb b newline) ([] ∷ lines_of bytes) (in_front b (lines_of bytes))

-- The first of the lines from a place on reaches to `end`, and the others start one past it.
pub record LineEnds (input : List ℕ) (at end : ℕ) : Type 0 where
  pub starts : at ≤ end
  pub within : end ≤ length input
  pub first : lines_of (drop at input) ≡ take (end - at) (drop at input) ∷ lines_of (drop (end + 1) input)
