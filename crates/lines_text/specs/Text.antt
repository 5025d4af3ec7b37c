-- What the program prints (document 01, "The tomato card"): lines of numbers to base ten, with one space between two fields and hex 0A
-- at the end; and how a text is appended to a buffer.
use Rattle.std.specs.Prelude.{ℕ, zero, suc, ◌+◌, ◌/◌, ◌%◌, ◌≡◌, cond, List, [], ◌∷◌, ◌++◌, ltb, length, take}
use Rattle.split.specs.Lines.{newline}

abbrev pub space : ℕ
space = 32

-- The digits of a number, the most significant first and none in vain: all of them where there are at most k.
abbrev pub digits_within : ℕ → ℕ → List ℕ
digits_within zero n = []
digits_within (suc k) n = cond (ltb n 10) ((48 + n) ∷ []) (digits_within k (n / 10) ++ ((48 + n % 10) ∷ []))

-- A number below 2^64 has at most 20.
unfoldable pub decimal : ℕ → List ℕ
decimal n = digits_within 20 n

-- A number, and the byte after it.
abbrev pub field : ℕ → ℕ → List ℕ
field n end = decimal n ++ (end ∷ [])

-- "read "
abbrev pub read_line : ℕ → ℕ → List ℕ
read_line words items = (114 ∷ 101 ∷ 97 ∷ 100 ∷ space ∷ []) ++ (field words space ++ field items newline)

-- "refused "
abbrev pub refused_line : ℕ → List ℕ
refused_line number = (114 ∷ 101 ∷ 102 ∷ 117 ∷ 115 ∷ 101 ∷ 100 ∷ space ∷ []) ++ field number newline

abbrev pub step_line : ℕ → ℕ → ℕ → ℕ → List ℕ
step_line p i k j = field p space ++ (field i space ++ (field k space ++ field j newline))

-- "pair "
abbrev pub pair_line : ℕ → ℕ → List ℕ
pair_line given taken = (112 ∷ 97 ∷ 105 ∷ 114 ∷ space ∷ []) ++ (field given space ++ field taken newline)

-- A line for each four bytes of a plan, and for each two bytes of pairs.
abbrev pub step_lines : List ℕ → List ℕ
step_lines [] = []
step_lines (p ∷ []) = []
step_lines (p ∷ i ∷ []) = []
step_lines (p ∷ i ∷ k ∷ []) = []
step_lines (p ∷ i ∷ k ∷ j ∷ bytes) = step_line p i k j ++ step_lines bytes

abbrev pub pair_lines : List ℕ → List ℕ
pair_lines [] = []
pair_lines (a ∷ []) = []
pair_lines (a ∷ b ∷ bytes) = pair_line a b ++ pair_lines bytes

-- The bytes in use, at first the buffer's first `at` and then its first `after`, have grown by a text. What stands past them is free.
pub record Appends (old : List ℕ) (at : ℕ) (text new : List ℕ) (after : ℕ) : Type 0 where
  pub same_length : length new ≡ length old
  pub size : after ≡ at + length text
  pub bytes : take after new ≡ take at old ++ text
