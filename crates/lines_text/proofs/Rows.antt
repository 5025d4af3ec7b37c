-- The lines of a plan's bytes and of pairs' bytes, taken from the front, and how much they take at most.
use Prim.Native.Nat.{ℕ, ◌*◌, ◌≤◌, ◌<◌}
use native.Mathlib.Omega.{arith}
use mathlib.Core.Path.{◌≡◌, ap}
use mathlib.Core.List.{List, [], ◌∷◌, ◌++◌}
use lib.ListN.{length, get_or, length-append}
use Rattle.split.specs.Lines.{newline}
use Rattle.lines_text.specs.Text.{space, field, step_line, step_lines, pair_line, pair_lines, read_line, refused_line}
use Rattle.lines_text.proofs.Decimal.{field-short, field-two}

pub steps-turn : {plan : List ℕ} (step rest : List ℕ) → length step ≡ 4 → plan ≡ step ++ rest
    → step_lines plan ≡ step_line (get_or step 0 0) (get_or step 1 0) (get_or step 2 0) (get_or step 3 0) ++ step_lines rest
steps-turn [] rest four e = absurd (omega arith)
steps-turn (p ∷ []) rest four e = absurd (omega arith)
steps-turn (p ∷ i ∷ []) rest four e = absurd (omega arith)
steps-turn (p ∷ i ∷ k ∷ []) rest four e = absurd (omega arith)
steps-turn (p ∷ i ∷ k ∷ j ∷ []) rest four e = ap step_lines e
steps-turn (p ∷ i ∷ k ∷ j ∷ a ∷ l) rest four e = absurd (omega arith)

pub pairs-turn : {pairs : List ℕ} (pair rest : List ℕ) → length pair ≡ 2 → pairs ≡ pair ++ rest
    → pair_lines pairs ≡ pair_line (get_or pair 0 0) (get_or pair 1 0) ++ pair_lines rest
pairs-turn [] rest two e = absurd (omega arith)
pairs-turn (a ∷ []) rest two e = absurd (omega arith)
pairs-turn (a ∷ b ∷ []) rest two e = ap pair_lines e
pairs-turn (a ∷ b ∷ c ∷ l) rest two e = absurd (omega arith)

-- What the lines take at most.
pub step-short : (p i k j : ℕ) → length (step_line p i k j) ≤ 84
step-short p i k j =
    let a = field p space in
    let b = field i space in
    let c = field k space in
    let d = field j newline in
    omega (
      arith,
      length-append a (b ++ (c ++ d)),
      length-append b (c ++ d),
      length-append c d,
      field-short p space,
      field-short i space,
      field-short k space,
      field-short j newline,
    )

two-short : (a b : ℕ) → length (field a space ++ field b newline) ≤ 42
two-short a b =
    omega (arith, length-append (field a space) (field b newline), field-short a space, field-short b newline)

pub pair-short : (a b : ℕ) → length (pair_line a b) ≤ 47
pair-short a b = omega (arith, two-short a b)

pub read_short : (a b : ℕ) → length (read_line a b) ≤ 47
read_short a b = omega (arith, two-short a b)

pub refused-short : (number : ℕ) → length (refused_line number) ≤ 29
refused-short number = omega (arith, field-short number newline)

-- And where their numbers are below 100.
pub step-two : (p i k j : ℕ) → p < 100 → i < 100 → k < 100 → j < 100 → length (step_line p i k j) ≤ 12
step-two p i k j p< i< k< j< =
    let a = field p space in
    let b = field i space in
    let c = field k space in
    let d = field j newline in
    omega (
      arith,
      length-append a (b ++ (c ++ d)),
      length-append b (c ++ d),
      length-append c d,
      field-two p space p<,
      field-two i space i<,
      field-two k space k<,
      field-two j newline j<,
    )

pub pair-two : (a b : ℕ) → a < 100 → b < 100 → length (pair_line a b) ≤ 11
pair-two a b a< b< =
    omega (arith, length-append (field a space) (field b newline), field-two a space a<, field-two b newline b<)

pub steps-short : (l : List ℕ) → length (step_lines l) ≤ 21 * length l
steps-short [] = omega arith
steps-short (a ∷ []) = omega arith
steps-short (a ∷ b ∷ []) = omega arith
steps-short (a ∷ b ∷ c ∷ []) = omega arith
steps-short (a ∷ b ∷ c ∷ d ∷ l) = omega (arith, length-append (step_line a b c d) (step_lines l), step-short a b c d, steps-short l)
