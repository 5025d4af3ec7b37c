-- A line of n words has at least 2n − 1 bytes: each word has one, and each but the last a space after it.
use Prim.Native.Nat.{ℕ, suc, ◌+◌, ◌*◌, ◌≤◌}
use native.Mathlib.Omega.{arith}
use mathlib.Core.Path.{◌≡◌, refl}
use mathlib.Core.Bool.{Bool, true, false}
use mathlib.Core.List.{List, [], ◌∷◌, ◌++◌}
use lib.Dec.{eqb}
use lib.ListN.{length}
use Rattle.layout.specs.Line.{space, ended, words_from, words_of}

-- Has a word been begun? It counts 1.
abbrev begun : List ℕ → ℕ
begun [] = 0
begun (b ∷ so) = 1

begun-most : (so : List ℕ) → begun so ≤ 1
begun-most [] = omega arith
begun-most (b ∷ so) = omega arith

begun_more : (so : List ℕ) (b : ℕ) → begun (so ++ (b ∷ [])) ≡ 1
begun_more [] b = refl
begun_more (a ∷ so) b = refl

ended-length : (so : List ℕ) (words : List (List ℕ)) → length (ended so words) ≡ begun so + length words
ended-length [] words = omega arith
ended-length (b ∷ so) words = omega arith

one_byte : (t : Bool) (so : List ℕ) (n : ℕ) (fresh longer : List (List ℕ)) → 2 * length fresh ≤ n + 1 → 2 * length longer ≤ n + 2
    → 2 * length {A = List ℕ} (elim t [ true ↦ ended so fresh | false ↦ longer ]) ≤ suc n + 1 + begun so
one_byte true so n fresh longer h k = omega (arith, ended-length so fresh, begun-most so)
one_byte false so n fresh longer h k = omega arith

words-from : (so line : List ℕ) → 2 * length (words_from so line) ≤ length line + 1 + begun so
words-from so [] = omega (arith, ended-length so [], begun-most so)
words-from so (b ∷ line) =
    one_byte (eqb b space) so (length line) (words_from [] line) (words_from (so ++ (b ∷ [])) line) (omega (arith, words-from [] line))
    (omega (arith, words-from (so ++ (b ∷ [])) line, begun_more so b))

pub words-length : (line : List ℕ) → 2 * length (words_of line) ≤ length line + 1
words-length line = omega (arith, words-from [] line)
