-- Laws of a word entry, over plain lists and numbers: the parts of it that the code looks at.
use Prim.Native.Nat.{ℕ, zero, suc, ◌+◌, ◌-◌}
use native.Mathlib.Omega.{arith}
use native.Mathlib.Nat.{sub-zero, zero-sub, suc-sub-suc, add-sub_cancel_left}
use mathlib.Core.Path.{◌≡◌}
use mathlib.Core.Bool.{true, ◌&&◌}
use mathlib.Core.List.{List, [], ◌∷◌}
use lib.Dec.{eqb}
use lib.ListN.{take, drop}
use lib.Seq.{take-nil, drop-drop}
use Rattle.layout.specs.Bytes.{byte_at, is_letter, all_bytes}
use Rattle.layout.specs.Card.{entry_at, entry_fits, most_letters, within}

-- A word entry, as the parts of the card that the code looks at.
drop-take : (m n : ℕ) (l : List ℕ) → drop m (take n l) ≡ take (n - m) (drop m l)
drop-take zero n l = rw sub-zero
drop-take (suc m) n [] = rw (take-nil n, take-nil)
drop-take (suc m) zero (b ∷ l) = rw zero-sub
drop-take (suc m) (suc n) (b ∷ l) = rw suc-sub-suc (drop-take m n l)

spelling-part : (card : List ℕ) (at n : ℕ) → take (at + 1 + n - (at + 1)) (drop (at + 1) card) ≡ take n (drop (at + 1) card)
spelling-part card at n = rw add-sub_cancel_left

padding-part : (card : List ℕ) (at n : ℕ)
    → take (at + 12 - (at + 1 + n)) (drop (at + 1 + n) card) ≡ drop (1 + n) (take 12 (drop at card))
padding-part card at n =
    let size : at + 12 - (at + 1 + n) ≡ 12 - (1 + n) = omega arith in
    let place : at + 1 + n ≡ at + (1 + n) = omega arith in
    rw (drop-take, drop-drop, size, place)

entry-parts : (card : List ℕ) (v at n : ℕ) → at ≡ entry_at card v → n ≡ byte_at card at
    → (within 1 most_letters n
    && (all_bytes is_letter (take (at + 1 + n - (at + 1)) (drop (at + 1) card))
    && all_bytes (eqb 0) (take (at + 12 - (at + 1 + n)) (drop (at + 1 + n) card))))
    ≡ entry_fits card v
entry-parts card v at n e h = rw (spelling-part, padding-part, h, e)

-- An entry that starts at `at` and has the length byte n: where its length and its letters fit, its padding decides.
pub entry-padding : (card : List ℕ) (v at n : ℕ) → at ≡ entry_at card v → n ≡ byte_at card at → within 1 most_letters n ≡ true
    → all_bytes is_letter (take (at + 1 + n - (at + 1)) (drop (at + 1) card)) ≡ true
    → all_bytes (eqb 0) (take (at + 12 - (at + 1 + n)) (drop (at + 1 + n) card)) ≡ entry_fits card v
entry-padding card v at n place length-byte size letters = rw (size, letters) at (entry-parts card v at n place length-byte)
