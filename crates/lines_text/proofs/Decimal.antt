-- The digits of a number: 20 at most, and the same that the library prints.
use Prim.Native.Nat.{ℕ, zero, suc, ◌+◌, ◌/◌, ◌%◌, ◌^◌, ◌≤◌, ◌<◌}
use native.Mathlib.Omega.{arith}
use mathlib.Core.Path.{◌≡◌, ap}
use mathlib.Core.Bool.{Bool, true, false, cond}
use mathlib.Core.List.{List, [], ◌∷◌, ◌++◌}
use lib.Dec.{ltb}
use lib.ListN.{length, length-append}
use borrow.Author.Tests.{lt-ltb, le-ltb}
use Rattle.std.specs.Fmt.{decimal as printed}
use Rattle.std.proofs.lemmas.Fmt.{decimal_from_appends, length-decimal-le}
use Rattle.lines_text.specs.Text.{digits_within, decimal, field, Appends}
use Rattle.lines_text.proofs.Appending.{appends-then}

short-if : (b : Bool) (x y : List ℕ) (k : ℕ) → length x ≤ k → length y ≤ k → length (cond b x y) ≤ k
short-if true x y k h h' = h
short-if false x y k h h' = h'

digits-short : (k n : ℕ) → length (digits_within k n) ≤ k
digits-short zero n = omega arith
digits-short (suc k) n =
    short-if (ltb n 10) ((48 + n) ∷ []) (digits_within k (n / 10) ++ ((48 + n % 10) ∷ [])) (suc k) (omega arith)
    (omega (arith, length-append (digits_within k (n / 10)) ((48 + n % 10) ∷ []), digits-short k (n / 10)))

pub field-short : (n end : ℕ) → length (field n end) ≤ 21
unfolding decimal
field-short n end = omega (arith, length-append (digits_within 20 n) (end ∷ []), digits-short 20 n)

small-digits : (k n : ℕ) → n < 10 → digits_within (suc k) n ≡ (48 + n) ∷ []
small-digits k n h = rw (lt-ltb n 10 h)

large-digits : (k n : ℕ) → 10 ≤ n → digits_within (suc k) n ≡ digits_within k (n / 10) ++ ((48 + n % 10) ∷ [])
large-digits k n h = rw (le-ltb n 10 h)

-- A number below 100 has at most two.
pub field-two : (n end : ℕ) → n < 100 → length (field n end) ≤ 3
unfolding decimal
field-two n end h =
    let tens : n / 10 < 10 = omega arith in
    let last = (48 + n % 10) ∷ [] in
    let two = short-if (ltb n 10) ((48 + n) ∷ []) (digits_within 19 (n / 10) ++ last) 2 (omega arith)
    (omega (arith, length-append (digits_within 19 (n / 10)) last, ap length (small-digits 18 (n / 10) tens))) in
    omega (arith, length-append (digits_within 20 n) (end ∷ []), two)

-- The library prints the same digits.
pub decimal-printed : (n : ℕ) → n < 2 ^ 64 → decimal n ≡ printed n
unfolding decimal
decimal-printed n h =
    decimal_from_appends digits_within (record { one = small-digits; more = large-digits }) 20 n h (length-decimal-le 20 n (omega arith) (omega arith) h)

-- A number's digits are appended, and then the byte after them.
pub field-appends : {old mid new digits : List ℕ} {at m e : ℕ} (n end : ℕ) → n < 2 ^ 64 → digits ≡ printed n → Appends old at digits mid m
    → Appends mid m (end ∷ []) new e → Appends old at (field n end) new e
field-appends n end fits is x y = rw (decimal-printed n fits, ← is) (appends-then x y)

pub ruleset short_fields = (field-short)
