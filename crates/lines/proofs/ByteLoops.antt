-- One read or write more: what a buffer has at its start, and what a reader gave or a writer took.
use Rattle.std.proofs.Common.{◌≡◌, ℕ, ◌+◌, ◌-◌, ◌≤◌, List, ◌++◌, arith, length, take, drop, sym, ap, ◌∙◌}
use borrow.Rule.Slice.PartMut.{put_mid}
use lib.ListN.{length-take}
use lib.Seq.{take-add, take-take, take-append-add, length-take-le}
use Rattle.std.proofs.lemmas.Slice.{take-put_mid}

-- The part of a buffer from `a` on was read into: its first n bytes follow what stood before.
pub take-read : (a k n : ℕ) (xs ys : List ℕ) → a ≤ length xs → n ≤ length ys → take (a + n) (put_mid a k xs ys) ≡ take a xs ++ take n ys
take-read a k n xs ys h r =
    let all : a + n ≤ a + length ys = omega arith in
    let len : length (take a xs) + n ≡ a + n = ap (λ (m : ℕ). m + n) (length-take-le a xs h) in
    sym (take-take (a + n) (a + length ys) (put_mid a k xs ys) all)
    ∙ ap (take (a + n)) (take-put_mid a k xs ys (a + length ys) (omega arith) h)
    ∙ ap (λ (m : ℕ). take m (take a xs ++ ys)) (sym len) ∙ take-append-add (take a xs) ys n

-- What is left of a text from `a` on was handed to a writer that took its first n bytes: they follow what it took before.
pub take-written : (a n : ℕ) (xs : List ℕ) → n ≤ length (take (length xs - a) (drop a xs)) → take (a + n) xs ≡ take a xs ++ take n (take (length xs - a) (drop a xs))
take-written a n xs h =
    let fits : n ≤ length xs - a = omega (arith, length-take (length xs - a) (drop a xs)) in
    take-add a n xs ∙ ap (λ (l : List ℕ). take a xs ++ l) (sym (take-take n (length xs - a) (drop a xs) fits))
