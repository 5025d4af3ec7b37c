-- The lines of an input, taken from the front.
use Prim.Native.Nat.{ℕ, suc, ◌+◌, ◌-◌, ◌<◌}
use native.Mathlib.Omega.{arith}
use mathlib.Core.Path.{◌≡◌, refl, ap}
use mathlib.Core.Bool.{Bool, true, false, not, cond}
use mathlib.Core.List.{List, [], ◌∷◌}
use lib.Dec.{eqb}
use lib.ListN.{length, take, drop, length-drop}
use lib.Seq.{drop-drop}
use Rattle.std.specs.List.{prefix_len}
use Rattle.octets.specs.Past.{Past}
use Rattle.octets.proofs.PastLaws.{past-run}
use Rattle.split.specs.Lines.{newline, in_front, lines_of, LineEnds}

-- A byte that ends no line; how many stand in front.
abbrev pub ends_none : ℕ → Bool
ends_none b = not (eqb b newline)

abbrev before_end : List ℕ → ℕ
before_end = prefix_len ends_none

-- They are the first line, and the others start one byte past them.
first-line : (bytes : List ℕ) → 0 < length bytes → lines_of bytes ≡ take (before_end bytes) bytes ∷ lines_of (drop (before_end bytes + 1) bytes)
first-line [] h = absurd (omega arith)
first-line (b ∷ []) h = go (eqb b newline)
  where
    go : (t : Bool) → cond t ([] ∷ []) ((b ∷ []) ∷ []) ≡ take (cond (not t) 1 0) (b ∷ []) ∷ lines_of (drop (cond (not t) 1 0 + 1) (b ∷ []))
    go true = refl
    go false = refl
first-line (b ∷ c ∷ bytes) h = go (eqb b newline) (before_end (c ∷ bytes)) (first-line (c ∷ bytes) (omega arith))
  where
    go : (t : Bool) (n : ℕ) → lines_of (c ∷ bytes) ≡ take n (c ∷ bytes) ∷ lines_of (drop (n + 1) (c ∷ bytes))
        → cond t ([] ∷ lines_of (c ∷ bytes)) (in_front b (lines_of (c ∷ bytes)))
        ≡ take (cond (not t) (1 + n) 0) (b ∷ c ∷ bytes) ∷ lines_of (drop (cond (not t) (1 + n) 0 + 1) (b ∷ c ∷ bytes))
    go true n e = refl
    go false n e =
        let one : 1 + n ≡ suc n = omega arith in
        let two : 1 + n + 1 ≡ suc (n + 1) = omega arith in
        rw (two, one) (ap (in_front b) e)

pub line-ends : {fits : ℕ → Bool → Type 0} {input : List ℕ} {at end : ℕ} → at < length input → ((b : ℕ) (r : Bool) → fits b r → r ≡ ends_none b)
    → Past fits input at end → LineEnds input at end
line-ends {fits} {input} {at} {end} h tells p =
    let rest = drop at input in
    let run : end - at ≡ before_end rest = past-run ends_none tells p in
    let next : end + 1 ≡ at + (before_end rest + 1) = omega (arith, run, p.after) in
    record {
      starts = p.after;
      within = p.within;
      first = rw (run, next, ← drop-drop) (first-line rest (omega (arith, length-drop at input)));
    }
