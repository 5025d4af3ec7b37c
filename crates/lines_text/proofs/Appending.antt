-- Texts appended to a buffer one after the other, and a text of which part is written and the rest is to come.
use Prim.Native.Nat.{ℕ, ◌+◌, ◌≤◌}
use native.Mathlib.Omega.{arith}
use mathlib.Core.Path.{◌≡◌, sym, ◌∙◌, ap}
use mathlib.Core.List.{List, ◌++◌, append_assoc}
use lib.ListN.{length, take, length-append, length-take}
use lib.Seq.{length-take-le}
use Rattle.lines_text.specs.Text.{Appends}

pub appends-then : {old mid new a b : List ℕ} {at m e : ℕ} → Appends old at a mid m → Appends mid m b new e
    → Appends old at (a ++ b) new e
appends-then {old} {mid} {new} {a} {b} {at} x y =
    record {
      same_length = y.same_length ∙ x.same_length;
      size = omega (arith, x.size, y.size, length-append a b);
      bytes = y.bytes ∙ ap (λ (l : List ℕ). l ++ b) x.bytes ∙ append_assoc (take at old) a b;
    }

-- What is in use stays within the buffer.
pub appends-within : {old text new : List ℕ} {at after : ℕ} → Appends old at text new after → at ≤ length old → after ≤ length new
appends-within {old} {text} {new} {at} {after} x h =
    omega (
      arith,
      x.size,
      ap length x.bytes,
      length-append (take at old) text,
      length-take after new,
      length-take-le at old h,
    )

-- Part of a text is written, and the rest is to come.
pub record Going (old : List ℕ) (at : ℕ) (all now : List ℕ) (m : ℕ) (rest : List ℕ) : Type 0 where
  pub same_length : length now ≡ length old
  pub size : m + length rest ≡ at + length all
  pub bytes : take m now ++ rest ≡ take at old ++ all

pub going-turn : {old all mid new a rest whole : List ℕ} {at m e : ℕ} → Going old at all mid m whole → whole ≡ a ++ rest
    → Appends mid m a new e → Going old at all new e rest
going-turn {old} {all} {mid} {new} {a} {rest} {whole} {at} {m} g s x =
    record {
      same_length = x.same_length ∙ g.same_length;
      size = omega (arith, g.size, x.size, ap length s, length-append a rest);
      bytes =
          ap (λ (l : List ℕ). l ++ rest) x.bytes ∙ append_assoc (take m mid) a rest ∙ ap (λ (l : List ℕ). take m mid ++ l) (sym s)
          ∙ g.bytes;
    }
