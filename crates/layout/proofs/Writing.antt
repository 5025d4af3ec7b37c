-- Bytes that are written one stretch after the other are one stretch: a later one leaves what stands before it, the earlier
-- stretch in it, and past its own end it finds what was there at first.
use Prim.Native.Nat.{ℕ, ◌+◌, ◌≤◌}
use native.Mathlib.Omega.{arith}
use mathlib.Core.Path.{◌≡◌, sym, ◌∙◌}
use mathlib.Core.List.{List, [], ◌++◌, append_assoc}
use lib.ListN.{length, take, drop, length-append, length-drop, take-append-drop}
use lib.Seq.{length-take-le, take_at, drop_at, drop-drop}
use Rattle.layout.specs.Written.{Wrote}

pub wrote_none : (old : List ℕ) (here : ℕ) → here ≤ length old → Wrote old here [] old here
wrote_none old here h = record { ends = omega arith; fits = h; written = sym (take-append-drop here old) }

module _ {old bytes mid : List ℕ} {here next : ℕ} (w : Wrote old here bytes mid next) where
  here-inside : here ≤ length old
  here-inside = let e = w.ends in let f = w.fits in omega arith

  front : length (take here old ++ bytes) ≡ next
  front = let e = w.ends in let l = length-take-le here old here-inside in simp length-append (omega arith)

  pub wrote-front : take next mid ≡ take here old ++ bytes
  wrote-front =
      rw (w.written, ← append_assoc (take here old) bytes (drop next old))
      (take_at (take here old ++ bytes) (drop next old) next front)

  wrote-back : drop next mid ≡ drop next old
  wrote-back =
      rw (w.written, ← append_assoc (take here old) bytes (drop next old))
      (drop_at (take here old ++ bytes) (drop next old) next front)

  wrote-past : (n : ℕ) → drop (next + n) mid ≡ drop (next + n) old
  wrote-past n = rw (← drop-drop n next mid, wrote-back, drop-drop n next old)

  pub wrote-length : length mid ≡ length old
  wrote-length = let f = w.fits in
      rw (w.written, ← append_assoc (take here old) bytes (drop next old), length-append, front, length-drop) (omega arith)

  pub wrote_then : {more new : List ℕ} {last : ℕ} → Wrote mid next more new last → Wrote old here (bytes ++ more) new last
  wrote_then {more} {new} {last} v =
      let e = w.ends in
      let d = v.ends in
      record {
        ends = simp length-append (omega arith);
        fits = let f = v.fits in let l = wrote-length in omega arith;
        written = v.written ∙ shifted last d;
      }
    where
      shifted : (last : ℕ) → last ≡ next + length more
          → take next mid ++ (more ++ drop last mid) ≡ take here old ++ ((bytes ++ more) ++ drop last old)
      shifted last d = rw (wrote-front, d, wrote-past, append_assoc (take here old) bytes, append_assoc bytes more)
