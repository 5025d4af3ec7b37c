-- Runs of letters, and the parts of a list of bytes that they stand in.
use Prim.Native.Nat.{ℕ, suc, ◌+◌, ◌-◌, ◌≤◌, ◌<◌}
use native.Mathlib.Omega.{arith}
use mathlib.Core.Path.{◌≡◌, refl, sym, ◌∙◌, ap}
use mathlib.Core.Bool.{Bool, true, false, ◌&&◌, ◌||◌}
use mathlib.Core.List.{List, [], ◌∷◌, ◌++◌}
use lib.ListN.{length, get_or, take, drop, length-take, length-drop, take-append-drop}
use lib.Dec.{leb}
use Rattle.std.specs.Char.{is_ascii_digit}
use lib.Seq.{take-suc, take-add, take-length, drop-drop, get_or-take, get_or-drop}
use Rattle.layout.specs.Bytes.{byte_at, is_letter, all_bytes}
use Rattle.layout.proofs.TestLaws.{both, all-bytes}
use Rattle.octets.specs.Letters.{part, Letters}
use Rattle.octets.specs.Past.{Past}

-- Lists of letters.
all_append : (test : ℕ → Bool) (a b : List ℕ) → all_bytes test a ≡ true → all_bytes test b ≡ true → all_bytes test (a ++ b) ≡ true
all_append test [] b e f = f
all_append test (x ∷ a) b e f =
    let parts = both (test x) (all_bytes test a) e in
    rw parts.0 (all_append test a b parts.1 f)

-- Parts of a list of bytes.
pub part_length : (bytes : List ℕ) (start i : ℕ) → i ≤ length bytes → length (part bytes start i) ≡ i - start
part_length bytes start i h = simp (length-take, length-drop) (omega arith)

pub part-more : (bytes : List ℕ) (start i : ℕ) → start ≤ i → i < length bytes
    → part bytes start (i + 1) ≡ part bytes start i ++ (byte_at bytes i ∷ [])
part-more bytes start i a h =
    let e : i + 1 - start ≡ suc (i - start) = omega arith in
    let f : start + (i - start) ≡ i = omega arith in
    rw e
    (take-suc (drop start bytes) (i - start) 0 (omega (arith, length-drop start bytes))
    ∙ rw (get_or-drop start bytes (i - start) 0, f))

pub part-rest : (bytes : List ℕ) (start stop : ℕ) → start ≤ stop → drop start bytes ≡ part bytes start stop ++ drop stop bytes
part-rest bytes start stop a =
    let f : start + (stop - start) ≡ stop = omega arith in
    sym (take-append-drop (stop - start) (drop start bytes)) ∙ rw (drop-drop, f)

-- One letter more, and one run of letters after another.
pub letters-more : {bytes : List ℕ} {at i : ℕ} → Letters bytes at i → i < length bytes → is_letter (byte_at bytes i) ≡ true
    → Letters bytes at (i + 1)
letters-more {bytes} {at} {i} s h e =
    record {
      after = omega (arith, s.after);
      within = omega arith;
      letters =
          rw (part-more bytes at i s.after h)
          (all_append is_letter (part bytes at i) (byte_at bytes i ∷ []) s.letters (rw e));
    }

pub letters-join : {bytes : List ℕ} {at i stop : ℕ} → Letters bytes at i → Letters bytes i stop → Letters bytes at stop
letters-join {bytes} {at} {i} {stop} s t =
    let sum : stop - at ≡ i - at + (stop - i) = omega (arith, s.after, t.after) in
    let place : at + (i - at) ≡ i = omega (arith, s.after) in
    record {
      after = omega (arith, s.after, t.after);
      within = t.within;
      letters =
          rw (sum, take-add, drop-drop, place) (all_append is_letter (part bytes at i) (part bytes i stop) s.letters t.letters);
    }

-- Passed by a test that only letters fit; a digit is one.
pub digit-letter : (b : ℕ) → is_ascii_digit b ≡ true → is_letter b ≡ true
digit-letter b h = go (leb 0x61 b && leb b 0x7A) h
  where
    go : (t : Bool) {u : Bool} → u ≡ true → (t || u) ≡ true
    go true h = refl
    go false h = h

pub letters-passed : {fits : ℕ → Bool → Type 0} {bytes : List ℕ} {at stop : ℕ} → ((b : ℕ) → fits b true → is_letter b ≡ true)
    → Past fits bytes at stop → Letters bytes at stop
letters-passed {fits} {bytes} {at} {stop} fit p =
    record {
      after = p.after;
      within = p.within;
      letters =
          sym (all-bytes is_letter (part bytes at stop) λ k h.
          let lt : k < stop - at = omega (arith, h, part_length bytes at stop p.within) in
          let here : get_or (part bytes at stop) k 0 ≡ byte_at bytes (at + k) = get_or-take (stop - at) (drop at bytes) k 0 lt ∙ get_or-drop at bytes k 0 in
          ap is_letter here ∙ fit (byte_at bytes (at + k)) (p.passed (at + k) (omega arith) (omega arith)));
    }

-- Up to the end: all bytes are letters.
pub letters-whole : {bytes : List ℕ} {i : ℕ} → Letters bytes 0 i → length bytes ≤ i → true ≡ all_bytes is_letter bytes
letters-whole {bytes} {i} s h =
    let all : i - 0 ≡ length bytes = omega (arith, s.within) in
    let same : part bytes 0 i ≡ bytes = ap (λ (k : ℕ). take k bytes) all ∙ take-length bytes in
    sym s.letters ∙ ap (all_bytes is_letter) same
