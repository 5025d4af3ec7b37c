-- Records made from the bytes of pairs, two at a time: what is written and what is to come are the records of all of them.
use Prim.Native.Nat.{ℕ, ◌+◌, ◌*◌, ◌-◌, ◌≤◌, ◌<◌}
use native.Mathlib.Omega.{arith}
use mathlib.Core.Path.{◌≡◌, refl, sym, ◌∙◌, ap}
use mathlib.Core.List.{List, [], ◌∷◌, ◌++◌, append_assoc, append-nil}
use lib.ListN.{length, get_or, take, drop}
use lib.Seq.{take-length, drop-drop}
use Rattle.layout.specs.Written.{Wrote}
use Rattle.layout.proofs.Writing.{wrote_none, wrote_then}
use Rattle.sheet.specs.Placed.{placed, record_room}
use Rattle.sheet.specs.declared.sheet_records.Records.{Records}

pub record Placing (k : ℕ) (pairs rest : List ℕ) (old now : Records) : Type 0 where
  pub front : List ℕ
  pub wrote : Wrote old.room (3 * old.count) front now.room (3 * now.count)
  pub whole : front ++ placed k rest ≡ placed k pairs
  pub fits : 6 * now.count + 3 * length rest ≤ 2 * record_room

pub placing-none : (k : ℕ) (pairs : List ℕ) (old : Records) → 3 * old.count ≤ length old.room → 6 * old.count + 3 * length pairs ≤ 2 * record_room
    → Placing k pairs pairs old old
placing-none k pairs old inside h = record { front = []; wrote = wrote_none old.room (3 * old.count) inside; whole = refl; fits = h }

-- One stretch put in the place of as many bytes.
pub wrote-part : {old ys bytes : List ℕ} {here k next : ℕ} → ys ≡ bytes → k ≡ length bytes → next ≡ here + k → next ≤ length old
    → Wrote old here bytes (take here old ++ (ys ++ drop k (drop here old))) next
wrote-part {old} {here = here} {k = k} {next = next} same size ends fits =
    let past : here + k ≡ next = sym ends in
    record { ends = omega arith; fits = fits; written = rw (same, drop-drop k here old, past) }

pub first-two : (l : List ℕ) → 2 ≤ length l → l ≡ get_or l 0 0 ∷ get_or l 1 0 ∷ take (length l - 2) (drop 2 l)
first-two [] h = absurd (omega arith)
first-two (a ∷ []) h = absurd (omega arith)
first-two (a ∷ b ∷ l) h =
    let rest : length (a ∷ b ∷ l) - 2 ≡ length l = omega arith in
    ap (λ (x : List ℕ). a ∷ b ∷ x) (sym (take-length l) ∙ ap (λ (n : ℕ). take n l) (sym rest))

few-placed : (k : ℕ) (l : List ℕ) → length l < 2 → placed k l ≡ []
few-placed k [] h = refl
few-placed k (a ∷ []) h = refl
few-placed k (a ∷ b ∷ l) h = absurd (omega arith)

module _ {k : ℕ} {pairs rest : List ℕ} {old now : Records} (s : Placing k pairs rest old now) where
  pub placing-more : {a b : ℕ} {others : List ℕ} {new : Records} → rest ≡ a ∷ b ∷ others
      → Wrote now.room (3 * now.count) (k ∷ a ∷ b ∷ []) new.room (3 * new.count) → Placing k pairs others old new
  placing-more {a} {b} {others} is three =
      record {
        front = s.front ++ (k ∷ a ∷ b ∷ []);
        wrote = wrote_then s.wrote three;
        whole = append_assoc s.front (k ∷ a ∷ b ∷ []) (placed k others) ∙ ap (λ (l : List ℕ). s.front ++ placed k l) (sym is) ∙ s.whole;
        fits = omega (arith, s.fits, three.ends, ap length is);
      }

  pub placing-all : length rest < 2 → Wrote old.room (3 * old.count) (placed k pairs) now.room (3 * now.count)
  placing-all h =
      let all : s.front ≡ placed k pairs =
      sym (append-nil s.front) ∙ ap (λ (l : List ℕ). s.front ++ l) (sym (few-placed k rest h)) ∙ s.whole in
      rw all at s.wrote
