-- Letters: bytes above the space, so each fits a line.
use Prim.Native.Nat.{ℕ, ◌≤◌}
use native.Mathlib.Omega.{arith}
use mathlib.Core.Path.{◌≡◌, refl}
use mathlib.Core.Bool.{Bool, true, false, ◌&&◌, ◌||◌, false≢true}
use lib.Dec.{leb}
use borrow.Author.Tests.{leb-true, ne_eqb}
use Rattle.layout.specs.Bytes.{is_letter}
use Rattle.layout.specs.Line.{space, is_line_byte}
use Rattle.layout.proofs.TestLaws.{both}

-- The limits of letters and digits together.
letter-limits : (b : ℕ) → is_letter b ≡ true → (0x30 ≤ b) × (b ≤ 0x7A)
letter-limits b e = go (leb 0x61 b && leb b 0x7A) (leb 0x30 b && leb b 0x39) refl refl e
  where
    go : (t u : Bool) → (leb 0x61 b && leb b 0x7A) ≡ t → (leb 0x30 b && leb b 0x39) ≡ u → (t || u) ≡ true → (0x30 ≤ b) × (b ≤ 0x7A)
    go true u f g h =
        let parts = both (leb 0x61 b) (leb b 0x7A) f in
        let low = leb-true 0x61 b parts.0 in
        (omega arith, leb-true b 0x7A parts.1)
    go false true f g h =
        let parts = both (leb 0x30 b) (leb b 0x39) g in
        let high = leb-true b 0x39 parts.1 in
        (leb-true 0x30 b parts.0, omega arith)
    go false false f g h = absurd (false≢true h)

pub letter-no-space : (b : ℕ) → is_letter b ≡ true → b ≡ space → ⊥
letter-no-space b e s = omega (arith, (letter-limits b e).0)

pub letter-fits : (b : ℕ) → is_letter b ≡ true → is_line_byte b ≡ true
letter-fits b e = rw e

pub neither-fits : (b : ℕ) → is_letter b ≡ false → (b ≡ space → ⊥) → is_line_byte b ≡ false
neither-fits b e n = rw (e, ne_eqb b space n)
