-- Bytes and the numbers in them. A list of bytes is a list of numbers.
use Rattle.std.specs.Prelude.{ℕ, zero, suc, ◌+◌, ◌*◌, ◌/◌, ◌%◌, Bool, true, false, ◌&&◌, ◌||◌, List, [], ◌∷◌, eqb, leb, get_or}

-- The byte at a place, 0 past the end; the 16-bit number there, low byte first.
abbrev pub byte_at : List ℕ → ℕ → ℕ
byte_at bytes k = get_or bytes k 0

abbrev pub number16_at : List ℕ → ℕ → ℕ
number16_at bytes k = byte_at bytes k + 256 * byte_at bytes (k + 1)

abbrev pub low_byte : ℕ → ℕ
low_byte x = x % 256

abbrev pub high_byte : ℕ → ℕ
high_byte x = x / 256

-- a to z and 0 to 9.
abbrev pub is_letter : ℕ → Bool
is_letter b = (leb 0x61 b && leb b 0x7A) || (leb 0x30 b && leb b 0x39)

abbrev pub same_bytes : List ℕ → List ℕ → Bool
same_bytes [] [] = true
same_bytes [] (b ∷ bytes') = false
same_bytes (b ∷ bytes) [] = false
same_bytes (b ∷ bytes) (b' ∷ bytes') = eqb b b' && same_bytes bytes bytes'

-- Does the test hold of every byte; of every number below n?
abbrev pub all_bytes : (ℕ → Bool) → List ℕ → Bool
all_bytes test [] = true
all_bytes test (b ∷ bytes) = test b && all_bytes test bytes

abbrev pub all_below : ℕ → (ℕ → Bool) → Bool
all_below zero test = true
all_below (suc n) test = test n && all_below n test

-- Of some number below n?
abbrev pub some_below : ℕ → (ℕ → Bool) → Bool
some_below zero test = false
some_below (suc n) test = test n || some_below n test

-- k, k + 1, .., k + n - 1.
abbrev pub counted : ℕ → ℕ → List ℕ
counted k zero = []
counted k (suc n) = k ∷ counted (suc k) n
