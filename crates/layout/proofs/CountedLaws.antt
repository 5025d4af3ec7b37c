-- A table that is counted out has at place m what its function gives for m: by induction on how many there are.
-- So what stands in the room's chart is read at its place, and a production of the card is the one with its number.
use Prim.Native.Nat.{ℕ, zero, suc, ◌+◌, ◌<◌}
use native.Mathlib.Nat.{add-zero, add-suc, suc-add, zero-add}
use native.Mathlib.Omega.{arith}
use mathlib.Core.Path.{◌≡◌, refl, ◌∙◌, ap}
use mathlib.Core.List.{List, map}
use lib.ListN.{length, length-map}
use Rattle.grammar.specs.Lists.{Stands, here, there}
use Rattle.grammar.specs.Rewriting.{Rule}
use Rattle.grammar.proofs.StandsLaws.{stands-unique, stands-length}
use Rattle.layout.specs.Bytes.{counted}
use Rattle.layout.specs.Card.{production, production_count, grammar_of}

length-counted : (k n : ℕ) → length (counted k n) ≡ n
length-counted k zero = refl
length-counted k (suc n) = ap suc (length-counted (suc k) n)

module _ {A : Type 0} (f : ℕ → A) where
  pub table-length : (k n : ℕ) → length (map f (counted k n)) ≡ n
  table-length k n = length-map (counted k n) f ∙ length-counted k n

  counted-stands : (k n m : ℕ) → m < n → Stands (map f (counted k n)) m (f (k + m))
  counted-stands k zero m h = absurd (omega arith)
  counted-stands k (suc n) zero h = rw add-zero here
  counted-stands k (suc n) (suc m) h = rw (add-suc, ← suc-add) (there (counted-stands (suc k) n m (omega arith)))

  pub table-stands : {n m : ℕ} → m < n → Stands (map f (counted 0 n)) m (f m)
  table-stands {n} {m} h = rw zero-add at (counted-stands 0 n m h)

  pub stands-below : (n m : ℕ) {x : A} → Stands (map f (counted 0 n)) m x → m < n
  stands-below n m s = omega (arith, stands-length s, table-length 0 n)

  pub stands-there : (n m : ℕ) {x : A} → Stands (map f (counted 0 n)) m x → x ≡ f m
  stands-there n m s = stands-unique s (table-stands (stands-below n m s))

-- Production number p of the card.
pub rule-there : (card : List ℕ) {p : ℕ} {rule : Rule} → Stands (grammar_of card) p rule → rule ≡ production card p
rule-there card {p} s = stands-there (production card) (production_count card) p s
