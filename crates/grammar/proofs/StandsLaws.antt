-- What stands at a place of a list is what is read there, and nothing else stands there.
-- By induction on the proof that it stands there, or on the list and the place together.
use Prim.Native.Nat.{ℕ, zero, suc, ◌<◌}
use mathlib.Core.Path.{◌≡◌, refl}
use mathlib.Core.List.{List, [], ◌∷◌}
use mathlib.Core.Option.{Option, none, some}
use native.Mathlib.Omega.{arith}
use lib.ListN.{length, get_elem?}
use Rattle.grammar.specs.Lists.{Stands, here, there}

module _ {A : Type 0} where
  pub stands-get_elem : {l : List A} {k : ℕ} {x : A} → Stands l k x → get_elem? l k ≡ some x
  stands-get_elem here = refl
  stands-get_elem (there s) = stands-get_elem s

  pub none-some : {x : A} → ◌≡◌ {A = Option A} none (some x) → ⊥
  none-some e = let z : ◌≡◌ {A = ℕ} 0 1 = cc in omega arith

  pub some_same : {x y : A} → some x ≡ some y → x ≡ y
  some_same e = cc

  pub get_elem-stands : (l : List A) (k : ℕ) {x : A} → get_elem? l k ≡ some x → Stands l k x
  get_elem-stands [] k e = absurd (none-some e)
  get_elem-stands (y ∷ l) zero e = rw (some_same e) here
  get_elem-stands (y ∷ l) (suc k) e = there (get_elem-stands l k e)

  pub stands-unique : {l : List A} {k : ℕ} {x y : A} → Stands l k x → Stands l k y → x ≡ y
  stands-unique s t = let a = stands-get_elem s in let b = stands-get_elem t in cc

  pub stands-length : {l : List A} {k : ℕ} {x : A} → Stands l k x → k < length l
  stands-length here = omega arith
  stands-length (there s) = let h = stands-length s in omega arith
