-- A derived item's span is not empty and lies within the line, and its foot lies within its span: by induction on the
-- derivation, since the sides and the dependent stand one after the other, and a continuation lies within the dependent.
use Prim.Native.Nat.{ℕ, ◌≤◌, ◌<◌}
use native.Mathlib.Omega.{arith}
use mathlib.Core.List.{List}
use Rattle.grammar.specs.Rewriting.{Rule}
use Rattle.grammar.specs.Input.{Below}
use Rattle.grammar.specs.Items.{Foot, bare, foot, Derived, word_step, take_step, keep_step, give_step, Sides, no_side, next_side}

-- The foot lies between i and j.
abbrev pub Within : ℕ → ℕ → Foot → Type 0
Within i j bare = Unit {0}
Within i j (foot γ B p q) = (i ≤ p) × (p < q) × (q ≤ j)

pub within_wider : {i j : ℕ} (i' j' : ℕ) (φ : Foot) → i' ≤ i → j ≤ j' → Within i j φ → Within i' j' φ
within_wider i' j' bare a b h = tt
within_wider i' j' (foot γ B p q) a b h = omega arith

mutual
  pub derived-bounds : {g : List Rule} {at : ℕ → ℕ → Type 0} {A i j : ℕ} {φ : Foot} (n : ℕ) → Below at n
      → Derived g at A i j φ → (i < j) × (j ≤ n) × Within i j φ
  derived-bounds n below (word_step {w = w} {i = i} s h) = let l = below i w h in (omega arith, l, tt)
  derived-bounds n below (take_step s before d after) =
      let b = sides-bounds n below before in
      let e = derived-bounds n below d in
      let a = sides-bounds n below after in
      let l = a.1 e.1 in
      (omega arith, l, omega arith)
  derived-bounds n below (keep_step {φ = φ} s before d after) =
      let b = sides-bounds n below before in
      let e = derived-bounds n below d in
      let a = sides-bounds n below after in
      let l = a.1 e.1 in
      (omega arith, l, within_wider _ _ φ b.0 a.0 e.2)
  derived-bounds n below (give_step {φ = φ} s before d after c) =
      let b = sides-bounds n below before in
      let e = derived-bounds n below d in
      let a = sides-bounds n below after in
      let f = derived-bounds n below c in
      let l = a.1 e.1 in
      (omega arith, l, within_wider _ _ φ (omega arith) (omega arith) f.2)

  pub sides-bounds : {g : List Rule} {at : ℕ → ℕ → Type 0} {Bs : List ℕ} {i j : ℕ} (n : ℕ) → Below at n
      → Sides g at Bs i j → (i ≤ j) × (i ≤ n → j ≤ n)
  sides-bounds n below no_side = omega arith
  sides-bounds n below (next_side d s) =
      let e = derived-bounds n below d in
      let t = sides-bounds n below s in
      (omega arith, λ h. t.1 e.1)
