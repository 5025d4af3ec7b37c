-- Lists in order, "not after": of two pairs in order the joined lists are in order, for where the first pair differs it decides, and
-- otherwise the second does; and lists in order both ways are equal. By induction on the order.
use Prim.Native.Nat.{ℕ, ◌≤◌, ◌<◌}
use native.Mathlib.Omega.{arith}
use mathlib.Core.Path.{◌≡◌, refl, ap}
use mathlib.Core.Logic.{◌⊎◌, inl, inr}
use mathlib.Core.List.{List, [], ◌∷◌, ◌++◌}
use Rattle.grammar.specs.Lists.{NotAfter, ended, sooner, agreed}

module _ {A : Type 0} {R : A → A → Type 0} where
  -- What follows has to be in order only where the first lists are equal.
  pub not-after-then : {l l' m m' : List A} → NotAfter R l m → (l ≡ m → NotAfter R l' m') → NotAfter R (l ++ l') (m ++ m')
  not-after-then ended further = further refl
  not-after-then (sooner h) further = sooner h
  not-after-then (agreed {x = x} s) further = agreed (not-after-then s λ e. further (ap (λ (l : List A). x ∷ l) e))

  pub not-after-append : {l l' m m' : List A} → NotAfter R l m → NotAfter R l' m' → NotAfter R (l ++ l') (m ++ m')
  not-after-append s t = not-after-then s λ e. t

  pub not-after-self : (l : List A) → NotAfter R l l
  not-after-self [] = ended
  not-after-self (x ∷ l) = agreed (not-after-self l)

  pub not-after-trans : ((x y z : A) → R x y → R y z → R x z) → {l m h : List A} → NotAfter R l m → NotAfter R m h → NotAfter R l h
  not-after-trans t ended v = v
  not-after-trans t (sooner {x} {y} b) (sooner {y = z} c) = sooner (t x y z b c)
  not-after-trans t (sooner b) (agreed v) = sooner b
  not-after-trans t (agreed u) (sooner c) = sooner c
  not-after-trans t (agreed u) (agreed v) = agreed (not-after-trans t u v)

  -- Of two lists in order the first elements are, or they are equal and what follows is in order.
  not-after-parts : {x y : A} {l m : List A} → NotAfter R (x ∷ l) (y ∷ m) → R x y ⊎ ((x ≡ y) × NotAfter R l m)
  not-after-parts (sooner h) = inl h
  not-after-parts (agreed s) = inr (refl, s)

  -- Where no two elements are before each other, lists in order both ways are equal.
  pub not-after-both : ((x y : A) → R x y → R y x → ⊥) → {l m : List A} → NotAfter R l m → NotAfter R m l → l ≡ m
  not-after-both never ended t = refl
  not-after-both never (sooner {x = x} {y = y} h) (sooner k) = absurd (never x y h k)
  not-after-both never (sooner {x = x} h) (agreed t) = absurd (never x x h h)
  not-after-both never (agreed {x = x} s) t = elim (not-after-parts t) [
    | inl k ↦ absurd (never x x k k)
    | inr p ↦ ap (λ (l : List A). x ∷ l) (not-after-both never s p.1)
  ]

-- Numbers: the heads of lists in order are in order, and equal heads leave the order to the tails.
pub not-after-heads : {x y : ℕ} {l m : List ℕ} → NotAfter ◌<◌ (x ∷ l) (y ∷ m) → x ≤ y
not-after-heads (sooner h) = omega arith
not-after-heads (agreed s) = omega arith

pub not-after-tails : {x y : ℕ} {l m : List ℕ} → x ≡ y → NotAfter ◌<◌ (x ∷ l) (y ∷ m) → NotAfter ◌<◌ l m
not-after-tails e (sooner h) = absurd (omega arith)
not-after-tails e (agreed s) = s
