-- Places in the tables: each is below the table's length, and two spans, cells or feet that share a place are one.
-- The place of a cell or foot is a number written with N or n as the base, so its digits can be read back.
use Prim.Native.Nat.{ℕ, zero, suc, ◌+◌, ◌*◌, ◌-◌, ◌/◌, ◌%◌, ◌≤◌, ◌<◌}
use native.Mathlib.Nat.{le_refl, add-zero, add-suc, mul-suc, mul_comm, mul-le-mul, mul-le-mul_right}
use native.Mathlib.Decide.{ℕ_discrete}
use native.Mathlib.Omega.{arith}
use mathlib.Core.Path.{◌≡◌, refl, sym, ap, ◌∙◌, subst}
use mathlib.Core.Logic.{◌⊎◌, inl, inr}
use mathlib.Core.Bool.{Bool, true, false}
use lib.Arith.{digits_div, digits_mod}
use lib.Dec.{ltb}
use borrow.Author.Tests.{ltb-true, ltb-false}
use Rattle.grammar.specs.Items.{Foot, bare, foot}
use Rattle.records.specs.Room.{FootFits, foot_number}
use Rattle.records.specs.Cells.{spans, span_at, cell_at}

-- Two digits.
pub digits_same : (n a b r s : ℕ) → r < n → s < n → a * n + r ≡ b * n + s → (a ≡ b) × (r ≡ s)
digits_same n a b r s h k e = (
  sym (digits_div a h) ∙ ap (λ (x : ℕ). x / n) e ∙ digits_div b k,
  sym (digits_mod a h) ∙ ap (λ (x : ℕ). x % n) e ∙ digits_mod b k,
)

-- The spans of n words: twice their number is n * (n + 1), more words have more of them, and the spans that end at j come last among
-- those of j words.
pub spans-twice : (n : ℕ) → n * suc n ≡ 2 * spans n
spans-twice zero = refl
spans-twice (suc n) = omega (arith, spans-twice n, mul-suc (suc n) (suc n), mul-suc (suc n) n, mul_comm n (suc n))

spans_on : (m d : ℕ) → spans m ≤ spans (m + d)
spans_on m zero = rw add-zero (le_refl (spans m))
spans_on m (suc d) = rw add-suc (omega (arith, spans_on m d))

pub spans-more : (m n : ℕ) → m ≤ n → spans m ≤ spans n
spans-more m n h = let e : m + (n - m) ≡ n = omega arith in subst (λ (k : ℕ). spans m ≤ spans k) e (spans_on m (n - m))

spans-last : (i j : ℕ) → i < j → span_at i j + (j - i) ≡ spans j
spans-last i zero h = absurd (omega arith)
spans-last i (suc j) h = let e : suc j - 1 ≡ j = omega arith in rw e (omega arith)

pub span_below : (n i j : ℕ) → i < j → j ≤ n → span_at i j < spans n
span_below n i j h k = omega (arith, spans-last i j h, spans-more j n k)

-- So spans with different ends have different places.
span-before : (i j i' j' : ℕ) → i < j → i' < j' → j < j' → span_at i j < span_at i' j'
span-before i j i' j' h h' l = omega (arith, spans-last i j h, spans-more j (j' - 1) (omega arith))

apart : (a b : ℕ) → (a ≡ b → ⊥) → (a < b) ⊎ (b < a)
apart a b d = go (ltb a b) refl
  where
    go : (t : Bool) → ltb a b ≡ t → (a < b) ⊎ (b < a)
    go true e = inl (ltb-true a b e)
    go false e = inr (omega (arith, ltb-false a b e))

pub span_same : (n i j i' j' : ℕ) → i < j → j ≤ n → i' < j' → j' ≤ n → span_at i j ≡ span_at i' j' → (i ≡ i') × (j ≡ j')
span_same n i j i' j' h k h' k' e = elim (ℕ_discrete j j') [
  | yes s ↦ (let t : spans (j - 1) ≡ spans (j' - 1) = ap (λ (x : ℕ). spans (x - 1)) s in omega arith, s)
  | no d ↦ absurd (elim (apart j j' d) [
    | inl l ↦ omega (arith, span-before i j i' j' h h' l)
    | inr l ↦ omega (arith, span-before i' j' i j h' h l)
  ])
]

pub cell_below : (n N A i j : ℕ) → A < N → i < j → j ≤ n → cell_at N A i j < spans n * N
cell_below n N A i j a h k = omega (arith, mul-le-mul_right N (span_below n i j h k))

pub cell_same : (n N A i j A' i' j' : ℕ) → A < N → i < j → j ≤ n → A' < N → i' < j' → j' ≤ n
    → cell_at N A i j ≡ cell_at N A' i' j' → (A ≡ A') × (i ≡ i') × (j ≡ j')
cell_same n N A i j A' i' j' a h k a' h' k' e =
    let (s, b) = digits_same N (span_at i j) (span_at i' j') A A' a a' e in
    let (x, y) = span_same n i j i' j' h k h' k' s in (b, x, y)

-- The numbers of feet. That of a foot with an index tells the foot's cell; the bare item's lies past those, in a byte of its own.
pub number-cell : (n N γ B p q : ℕ) → FootFits n N (foot γ B p q) → foot_number n N (foot γ B p q) / 8 ≡ cell_at N B p q
number-cell n N γ B p q (g, u, b, l, k) = omega arith

pub number-within : (n N : ℕ) (φ : Foot) → FootFits n N φ → foot_number n N φ / 8 ≤ spans n * N
number-within n N bare h = omega arith
number-within n N (foot γ B p q) (g, u, b, l, k) = omega (arith, cell_below n N B p q b l k)

-- It fits 16 bits: of 24 words there are 300 spans.
pub number_small : (n N : ℕ) (φ : Foot) → n ≤ 24 → N ≤ 16 → FootFits n N φ → foot_number n N φ < 65536
number_small n N φ h k f = omega (arith, number-within n N φ f, mul-le-mul (spans-more n 24 h) k)

-- A number is one foot's.
pub number_same : (n N : ℕ) (φ ψ : Foot) → FootFits n N φ → FootFits n N ψ → foot_number n N φ ≡ foot_number n N ψ → φ ≡ ψ
number_same n N bare bare h k e = refl
number_same n N bare (foot γ B p q) h (g, u, b, l, m) e = absurd (omega (arith, cell_below n N B p q b l m))
number_same n N (foot γ B p q) bare (g, u, b, l, m) k e = absurd (omega (arith, cell_below n N B p q b l m))
number_same n N (foot γ B p q) (foot γ' B' p' q') (g, u, b, l, m) (g', u', b', l', m') e =
    let c : cell_at N B p q ≡ cell_at N B' p' q' = omega arith in
    let (x, y, z) = cell_same n N B p q B' p' q' b l m b' l' m' c in
    let w : γ ≡ γ' = omega arith in
    cc
