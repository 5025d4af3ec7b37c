-- The tests on items say what they should: two items pass as the same only if each part is, so `among` is membership, and
-- `end_of` and `foot_of` find just the items they are asked for. Each test is taken apart at its `&&`.
use Prim.Native.Nat.{ℕ}
use mathlib.Core.Path.{◌≡◌, refl, sym, ◌∙◌, ap}
use mathlib.Core.Bool.{Bool, true, false, false≢true, and-eq-true_iff}
use mathlib.Core.List.Memᴰ
use mathlib.Core.List.{List, [], ◌∷◌, Memᴰ}
use lib.Dec.{eqb}
use borrow.Author.Tests.{eqb-true}
use Rattle.grammar.specs.Lists.{concat_map}
use Rattle.grammar.specs.Items.{Foot, bare, foot}
use Rattle.grammar.specs.ItemList.{Item, item, is_bare, same_foot, same_item, among, end_of, foot_of}
use Rattle.grammar.proofs.ListLaws.{eqb-self, in-concat_map, concat_map-in, in-only}

-- What a choice by a test is, if each choice is.
pub choice : {A : Type 0} (P : A → Type 0) (b : Bool) (x y : A) → (b ≡ true → P x) → (b ≡ false → P y)
    → P (elim b [ true ↦ x | false ↦ y ])
choice P true x y f g = f refl
choice P false x y f g = g refl

-- A list that is there only if a test passes.
pub in-choice : {A : Type 0} {x : A} (b : Bool) (l : List A) → Memᴰ x (elim b [ true ↦ l | false ↦ [] ])
    → (b ≡ true) × Memᴰ x l
in-choice true l m = (refl, m)
in-choice false l m = absurd (Memᴰ.not-nil m)

pub choice-in : {A : Type 0} {x : A} (b : Bool) (l : List A) → b ≡ true → Memᴰ x l
    → Memᴰ x (elim b [ true ↦ l | false ↦ [] ])
choice-in true l e m = m
choice-in false l e m = absurd (false≢true e)

bare-true : (φ : Foot) → is_bare φ ≡ true → φ ≡ bare
bare-true bare e = refl
bare-true (foot γ B p q) e = absurd (false≢true e)

-- The test on feet is equality.
pub foot-true : (φ ψ : Foot) → same_foot φ ψ ≡ true → φ ≡ ψ
foot-true bare bare e = refl
foot-true bare (foot γ B p q) e = absurd (false≢true e)
foot-true (foot γ B p q) bare e = absurd (false≢true e)
foot-true (foot γ B p q) (foot γ' B' p' q') e =
    let (e₁, f₁) = (and-eq-true_iff (eqb γ γ') _).0 e in
    let (e₂, f₂) = (and-eq-true_iff (eqb B B') _).0 f₁ in
    let (e₃, e₄) = (and-eq-true_iff (eqb p p') _).0 f₂ in
    cc (eqb-true γ γ' e₁, eqb-true B B' e₂, eqb-true p p' e₃, eqb-true q q' e₄)

pub foot-self : (φ : Foot) → same_foot φ φ ≡ true
foot-self bare = refl
foot-self (foot γ B p q) = simp eqb-self

item-true : (x y : Item) → same_item x y ≡ true → x ≡ y
item-true (item A i j φ) (item A' i' j' φ') e =
    let (e₁, f₁) = (and-eq-true_iff (eqb A A') _).0 e in
    let (e₂, f₂) = (and-eq-true_iff (eqb i i') _).0 f₁ in
    let (e₃, e₄) = (and-eq-true_iff (eqb j j') _).0 f₂ in
    cc (eqb-true A A' e₁, eqb-true i i' e₂, eqb-true j j' e₃, foot-true φ φ' e₄)

item-self : (x : Item) → same_item x x ≡ true
item-self (item A i j φ) = simp (eqb-self, foot-self φ)

-- `among` is membership.
pub among-true : (x : Item) (l : List Item) → among x l ≡ true → Memᴰ x l
among-true x [] e = absurd (false≢true e)
among-true x (y ∷ l) e =
    choice (λ b. b ≡ true → Memᴰ x (y ∷ l)) (same_item x y) true (among x l) (λ s _. Memᴰ.head (item-true x y s))
    (λ _ e'. Memᴰ.tail (among-true x l e')) e

pub among-mem : {x : Item} {l : List Item} → Memᴰ x l → among x l ≡ true
among-mem {x} (Memᴰ.head {x = y} {xs = l} e) =
    let same : same_item x y ≡ true = ap (same_item x) (sym e) ∙ item-self x in
    choice (λ b. b ≡ true) (same_item x y) true (among x l) (λ _. refl) (λ s. absurd (false≢true (sym s ∙ same)))
among-mem {x} (Memᴰ.tail {x = y} {xs = l} m) =
    choice (λ b. b ≡ true) (same_item x y) true (among x l) (λ _. refl) (λ _. among-mem m)

-- Where an item of B with no foot that starts at i ends.
end_of-true : {k : ℕ} (B i : ℕ) (y : Item) → Memᴰ k (end_of B i y) → item B i k bare ≡ y
end_of-true B i (item A i' j φ) m =
    let (e, f) = in-only _ m in
    let (e₁, f₁) = (and-eq-true_iff (eqb A B) _).0 e in
    let (e₂, e₃) = (and-eq-true_iff (eqb i' i) _).0 f₁ in
    cc (eqb-true A B e₁, eqb-true i' i e₂, bare-true φ e₃)

pub in-end_of : {k : ℕ} (l : List Item) (B i : ℕ) → Memᴰ k (concat_map (end_of B i) l) → Memᴰ (item B i k bare) l
in-end_of l B i m = let (y, p, q) = in-concat_map (end_of B i) l m in Memᴰ.cast (end_of-true B i y q) p

pub end_of-in : {B i k : ℕ} {l : List Item} → Memᴰ (item B i k bare) l → Memᴰ k (concat_map (end_of B i) l)
end_of-in {B} {i} {k} m = concat_map-in (end_of B i) m (simp eqb-self (Memᴰ.head refl))

-- The feet of the items of B over p to q.
foot_of-true : {φ : Foot} (B p q : ℕ) (y : Item) → Memᴰ φ (foot_of B p q y) → item B p q φ ≡ y
foot_of-true B p q (item A i j ψ) m =
    let (e, f) = in-only _ m in
    let (e₁, f₁) = (and-eq-true_iff (eqb A B) _).0 e in
    let (e₂, e₃) = (and-eq-true_iff (eqb i p) _).0 f₁ in
    cc (eqb-true A B e₁, eqb-true i p e₂, eqb-true j q e₃)

pub in-foot_of : {φ : Foot} (l : List Item) (B p q : ℕ) → Memᴰ φ (concat_map (foot_of B p q) l) → Memᴰ (item B p q φ) l
in-foot_of l B p q m = let (y, r, s) = in-concat_map (foot_of B p q) l m in Memᴰ.cast (foot_of-true B p q y s) r

pub foot_of-in : {B p q : ℕ} {φ : Foot} {l : List Item} → Memᴰ (item B p q φ) l → Memᴰ φ (concat_map (foot_of B p q) l)
foot_of-in {B} {p} {q} {φ} m = concat_map-in (foot_of B p q) m (simp eqb-self (Memᴰ.head refl))
