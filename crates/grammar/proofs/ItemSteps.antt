-- One round as a relation: `Follows` says by which rule an item follows from the items of a list, and `consequences` is the
-- list of all that follow at starts below n. Both ways layer by layer, as `consequences` is made.
use Prim.Native.Nat.{ℕ, suc, ◌<◌}
use mathlib.Core.Path.{◌≡◌, refl, sym, subst}
use mathlib.Core.Bool.{Bool, true, ◌&&◌, and-eq-true_iff}
use mathlib.Core.List.Memᴰ
use mathlib.Core.List.{List, map, Memᴰ}
use lib.Dec.{eqb}
use borrow.Author.Tests.{eqb-true}
use Rattle.grammar.specs.Lists.{concat_map, up_to}
use Rattle.grammar.specs.Rewriting.{Rule, Lexical, Spine, Action, Take, Keep, Give}
use Rattle.grammar.specs.Items.{Foot, bare, foot}
use Rattle.grammar.specs.ItemList.{Item, item, ends, give_feet, result_feet, with_dependent, by_rule, consequences}
use Rattle.grammar.proofs.ListLaws.{eqb-self, in-concat_map, concat_map-in, in-only, only-in, up_to-in, in_map, map-in}
use Rattle.grammar.proofs.ItemTests.{in-choice, choice-in, in-foot_of, foot_of-in}

-- `Makes l a D k m ψ φ`: from a dependent D over k to m with foot ψ the action makes the foot φ.
pub data Makes (l : List Item) : Action → ℕ → ℕ → ℕ → Foot → Foot → Type 0 where
  taken : {γ D k m : ℕ} {ψ : Foot} → Makes l (Take γ) D k m ψ (foot γ D k m)
  kept : {D k m : ℕ} {ψ : Foot} → Makes l Keep D k m ψ ψ
  given : {γ D k m B p q : ℕ} {φ : Foot} → Memᴰ (item B p q φ) l → Makes l (Give γ) D k m (foot γ B p q) φ

in-give_feet : {φ : Foot} (l : List Item) (γ D k m : ℕ) (ψ : Foot) → Memᴰ φ (give_feet l γ ψ) → Makes l (Give γ) D k m ψ φ
in-give_feet l γ D k m bare h = absurd (Memᴰ.not-nil h)
in-give_feet {φ} l γ D k m (foot γ' B p q) h =
    let (e, f) = in-choice (eqb γ γ') _ h in
    subst (λ x. Makes l (Give γ) D k m (foot x B p q) φ) (eqb-true γ γ' e) (given (in-foot_of l B p q f))

in-result_feet : {φ : Foot} (l : List Item) (a : Action) (D k m : ℕ) (ψ : Foot) → Memᴰ φ (result_feet l a D k m ψ)
    → Makes l a D k m ψ φ
in-result_feet l (Take γ) D k m ψ h = subst (Makes l (Take γ) D k m ψ) (sym (Memᴰ.eq_of_singleton h)) taken
in-result_feet l Keep D k m ψ h = subst (Makes l Keep D k m ψ) (sym (Memᴰ.eq_of_singleton h)) kept
in-result_feet l (Give γ) D k m ψ h = in-give_feet l γ D k m ψ h

result_feet-in : {l : List Item} {a : Action} {D k m : ℕ} {ψ φ : Foot} → Makes l a D k m ψ φ
    → Memᴰ φ (result_feet l a D k m ψ)
result_feet-in taken = Memᴰ.head refl
result_feet-in kept = Memᴰ.head refl
result_feet-in (given {γ} m) = choice-in (eqb γ γ) _ (eqb-self γ) (foot_of-in m)

-- `Follows g at l i x`: the item x, which starts at i, follows from items of l by a rule of g.
pub data Follows (g : List Rule) (at : ℕ → ℕ → Bool) (l : List Item) (i : ℕ) : Item → Type 0 where
  by_word : {A w : ℕ} → Memᴰ (Lexical A w) g → at i w ≡ true → Follows g at l i (item A i (suc i) bare)
  by_spine : {A D k m j : ℕ} {a : Action} {before after : List ℕ} {ψ φ : Foot} → Memᴰ (Spine A a before D after) g
      → Memᴰ k (ends l before i) → Memᴰ (item D k m ψ) l → Memᴰ j (ends l after m) → Makes l a D k m ψ φ
      → Follows g at l i (item A i j φ)

module _ (g : List Rule) (at : ℕ → ℕ → Bool) (l : List Item) (i : ℕ) where
  in-with_dependent : {x : Item} {A D k : ℕ} {a : Action} {before after : List ℕ} (y : Item)
      → Memᴰ (Spine A a before D after) g → Memᴰ k (ends l before i) → Memᴰ y l
      → Memᴰ x (with_dependent l A a D after i k y) → Follows g at l i x
  in-with_dependent {x} {A} {D} {k} {a} {before} {after} (item D' k' m ψ) r b d h =
      let (e, f) = in-choice (eqb D' D && eqb k' k) _ h in
      let (e₁, e₂) = (and-eq-true_iff (eqb D' D) _).0 e in
      let (j, p, q) = in-concat_map (λ j. map (item A i j) (result_feet l a D k m ψ)) (ends l after m) f in
      let (φ, s, t) = in_map (item A i j) (result_feet l a D k m ψ) q in
      let same : item D k m ψ ≡ item D' k' m ψ = cc (eqb-true D' D e₁, eqb-true k' k e₂) in
      subst (Follows g at l i) (sym t) (by_spine r b (Memᴰ.cast same d) p (in-result_feet l a D k m ψ s))

  in-by_rule : {x : Item} (r : Rule) → Memᴰ r g → Memᴰ x (by_rule at l i r) → Follows g at l i x
  in-by_rule (Lexical A w) r h = let (e, f) = in-only (at i w) h in subst (Follows g at l i) (sym f) (by_word r e)
  in-by_rule (Spine A a before D after) r h =
      let (k, b, p) = in-concat_map (λ k. concat_map (with_dependent l A a D after i k) l) (ends l before i) h in
      let (y, d, q) = in-concat_map (with_dependent l A a D after i k) l p in
      in-with_dependent y r b d q

  with_dependent-in : {D k m j : ℕ} {a : Action} {ψ φ : Foot} (A : ℕ) (after : List ℕ) → Memᴰ j (ends l after m)
      → Makes l a D k m ψ φ → Memᴰ (item A i j φ) (with_dependent l A a D after i k (item D k m ψ))
  with_dependent-in {D} {k} {m} {j} {a} {ψ} A after p s =
      choice-in (eqb D D && eqb k k) _ (simp eqb-self)
      (concat_map-in (λ j. map (item A i j) (result_feet l a D k m ψ)) p (map-in (item A i j) (result_feet-in s)))

  by_rule-in : {x : Item} → Follows g at l i x → Memᴰ x (concat_map (by_rule at l i) g)
  by_rule-in (by_word {A} {w} r e) = concat_map-in (by_rule at l i) r (only-in (at i w) _ e)
  by_rule-in (by_spine {A} {D} {k} {a = a} {after = after} r b d p s) =
      concat_map-in (by_rule at l i) r
      (concat_map-in (λ k. concat_map (with_dependent l A a D after i k) l) b
      (concat_map-in (with_dependent l A a D after i k) d (with_dependent-in A after p s)))

pub in-consequences : {x : Item} (g : List Rule) (at : ℕ → ℕ → Bool) (n : ℕ) (l : List Item)
    → Memᴰ x (consequences g at n l) → (i : ℕ) × Follows g at l i x
in-consequences g at n l h =
    let (i, p, q) = in-concat_map (λ i. concat_map (by_rule at l i) g) (up_to n) h in
    let (r, s, t) = in-concat_map (by_rule at l i) g q in
    (i, in-by_rule g at l i r s t)

pub consequences-in : {x : Item} {g : List Rule} {at : ℕ → ℕ → Bool} {l : List Item} {i : ℕ} (n : ℕ) → i < n
    → Follows g at l i x → Memᴰ x (consequences g at n l)
consequences-in {g = g} {at = at} {l = l} {i = i} n h f =
    concat_map-in (λ i. concat_map (by_rule at l i) g) (up_to-in n h) (by_rule-in g at l i f)
