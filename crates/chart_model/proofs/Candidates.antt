-- A candidate is a step, since what it names stands in the chart at the positions that the model looks up; and each step to an item of the
-- cell has a candidate of its item and key. So the candidates leave out no derived item, if the chart has those of fewer words within.
use Prim.Native.Nat.{ℕ, zero, suc, ◌+◌, ◌-◌, ◌≤◌, ◌<◌}
use native.Mathlib.Omega.{arith}
use mathlib.Core.Path.{◌≡◌, refl, sym, ◌∙◌, ap, subst}
use mathlib.Core.Bool.{Bool, true, ◌&&◌, false≢true, and-eq-true_iff}
use mathlib.Core.List.Memᴰ
use mathlib.Core.List.{List, [], ◌∷◌, Memᴰ}
use mathlib.Core.Option.{some}
use lib.Dec.{eqb}
use lib.ListN.{length, get_elem?}
use borrow.Author.Tests.{eqb-true}
use Rattle.grammar.specs.Lists.{Stands, NotAfter}
use Rattle.grammar.specs.Rewriting.{Rule, Lexical, Spine, Action, Take, Keep, Give, OneSide, is_first, is_last, OneSided}
use Rattle.grammar.specs.Input.{Holds, Below}
use Rattle.grammar.specs.Items.{Foot, bare, foot, Derived, word_step, take_step, keep_step, give_step, Sides, no_side, next_side}
use Rattle.grammar.specs.ItemList.{Item, item, is_bare}
use Rattle.grammar.specs.Chart.{Record, recorded, item_of, nowhere, Earlier, earlier, Results, taken, kept, given, Justified}
use Rattle.grammar.specs.Ways.{compared, Moves, side_first, side_last}
use Rattle.grammar.specs.Ways
use Rattle.grammar.proofs.ListLaws.{eqb-self, in-concat_map, concat_map-in, in-only, in_map, map-in, in-stands}
use Rattle.grammar.proofs.StandsLaws.{stands-get_elem, get_elem-stands, stands-length}
use Rattle.grammar.proofs.Bounds.{derived-bounds}
use Rattle.grammar.proofs.Unfolding.{derived-longer}
use Rattle.grammar.proofs.ItemTests.{in-choice, choice-in}
use Rattle.grammar.proofs.WaysPlans.{justified-of-moves}
use Rattle.chart_model.specs.Build.{is_of, is_bare_of, places, bare_places, foot_in, foot_at, taken_from, kept_from, continued, given_foot, given_from, by_action, by_rule, rule_at, by_word, by_rule_over, by_production, candidates}
use Rattle.chart_model.proofs.BuildLaws.{Has, in-flat_up, flat_up-in, in-places_all, places_all-in, in-option, option-in}
use Rattle.chart_model.proofs.Keys.{positions, key_of, InOrder}

-- A record before the end.
stands-earlier : {c : List Record} {x : ℕ} (e : Record) → Stands c x e → Earlier c (length c) x (item_of e)
stands-earlier (recorded it p y z u) s = earlier (stands-length s) s

has-earlier : {c : List Record} {it : Item} → Has c it → (x : ℕ) × Earlier c (length c) x it
has-earlier {c} h =
    let (e, m, q) = in_map item_of c h in
    let (x, s) = in-stands m in
    (x, subst (Earlier c (length c) x) (sym q) (stands-earlier e s))

-- The tests for a cell's records.
is_of-item : (A i j : ℕ) (e : Record) → is_of A i j e ≡ true → item_of e ≡ item A i j (foot_in (some e))
is_of-item A i j (recorded (item A' i' j' φ) p x y z) t =
    let (e₁, f₁) = (and-eq-true_iff (eqb A' A) _).0 t in
    let (e₂, e₃) = (and-eq-true_iff (eqb i' i) _).0 f₁ in
    cc (eqb-true A' A e₁, eqb-true i' i e₂, eqb-true j' j e₃)

bare-item : (φ : Foot) → is_bare φ ≡ true → φ ≡ bare
bare-item bare t = refl
bare-item (foot γ B p q) t = absurd (false≢true t)

is_bare_of-item : (A i j : ℕ) (e : Record) → is_bare_of A i j e ≡ true → item_of e ≡ item A i j bare
is_bare_of-item A i j (recorded (item A' i' j' φ) p x y z) t =
    let (u, v) = (and-eq-true_iff (eqb A' A && (eqb i' i && eqb j' j)) _).0 t in
    is_of-item A i j (recorded (item A' i' j' φ) p x y z) u ∙ ap (item A i j) (bare-item φ v)

-- The positions of a cell's records, both ways.
module _ (c : List Record) (A i j : ℕ) where
  pub in-places : {x : ℕ} → Memᴰ x (places c A i j) → Earlier c (length c) x (item A i j (foot_at c x))
  in-places {x} m =
      let (e, s, t) = in-places_all (is_of A i j) c m in
      rw (stands-get_elem s) (subst (Earlier c (length c) x) (is_of-item A i j e t) (stands-earlier e s))

  pub in-bare_places : {x : ℕ} → Memᴰ x (bare_places c A i j) → Earlier c (length c) x (item A i j bare)
  in-bare_places {x} m =
      let (e, s, t) = in-places_all (is_bare_of A i j) c m in
      subst (Earlier c (length c) x) (is_bare_of-item A i j e t) (stands-earlier e s)

  earlier-places : {m x : ℕ} {φ : Foot} → Earlier c m x (item A i j φ) → Memᴰ x (places c A i j) × (foot_at c x ≡ φ)
  earlier-places (earlier l s) = (places_all-in (is_of A i j) s (simp eqb-self), ap foot_in (stands-get_elem s))

  earlier-bare_places : {m x : ℕ} → Earlier c m x (item A i j bare) → Memᴰ x (bare_places c A i j)
  earlier-bare_places (earlier l s) = places_all-in (is_bare_of A i j) s (simp eqb-self)

  pub places-in : {φ : Foot} → Has c (item A i j φ) → (x : ℕ) × Memᴰ x (places c A i j) × (foot_at c x ≡ φ)
  places-in h = let (x, e) = has-earlier h in let (m, f) = earlier-places e in (x, m, f)

-- What an action's records are.
pub data Acted (c : List Record) (a : Action) (D k m A i j p x : ℕ) : Record → Type 0 where
  acted : {y z : ℕ} {ψ φ : Foot} → Earlier c (length c) y (item D k m ψ) → Results c (length c) a D k m ψ z φ
      → Acted c a D k m A i j p x (recorded (item A i j φ) p x y z)

module _ (c : List Record) (D k m A i j p x : ℕ) where
  in_taken : {e : Record} (γ : ℕ) (ys : List ℕ) → ((y : ℕ) → Memᴰ y ys → Memᴰ y (places c D k m))
      → Memᴰ e (taken_from A i j p x (foot γ D k m) ys) → Acted c (Take γ) D k m A i j p x e
  in_taken γ [] f h = absurd (Memᴰ.not-nil h)
  in_taken γ (y ∷ ys) f h =
      subst (Acted c (Take γ) D k m A i j p x) (sym (Memᴰ.eq_of_singleton h))
      (acted (in-places c D k m (f y (Memᴰ.head refl))) taken)

  in-given : {e : Record} {y : ℕ} (γ : ℕ) (ψ : Foot) → Earlier c (length c) y (item D k m ψ)
      → Memᴰ e (given_foot c A i j p x y γ ψ) → Acted c (Give γ) D k m A i j p x e
  in-given γ bare s h = absurd (Memᴰ.not-nil h)
  in-given {e} {y} γ (foot γ' B q r) s h =
      let (t, u) = in-choice (eqb γ' γ) _ h in
      let (z, v, w) = in-concat_map (continued c A i j p x y) (places c B q r) u in
      let s' = subst (λ (i : ℕ). Earlier c (length c) y (item D k m (foot i B q r))) (eqb-true γ' γ t) s in
      subst (Acted c (Give γ) D k m A i j p x) (sym (Memᴰ.eq_of_singleton w)) (acted s' (given (in-places c B q r v)))

  pub in-by_action : {e : Record} (a : Action) → Memᴰ e (by_action c a D k m A i j p x) → Acted c a D k m A i j p x e
  in-by_action (Take γ) h = in_taken γ (places c D k m) (λ y n. n) h
  in-by_action Keep h =
      let (y, n, f) = in-concat_map (kept_from c A i j p x) (places c D k m) h in
      subst (Acted c Keep D k m A i j p x) (sym (Memᴰ.eq_of_singleton f)) (acted (in-places c D k m n) kept)
  in-by_action (Give γ) h =
      let (y, n, f) = in-concat_map (given_from c A i j p x γ) (places c D k m) h in
      in-given γ (foot_at c y) (in-places c D k m n) f

  -- Each result is among them, of a take with the first dependent.
  taken_in : {y : ℕ} {ys : List ℕ} (φ : Foot) → Memᴰ y ys
      → (y' : ℕ) × Memᴰ (recorded (item A i j φ) p x y' nowhere) (taken_from A i j p x φ ys)
  taken_in φ (Memᴰ.head {x = y} e) = (y, Memᴰ.head refl)
  taken_in φ (Memᴰ.tail {x = y} n) = (y, Memᴰ.head refl)

  given-in : {z B q r : ℕ} {φ : Foot} (y γ : ℕ) → Earlier c (length c) z (item B q r φ)
      → Memᴰ (recorded (item A i j φ) p x y z) (given_foot c A i j p x y γ (foot γ B q r))
  given-in {B = B} {q} {r} y γ e =
      let (n, f) = earlier-places c B q r e in
      choice-in (eqb γ γ) _ (eqb-self γ) (concat_map-in (continued c A i j p x y) n (rw f (Memᴰ.head refl)))

  by_action-in : {y z : ℕ} {a : Action} {ψ φ : Foot} → Earlier c (length c) y (item D k m ψ) → Results c (length c) a D k m ψ z φ
      → (y' : ℕ) × Memᴰ (recorded (item A i j φ) p x y' z) (by_action c a D k m A i j p x) × (compared a x y' z ≡ compared a x y z)
  by_action-in d taken =
      let (n, f) = earlier-places c D k m d in
      let (y', q) = taken_in _ n in
      (y', q, refl)
  by_action-in {y} d kept =
      let (n, f) = earlier-places c D k m d in
      (y, concat_map-in (kept_from c A i j p x) n (rw f (Memᴰ.head refl)), refl)
  by_action-in {y} d (given {γ} e) =
      let (n, f) = earlier-places c D k m d in
      (y, concat_map-in (given_from c A i j p x γ) n (rw f (given-in y γ e)), refl)

-- A candidate is a step; one at the split k by production p has a key that begins so.
module _ (g : List Rule) (at : ℕ → ℕ → Bool) (c : List Record) (A i : ℕ) where
  pub in-by_rule : {e : Record} (k j p : ℕ) (r : Rule) → Stands g p r → Memᴰ e (by_rule c A i k j p r)
      → Moves g (Holds at) c (length c) e (p ∷ k ∷ positions r e)
  in-by_rule k j p (Lexical A' w) s h = absurd (Memᴰ.not-nil h)
  in-by_rule k j p (Spine A' a (B ∷ []) D []) s h =
      let (t, m) = in-choice (eqb A' A) _ h in
      let (x, n, f) = in-concat_map (by_action c a D k j A i j p) (bare_places c B i k) m in
      let s' = subst (λ (X : ℕ). Stands g p (Spine X a (B ∷ []) D [])) (eqb-true A' A t) s in
      first s' (in-bare_places c B i k n) (in-by_action c D k j A i j p x a f)
    where
      first : {e : Record} {x : ℕ} → Stands g p (Spine A a (B ∷ []) D []) → Earlier c (length c) x (item B i k bare)
          → Acted c a D k j A i j p x e → Moves g (Holds at) c (length c) e (p ∷ k ∷ positions (Spine A' a (B ∷ []) D []) e)
      first s x (acted y z) = side_first s x y z
  in-by_rule k j p (Spine A' a (B ∷ []) D (C ∷ after)) s h = absurd (Memᴰ.not-nil h)
  in-by_rule k j p (Spine A' a (B ∷ C ∷ before) D after) s h = absurd (Memᴰ.not-nil h)
  in-by_rule k j p (Spine A' a [] D []) s h = absurd (Memᴰ.not-nil h)
  in-by_rule k j p (Spine A' a [] D (B ∷ [])) s h =
      let (t, m) = in-choice (eqb A' A) _ h in
      let (x, n, f) = in-concat_map (by_action c a D i k A i j p) (bare_places c B k j) m in
      let s' = subst (λ (X : ℕ). Stands g p (Spine X a [] D (B ∷ []))) (eqb-true A' A t) s in
      last s' (in-bare_places c B k j n) (in-by_action c D i k A i j p x a f)
    where
      last : {e : Record} {x : ℕ} → Stands g p (Spine A a [] D (B ∷ [])) → Earlier c (length c) x (item B k j bare)
          → Acted c a D i k A i j p x e → Moves g (Holds at) c (length c) e (p ∷ k ∷ positions (Spine A' a [] D (B ∷ [])) e)
      last s x (acted y z) = side_last s y x z
  in-by_rule k j p (Spine A' a [] D (B ∷ C ∷ after)) s h = absurd (Memᴰ.not-nil h)

  in-by_word : {e : Record} (p : ℕ) (r : Rule) → Stands g p r → Memᴰ e (by_word at A i p r)
      → Moves g (Holds at) c (length c) e (p ∷ suc i ∷ [])
  in-by_word p (Lexical A' w) s h =
      let (t, f) = in-only (eqb A' A && at i w) h in
      let (t₁, t₂) = (and-eq-true_iff (eqb A' A) _).0 t in
      let s' = subst (λ (X : ℕ). Stands g p (Lexical X w)) (eqb-true A' A t₁) s in
      subst (λ (e : Record). Moves g (Holds at) c (length c) e (p ∷ suc i ∷ [])) (sym f) (Ways.by_word s' t₂)
  in-by_word p (Spine A' a before D after) s h = absurd (Memᴰ.not-nil h)

  in-by_rule_over : {e : Record} (len p : ℕ) (r : Rule) → Stands g p r → Memᴰ e (by_rule_over at c A i len p r)
      → (rest : List ℕ) × Moves g (Holds at) c (length c) e (p ∷ rest)
  in-by_rule_over zero p r s h = absurd (Memᴰ.not-nil h)
  in-by_rule_over (suc zero) p r s h = (suc i ∷ [], in-by_word p r s h)
  in-by_rule_over {e} (suc (suc len)) p r s h =
      let j = i + suc (suc len) in
      let (k, a, b, m) = in-flat_up (rule_at c A i j p r) (suc i) (j - suc i) h in
      (k ∷ positions r e, in-by_rule k j p r s m)

  pub in-by_production : {e : Record} (len p : ℕ) → Memᴰ e (by_production g at c A i len p)
      → (rest : List ℕ) × Moves g (Holds at) c (length c) e (p ∷ rest)
  in-by_production len p h =
      let (r, f, n) = in-option (by_rule_over at c A i len p) (get_elem? g p) h in
      in-by_rule_over len p r (get_elem-stands g p f) n

  pub in-candidates : {e : Record} (len : ℕ) → Memᴰ e (candidates g at c A i len) → Justified g (Holds at) c (length c) e
  in-candidates len h =
      let (p, a, b, m) = in-flat_up (by_production g at c A i len) 0 (length g) h in
      let (rest, f) = in-by_production len p m in
      justified-of-moves f

-- `Offers g c rs f`: one of the records rs has the item and the key of f.
pub data Offers (g : List Rule) (c rs : List Record) (f : Record) : Type 0 where
  offers : {f' : Record} → Memᴰ f' rs → item_of f' ≡ item_of f → key_of g c f' ≡ key_of g c f → Offers g c rs f

-- So one has its item, and what comes before each of these comes before f.
offers-has : {g : List Rule} {c rs : List Record} {f : Record} → Offers g c rs f → Has rs (item_of f)
offers-has (offers m e k) = Memᴰ.cast (sym e) (map-in item_of m)

pub offers-order : {g : List Rule} {c rs : List Record} {f : Record} (e : Record) → Offers g c rs f
    → ((f' : Record) → Memᴰ f' rs → item_of f' ≡ item_of f → InOrder g c e f') → InOrder g c e f
offers-order {g} {c} e (offers {f'} m q k) h = subst (NotAfter ◌<◌ (key_of g c e)) k (h f' m q)

-- Each step to an item of the cell is offered by the candidates.
module _ (g : List Rule) (at : ℕ → ℕ → Bool) (c : List Record) where
  production-in : {p : ℕ} {r : Rule} {e : Record} (A i len : ℕ) → Stands g p r → Memᴰ e (by_rule_over at c A i len p r)
      → Memᴰ e (candidates g at c A i len)
  production-in {p} {r} A i len s h =
      flat_up-in (by_production g at c A i len) 0 (length g) p (omega arith) (omega (arith, stands-length s))
      (option-in (by_rule_over at c A i len p) (get_elem? g p) (stands-get_elem s) h)

  pub word_in : {p A w i : ℕ} (len : ℕ) → suc i ≡ i + len → Stands g p (Lexical A w) → at i w ≡ true
      → Offers g c (candidates g at c A i len) (recorded (item A i (suc i) bare) p nowhere nowhere nowhere)
  word_in zero e s t = absurd (omega arith)
  word_in {p} {A} {w} {i} (suc zero) e s t =
      offers {f' = recorded (item A i (suc i) bare) p nowhere nowhere nowhere}
      (production-in A i 1 s (rw (eqb-self A, t) (Memᴰ.head refl))) refl refl
  word_in (suc (suc len)) e s t = absurd (omega arith)

  rule-in : {p k j : ℕ} {r : Rule} {e : Record} (A i len : ℕ) → j ≡ i + len → Stands g p r → i < k → k < j
      → Memᴰ e (by_rule c A i k j p r) → Memᴰ e (candidates g at c A i len)
  rule-in A i zero e s a b h = absurd (omega arith)
  rule-in A i (suc zero) e s a b h = absurd (omega arith)
  rule-in {p} {k} {j} {r} {e = o} A i (suc (suc len)) e s a b h =
      let j' = i + suc (suc len) in
      production-in A i (suc (suc len)) s
      (flat_up-in (rule_at c A i j' p r) (suc i) (j' - suc i) k a (omega arith)
      (subst (λ (j'' : ℕ). Memᴰ o (by_rule c A i k j'' p r)) e h))

  pub first-in : {p A B D i k j x y z : ℕ} {a : Action} {ψ φ : Foot} (len : ℕ) → j ≡ i + len → i < k → k < j
      → Stands g p (Spine A a (B ∷ []) D []) → Earlier c (length c) x (item B i k bare) → Earlier c (length c) y (item D k j ψ)
      → Results c (length c) a D k j ψ z φ → Offers g c (candidates g at c A i len) (recorded (item A i j φ) p x y z)
  first-in {p} {A} {B} {D} {i} {k} {j} {x} {a = a} len e u v s b d w =
      let (y', m, q) = by_action-in c D k j A i j p x d w in
      offers (rule-in A i len e s u v
      (choice-in (eqb A A) _ (eqb-self A) (concat_map-in (by_action c a D k j A i j p) (earlier-bare_places c B i k b) m)))
      refl (rw (stands-get_elem s, q))

  pub last-in : {p A B D i k j x y z : ℕ} {a : Action} {ψ φ : Foot} (len : ℕ) → j ≡ i + len → i < k → k < j
      → Stands g p (Spine A a [] D (B ∷ [])) → Earlier c (length c) y (item D i k ψ) → Earlier c (length c) x (item B k j bare)
      → Results c (length c) a D i k ψ z φ → Offers g c (candidates g at c A i len) (recorded (item A i j φ) p x y z)
  last-in {p} {A} {B} {D} {i} {k} {j} {x} {a = a} len e u v s d b w =
      let (y', m, q) = by_action-in c D i k A i j p x d w in
      offers (rule-in A i len e s u v
      (choice-in (eqb A A) _ (eqb-self A) (concat_map-in (by_action c a D i k A i j p) (earlier-bare_places c B k j b) m)))
      refl (rw (stands-get_elem s, q))

-- The span k to m lies within i to j, and is shorter. A rule's dependent is so within its result.
abbrev pub Inside : ℕ → ℕ → ℕ → ℕ → Type 0
Inside i j k m = (i ≤ k) × (m ≤ j) × (i + m < k + j)

dependent-inside : {g : List Rule} {at : ℕ → ℕ → Type 0} {A D i k m j : ℕ} {a : Action} {before after : List ℕ}
    → OneSide (Spine A a before D after) → Sides g at before i k → Sides g at after m j → Inside i j k m
dependent-inside is_first (next_side b no_side) no_side = let h = derived-longer b in (omega arith, omega arith, omega arith)
dependent-inside is_last no_side (next_side b no_side) = let h = derived-longer b in (omega arith, omega arith, omega arith)

-- The candidates of a cell of `len` words have its derived items, if the chart has those of fewer words within its span.
module _ (n : ℕ) (g : List Rule) (at : ℕ → ℕ → Bool) (one : OneSided g) (below : Below (Holds at) n) (c : List Record) (len : ℕ) where
  abbrev Short : ℕ → ℕ → Type 0
  Short i j = (B k m : ℕ) (φ : Foot) → Derived g (Holds at) B k m φ → Inside i j k m → Has c (item B k m φ)

  spine-in : {p A D i k m j z : ℕ} {a : Action} {before after : List ℕ} {ψ φ : Foot} → Short i j → OneSide (Spine A a before D after)
      → j ≡ i + len → Stands g p (Spine A a before D after) → Sides g (Holds at) before i k → Derived g (Holds at) D k m ψ
      → Sides g (Holds at) after m j → Results c (length c) a D k m ψ z φ → Has (candidates g at c A i len) (item A i j φ)
  spine-in short is_first e s (next_side b no_side) d no_side w =
      let u = derived-longer b in let v = derived-longer d in
      let b' = short _ _ _ _ b (omega arith) in let d' = short _ _ _ _ d (omega arith) in
      let (x, x') = has-earlier b' in let (y, y') = has-earlier d' in
      offers-has (first-in g at c len e u v s x' y' w)
  spine-in short is_last e s no_side d (next_side b no_side) w =
      let u = derived-longer b in let v = derived-longer d in
      let b' = short _ _ _ _ b (omega arith) in let d' = short _ _ _ _ d (omega arith) in
      let (x, x') = has-earlier b' in let (y, y') = has-earlier d' in
      offers-has (last-in g at c len e v u s y' x' w)

  pub candidates-in : {A i j : ℕ} {φ : Foot} → Short i j → j ≡ i + len → Derived g (Holds at) A i j φ
      → Has (candidates g at c A i len) (item A i j φ)
  candidates-in short e (word_step s t) = offers-has (word_in g at c len e s t)
  candidates-in short e (take_step s b d a) = spine-in short (one _ _ s) e s b d a taken
  candidates-in short e (keep_step s b d a) = spine-in short (one _ _ s) e s b d a kept
  candidates-in short e (give_step s b d a f) =
      let u = dependent-inside (one _ _ s) b a in
      let v = derived-bounds n below d in
      let (z, h) = has-earlier (short _ _ _ _ f (omega arith)) in
      spine-in short (one _ _ s) e s b d a (given h)
