-- A cell's candidates come in rising keys: each loop of the model makes its parts one after the other by one more number of the key, and
-- the numbers before it are the same in all parts. So each loop adds one place to the key, from the continuations out to the productions.
use Prim.Native.Nat.{ℕ, zero, suc, ◌+◌, ◌-◌, ◌<◌}
use native.Mathlib.Omega.{arith}
use mathlib.Core.Path.{◌≡◌, refl, ap, subst₂}
use mathlib.Core.Logic.{inl, inr}
use mathlib.Core.Bool.{Bool, true, false, ◌&&◌}
use mathlib.Core.List.Memᴰ
use mathlib.Core.List.{List, [], ◌∷◌, ◌++◌, Memᴰ}
use mathlib.Core.Option.{Option, none, some}
use lib.Dec.{eqb}
use lib.ListN.{length, get_elem?}
use Rattle.grammar.specs.Lists.{Stands, concat_map, only, NotAfter, sooner, agreed}
use Rattle.grammar.specs.Rewriting.{Rule, Lexical, Spine, Action, Take, Keep, Give}
use Rattle.grammar.specs.Items.{Foot, bare, foot}
use Rattle.grammar.specs.Chart.{Record}
use Rattle.grammar.specs.Ways.{compared}
use Rattle.grammar.proofs.ListLaws.{in-concat_map, in-only}
use Rattle.grammar.proofs.StandsLaws.{get_elem-stands}
use Rattle.grammar.proofs.ItemTests.{choice, in-choice}
use Rattle.chart_model.specs.Build.{flat_up, places_from, places, foot_at, taken_from, kept_from, continued, given_foot, given_from, by_action, by_rule, rule_at, by_word, by_rule_over, by_production, candidates}
use Rattle.chart_model.proofs.BuildLaws.{in-flat_up, in-places_from}
use Rattle.chart_model.proofs.Keys.{compared_in, positions, InOrder, moves-key}
use Rattle.chart_model.proofs.Candidates.{Acted, acted, in-by_action, in-by_rule, in-by_production}

-- Each element is related to all later ones.
pub data Rising {A : Type 0} (R : A → A → Type 0) : List A → Type 0 where
  nothing : Rising R []
  next : {x : A} {l : List A} → ((y : A) → Memᴰ y l → R x y) → Rising R l → Rising R (x ∷ l)

module _ {A : Type 0} {R : A → A → Type 0} where
  rising-one : (x : A) → Rising R (x ∷ [])
  rising-one x = next (λ y m. absurd (Memᴰ.not-nil m)) nothing

  rising-only : (b : Bool) (x : A) → Rising R (only b x)
  rising-only true x = rising-one x
  rising-only false x = nothing

  rising-option : {B : Type 0} (f : B → List A) (o : Option B) → ((b : B) → o ≡ some b → Rising R (f b))
      → Rising R (elim o [ none ↦ [] | some b ↦ f b ])
  rising-option f none h = nothing
  rising-option f (some b) h = h b refl

  rising-append : {l l' : List A} → Rising R l → Rising R l' → ((x y : A) → Memᴰ x l → Memᴰ y l' → R x y) → Rising R (l ++ l')
  rising-append nothing r h = r
  rising-append {l' = l'} (next {x} {l} f q) r h = next all (rising-append q r (λ u v m. h u v (Memᴰ.tail m)))
    where
      all : (y : A) → Memᴰ y (l ++ l') → R x y
      all y m = elim (Memᴰ.append_cases l m) [ inl p ↦ f y p | inr p ↦ h x y (Memᴰ.head refl) p ]

  -- By another relation, if it holds between members.
  rising-as : {S : A → A → Type 0} {l : List A} → ((x y : A) → Memᴰ x l → Memᴰ y l → S x y → R x y) → Rising S l → Rising R l
  rising-as h nothing = nothing
  rising-as h (next f q) =
      next (λ y m. h _ y (Memᴰ.head refl) (Memᴰ.tail m) (f y m)) (rising-as (λ u v m n. h u v (Memᴰ.tail m) (Memᴰ.tail n)) q)

  -- Of rising parts that are related, as their numbers rise.
  module _ (f : ℕ → List A) (each : (k : ℕ) → Rising R (f k))
      (across : (k k' : ℕ) (x y : A) → k < k' → Memᴰ x (f k) → Memᴰ y (f k') → R x y) where
    rising-flat_up : (from m : ℕ) → Rising R (flat_up f from m)
    rising-flat_up from zero = nothing
    rising-flat_up from (suc m) = rising-append (rising-flat_up from m) (each (from + m)) later
      where
        later : (x y : A) → Memᴰ x (flat_up f from m) → Memᴰ y (f (from + m)) → R x y
        later x y p q = let (k, a, b, p') = in-flat_up f from m p in across k (from + m) x y b p' q

    rising-concat_map : {l : List ℕ} → Rising ◌<◌ l → Rising R (concat_map f l)
    rising-concat_map nothing = nothing
    rising-concat_map (next {x = k} {l = l} less q) = rising-append (each k) (rising-concat_map q) later
      where
        later : (x y : A) → Memᴰ x (f k) → Memᴰ y (concat_map f l) → R x y
        later x y p q = let (k', m, q') = in-concat_map f l q in across k k' x y (less k' m) p q'

-- Positions are looked up in rising order.
rising-places : (m : ℕ) (test : Record → Bool) (c : List Record) → Rising ◌<◌ (places_from m test c)
rising-places m test [] = nothing
rising-places m test (r ∷ c) = rising-append (rising-only (test r) m) (rising-places (suc m) test c) later
  where
    later : (x y : ℕ) → Memᴰ x (only (test r) m) → Memᴰ y (places_from (suc m) test c) → x < y
    later x y p q =
        let (t, e) = in-only (test r) p in
        let (k, r', e', s, t') = in-places_from (suc m) test c q in
        omega arith

-- Records of one production at one split, by the positions that their action compares.
abbrev ByPlaces : Action → Record → Record → Type 0
ByPlaces a e f = NotAfter ◌<◌ (compared_in a e) (compared_in a f)

module _ (c : List Record) (A i j p : ℕ) where
  rising-taken : (γ x : ℕ) (φ : Foot) (ys : List ℕ) → Rising (ByPlaces (Take γ)) (taken_from A i j p x φ ys)
  rising-taken γ x φ [] = nothing
  rising-taken γ x φ (y ∷ ys) = rising-one _

  rising-given : (γ x y : ℕ) (ψ : Foot) → Rising (ByPlaces (Give γ)) (given_foot c A i j p x y γ ψ)
  rising-given γ x y bare = nothing
  rising-given γ x y (foot γ' B q r) =
      choice (Rising (ByPlaces (Give γ))) (eqb γ' γ) _ _
      (λ t. rising-concat_map (continued c A i j p x y) (λ z. rising-one _) across (rising-places 0 _ c)) (λ t. nothing)
    where
      across : (z z' : ℕ) (e f : Record) → z < z' → Memᴰ e (continued c A i j p x y z) → Memᴰ f (continued c A i j p x y z')
          → ByPlaces (Give γ) e f
      across z z' e f l m n = rw (Memᴰ.eq_of_singleton m, Memᴰ.eq_of_singleton n) (agreed (agreed (sooner l)))

  given-places : {e : Record} (γ x y : ℕ) (ψ : Foot) → Memᴰ e (given_foot c A i j p x y γ ψ)
      → (z : ℕ) × (compared_in (Give γ) e ≡ x ∷ y ∷ z ∷ [])
  given-places γ x y bare h = absurd (Memᴰ.not-nil h)
  given-places γ x y (foot γ' B q r) h =
      let (t, u) = in-choice (eqb γ' γ) _ h in
      let (z, v, w) = in-concat_map (continued c A i j p x y) (places c B q r) u in
      (z, ap (compared_in (Give γ)) (Memᴰ.eq_of_singleton w))

  rising-action : (a : Action) (D k m x : ℕ) → Rising (ByPlaces a) (by_action c a D k m A i j p x)
  rising-action (Take γ) D k m x = rising-taken γ x (foot γ D k m) (places c D k m)
  rising-action Keep D k m x = rising-concat_map (kept_from c A i j p x) (λ y. rising-one _) across (rising-places 0 _ c)
    where
      across : (y y' : ℕ) (e f : Record) → y < y' → Memᴰ e (kept_from c A i j p x y) → Memᴰ f (kept_from c A i j p x y')
          → ByPlaces Keep e f
      across y y' e f l m n = rw (Memᴰ.eq_of_singleton m, Memᴰ.eq_of_singleton n) (agreed (sooner l))
  rising-action (Give γ) D k m x =
      rising-concat_map (given_from c A i j p x γ) (λ y. rising-given γ x y (foot_at c y)) across (rising-places 0 _ c)
    where
      across : (y y' : ℕ) (e f : Record) → y < y' → Memᴰ e (given_from c A i j p x γ y) → Memᴰ f (given_from c A i j p x γ y')
          → ByPlaces (Give γ) e f
      across y y' e f l m n =
          let (z, u) = given-places γ x y (foot_at c y) m in
          let (z', u') = given-places γ x y' (foot_at c y') n in
          rw (u, u') (agreed (sooner l))

  -- The side comes first among the positions, so sides may rise too.
  side-first : (a : Action) (x y z : ℕ) → (rest : List ℕ) × (compared a x y z ≡ x ∷ rest)
  side-first (Take γ) x y z = ([], refl)
  side-first Keep x y z = (y ∷ [], refl)
  side-first (Give γ) x y z = (y ∷ z ∷ [], refl)

  acted-places : {a : Action} {D k m x : ℕ} {e : Record} → Acted c a D k m A i j p x e → (rest : List ℕ) × (compared_in a e ≡ x ∷ rest)
  acted-places {a} {x = x} (acted {y} {z} d r) = side-first a x y z

  rising-sides : (a : Action) (D k m : ℕ) (test : Record → Bool)
      → Rising (ByPlaces a) (concat_map (by_action c a D k m A i j p) (places_from 0 test c))
  rising-sides a D k m test =
      rising-concat_map (by_action c a D k m A i j p) (rising-action a D k m) across (rising-places 0 test c)
    where
      across : (x x' : ℕ) (e f : Record) → x < x' → Memᴰ e (by_action c a D k m A i j p x) → Memᴰ f (by_action c a D k m A i j p x')
          → ByPlaces a e f
      across x x' e f l s t =
          let (u, v) = acted-places (in-by_action c D k m A i j p x a s) in
          let (u', v') = acted-places (in-by_action c D k m A i j p x' a t) in
          rw (v, v') (sooner l)

  rising-rule : (k : ℕ) (r : Rule) → Rising (λ e f. NotAfter ◌<◌ (positions r e) (positions r f)) (by_rule c A i k j p r)
  rising-rule k (Lexical A' w) = nothing
  rising-rule k (Spine A' a (B ∷ []) D []) =
      choice (Rising (ByPlaces a)) (eqb A' A) _ _ (λ t. rising-sides a D k j _) (λ t. nothing)
  rising-rule k (Spine A' a (B ∷ []) D (C ∷ after)) = nothing
  rising-rule k (Spine A' a (B ∷ C ∷ before) D after) = nothing
  rising-rule k (Spine A' a [] D []) = nothing
  rising-rule k (Spine A' a [] D (B ∷ [])) =
      choice (Rising (ByPlaces a)) (eqb A' A) _ _ (λ t. rising-sides a D i k _) (λ t. nothing)
  rising-rule k (Spine A' a [] D (B ∷ C ∷ after)) = nothing

-- By their whole keys: the splits of one production, and the productions.
module _ (g : List Rule) (at : ℕ → ℕ → Bool) (c : List Record) (A i : ℕ) where
  rising-splits : (j p : ℕ) (r : Rule) → Stands g p r → (from m : ℕ) → Rising (InOrder g c) (flat_up (rule_at c A i j p r) from m)
  rising-splits j p r s = rising-flat_up (rule_at c A i j p r) each across
    where
      each : (k : ℕ) → Rising (InOrder g c) (by_rule c A i k j p r)
      each k =
          rising-as (λ e f m n h. subst₂ (NotAfter ◌<◌) (moves-key (in-by_rule g at c A i k j p r s m)) (moves-key (in-by_rule g at c A i k j p r s n))
          (agreed (agreed h))) (rising-rule c A i j p k r)

      across : (k k' : ℕ) (e f : Record) → k < k' → Memᴰ e (by_rule c A i k j p r) → Memᴰ f (by_rule c A i k' j p r) → InOrder g c e f
      across k k' e f l m n =
          subst₂ (NotAfter ◌<◌) (moves-key (in-by_rule g at c A i k j p r s m)) (moves-key (in-by_rule g at c A i k' j p r s n)) (agreed (sooner l))

  rising_word : (p : ℕ) (r : Rule) → Rising (InOrder g c) (by_word at A i p r)
  rising_word p (Lexical A' w) = rising-only (eqb A' A && at i w) _
  rising_word p (Spine A' a before D after) = nothing

  rising-over : (len p : ℕ) (r : Rule) → Stands g p r → Rising (InOrder g c) (by_rule_over at c A i len p r)
  rising-over zero p r s = nothing
  rising-over (suc zero) p r s = rising_word p r
  rising-over (suc (suc len)) p r s = let j = i + suc (suc len) in rising-splits j p r s (suc i) (j - suc i)

  pub rising-candidates : (len : ℕ) → Rising (InOrder g c) (candidates g at c A i len)
  rising-candidates len =
      rising-flat_up (by_production g at c A i len)
      (λ p. rising-option (by_rule_over at c A i len p) (get_elem? g p) (λ r e. rising-over len p r (get_elem-stands g p e))) across 0 (length g)
    where
      across : (p p' : ℕ) (e f : Record) → p < p' → Memᴰ e (by_production g at c A i len p) → Memᴰ f (by_production g at c A i len p')
          → InOrder g c e f
      across p p' e f l m n =
          let (rest, u) = in-by_production g at c A i len p m in
          let (rest', u') = in-by_production g at c A i len p' n in
          subst₂ (NotAfter ◌<◌) (moves-key u) (moves-key u') (sooner l)
