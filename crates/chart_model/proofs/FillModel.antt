-- How the model's chart grows: record by record, each of a new item and of a cell that is known beforehand. So the other cells keep
-- their positions, and a cell that had no records gets those from the old end to the new, by induction on the records added.
use Prim.Native.Nat.{ℕ, zero, suc, ◌+◌, ◌-◌, ◌≤◌, ◌<◌, zero-le}
use native.Mathlib.Numerals.{add-one}
use native.Mathlib.Nat.{zero-add, add-zero, add-suc, suc-add, le_refl}
use native.Mathlib.Decide.{ℕ_discrete}
use native.Mathlib.Omega.{arith}
use mathlib.Core.Path.{◌≡◌, refl, sym, ◌∙◌, ap, subst, subst₃}
use mathlib.Core.Logic.{◌⊎◌, inl, inr}
use mathlib.Core.Bool.{Bool, true, false, cond, ◌&&◌, false≢true, and-eq-true_iff}
use mathlib.Core.List.Memᴰ
use mathlib.Core.List.{List, [], ◌∷◌, ◌++◌, map, append-nil, Memᴰ}
use mathlib.Core.Option.{Option, none, some}
use lib.Dec.{eqb}
use lib.ListN.{length, length-append, get_elem?}
use borrow.Author.Tests.{eqb-true}
use Rattle.grammar.specs.Lists.{Stands, only}
use Rattle.grammar.specs.Rewriting.{Rule, Lexical, Spine, Action, Take, Keep, Give}
use Rattle.grammar.specs.Items.{Foot, bare, foot}
use Rattle.grammar.specs.ItemList.{Item, item, is_bare, among}
use Rattle.grammar.specs.Chart.{Record, recorded, item_of, Earlier, earlier}
use Rattle.layout.specs.Bytes.{counted}
use Rattle.grammar.proofs.ListLaws.{eqb-self, in-concat_map, in-only, map-in, stands-in}
use Rattle.grammar.proofs.StandsLaws.{none-some, some_same, stands-get_elem}
use Rattle.grammar.proofs.ItemTests.{in-choice, among-true}
use Rattle.chart_model.specs.Build.{fold_up, places_from, is_of, is_bare_of, places, bare_places, foot_in, foot_at, taken_from, kept_from, continued, given_foot, given_from, by_action, by_rule, rule_at, by_word, by_rule_over, by_production, candidates, add_each, fill_cell, close_span, close_back, close_end}
use Rattle.chart_model.proofs.BuildLaws.{Has, in-flat_up, in-places_all, places_all-in, places_from-append, added-cases, add_each-none, in-option, get_elem-append, stands-append, stands-last, stands-cases}
use Rattle.chart_model.proofs.Candidates.{places-in, in-bare_places}

-- The cell of a record's item is one of P's; and the one cell of A over i to j.
abbrev pub InCell : (ℕ → ℕ → ℕ → Type 0) → Record → Type 0
InCell P (recorded (item A i j φ) p x y z) = P A i j

abbrev pub IsCell : ℕ → ℕ → ℕ → ℕ → ℕ → ℕ → Type 0
IsCell A i j A' i' j' = (A' ≡ A) × (i' ≡ i) × (j' ≡ j)

-- `Grown P c b`: b is c and then records of cells of P, each of an item that was not there.
pub data Grown (P : ℕ → ℕ → ℕ → Type 0) (c : List Record) : List Record → Type 0 where
  same : Grown P c c
  more : {b : List Record} (r : Record) → Grown P c b → InCell P r → (Has b (item_of r) → ⊥) → Grown P c (b ++ (r ∷ []))

pub grown-then : {P : ℕ → ℕ → ℕ → Type 0} {a b c : List Record} → Grown P a b → Grown P b c → Grown P a c
grown-then g same = g
grown-then g (more r h i new) = more r (grown-then g h) i new

pub grown-wider : {P Q : ℕ → ℕ → ℕ → Type 0} {c b : List Record} → ((A i j : ℕ) → P A i j → Q A i j) → Grown P c b → Grown Q c b
grown-wider f same = same
grown-wider {P} {Q} f (more r g i new) = more r (grown-wider f g) (wider r i) new
  where
    wider : (r : Record) → InCell P r → InCell Q r
    wider (recorded (item A i j φ) p x y z) h = f A i j h

pub grown-length : {P : ℕ → ℕ → ℕ → Type 0} {c b : List Record} → Grown P c b → length c ≤ length b
grown-length {c = c} same = le_refl (length c)
grown-length (more {b} r g i new) = omega (arith, grown-length g, length-append b (r ∷ []))

-- What stood stays, and what stands was there or is of a cell of P.
pub grown-stands : {P : ℕ → ℕ → ℕ → Type 0} {c b : List Record} {m : ℕ} {e : Record} → Grown P c b → Stands c m e → Stands b m e
grown-stands same s = s
grown-stands (more r g i new) s = stands-append (r ∷ []) (grown-stands g s)

pub grown-cases : {P : ℕ → ℕ → ℕ → Type 0} {c b : List Record} {m : ℕ} {e : Record} → Grown P c b → Stands b m e
    → Stands c m e ⊎ ((length c ≤ m) × InCell P e)
grown-cases same s = inl s
grown-cases {P} (more {b} r g i new) s = elim (stands-cases b s) [
  | inl p ↦ grown-cases g p
  | inr p ↦ inr (omega (arith, grown-length g), subst (InCell P) (sym p.1) i)
]

pub grown-back : {P : ℕ → ℕ → ℕ → Type 0} {c b : List Record} {m : ℕ} {e : Record} → Grown P c b → (InCell P e → ⊥) → Stands b m e
    → Stands c m e
grown-back g out s = elim (grown-cases g s) [ inl t ↦ t | inr w ↦ absurd (out w.1) ]

-- What is added of a list of records is of their cells.
pub each-grown : {P : ℕ → ℕ → ℕ → Type 0} {c b e : List Record} (room : ℕ) (rs : List Record)
    → ((r : Record) → Memᴰ r rs → InCell P r) → Grown P c b → add_each room rs (some b) ≡ some e → Grown P c e
each-grown {P} {c} room [] js g q = subst (Grown P c) (some_same q) g
each-grown {P} {c} {b} {e} room (r ∷ rs) js g q =
    added-cases (λ s. add_each room rs s ≡ some e → Grown P c e) room r b
    (λ old. each-grown room rs (λ s m. js s (Memᴰ.tail m)) g)
    (λ new l. each-grown room rs (λ s m. js s (Memᴰ.tail m)) (more r g (js r (Memᴰ.head refl)) new))
    (λ new l q'. absurd (none-some (sym (add_each-none room rs) ∙ q'))) q

-- A candidate is of its cell.
abbrev Of : ℕ → ℕ → ℕ → Record → Type 0
Of A i j r = InCell (IsCell A i j) r

of_one : {A i j p x y z : ℕ} {φ : Foot} {e : Record} → Memᴰ e (recorded (item A i j φ) p x y z ∷ []) → Of A i j e
of_one {A} {i} {j} m = subst (Of A i j) (sym (Memᴰ.eq_of_singleton m)) (refl, refl, refl)

module _ (c : List Record) (D k m A i j p x : ℕ) where
  of-taken : {e : Record} (φ : Foot) (ys : List ℕ) → Memᴰ e (taken_from A i j p x φ ys) → Of A i j e
  of-taken φ [] h = absurd (Memᴰ.not-nil h)
  of-taken φ (y ∷ ys) h = of_one h

  of-given : {e : Record} (y γ : ℕ) (ψ : Foot) → Memᴰ e (given_foot c A i j p x y γ ψ) → Of A i j e
  of-given y γ bare h = absurd (Memᴰ.not-nil h)
  of-given y γ (foot γ' B q r) h =
      let (t, u) = in-choice (eqb γ' γ) _ h in
      let (z, v, w) = in-concat_map (continued c A i j p x y) (places c B q r) u in
      of_one w

  of-action : {e : Record} (a : Action) → Memᴰ e (by_action c a D k m A i j p x) → Of A i j e
  of-action (Take γ) h = of-taken (foot γ D k m) (places c D k m) h
  of-action Keep h = let (y, n, f) = in-concat_map (kept_from c A i j p x) (places c D k m) h in of_one f
  of-action (Give γ) h =
      let (y, n, f) = in-concat_map (given_from c A i j p x γ) (places c D k m) h in
      of-given y γ (foot_at c y) f

module _ (g : List Rule) (at : ℕ → ℕ → Bool) (c : List Record) (A i : ℕ) where
  of-rule : {e : Record} (k j p : ℕ) (r : Rule) → Memᴰ e (by_rule c A i k j p r) → Of A i j e
  of-rule k j p (Lexical A' w) h = absurd (Memᴰ.not-nil h)
  of-rule k j p (Spine A' a (B ∷ []) D []) h =
      let (t, m) = in-choice (eqb A' A) _ h in
      let (x, n, f) = in-concat_map (by_action c a D k j A i j p) (bare_places c B i k) m in
      of-action c D k j A i j p x a f
  of-rule k j p (Spine A' a (B ∷ []) D (C ∷ after)) h = absurd (Memᴰ.not-nil h)
  of-rule k j p (Spine A' a (B ∷ C ∷ before) D after) h = absurd (Memᴰ.not-nil h)
  of-rule k j p (Spine A' a [] D []) h = absurd (Memᴰ.not-nil h)
  of-rule k j p (Spine A' a [] D (B ∷ [])) h =
      let (t, m) = in-choice (eqb A' A) _ h in
      let (x, n, f) = in-concat_map (by_action c a D i k A i j p) (bare_places c B k j) m in
      of-action c D i k A i j p x a f
  of-rule k j p (Spine A' a [] D (B ∷ C ∷ after)) h = absurd (Memᴰ.not-nil h)

  of_word : {e : Record} (p : ℕ) (r : Rule) → Memᴰ e (by_word at A i p r) → Of A i (i + 1) e
  of_word p (Lexical A' w) h =
      let (t, f) = in-only (eqb A' A && at i w) h in
      subst (Of A i (i + 1)) (sym f) (refl, refl, sym (add-one i))
  of_word p (Spine A' a before D after) h = absurd (Memᴰ.not-nil h)

  of-over : {e : Record} (len p : ℕ) (r : Rule) → Memᴰ e (by_rule_over at c A i len p r) → Of A i (i + len) e
  of-over zero p r h = absurd (Memᴰ.not-nil h)
  of-over (suc zero) p r h = of_word p r h
  of-over (suc (suc len)) p r h =
      let j = i + suc (suc len) in
      let (k, a, b, m) = in-flat_up (rule_at c A i j p r) (suc i) (j - suc i) h in
      of-rule k j p r m

  pub of-candidates : {e : Record} (len : ℕ) → Memᴰ e (candidates g at c A i len) → Of A i (i + len) e
  of-candidates len h =
      let (p, a, b, m) = in-flat_up (by_production g at c A i len) 0 (length g) h in
      let (r, f, n) = in-option (by_rule_over at c A i len p) (get_elem? g p) m in
      of-over len p r n

-- So a cell, a span, the spans of an end, and all grow the chart by their cells.
pub cell-grown : {c b : List Record} (room : ℕ) (g : List Rule) (at : ℕ → ℕ → Bool) (len i A : ℕ)
    → fill_cell room g at len i A (some c) ≡ some b → Grown (IsCell A i (i + len)) c b
cell-grown {c} room g at len i A q = each-grown room (candidates g at c A i len) (λ r m. of-candidates g at c A i len m) same q

-- Once an item did not fit, none does.
pub fold-none : {S : Type 0} (f : ℕ → Option S → Option S) (s : Option S) (m k : ℕ) → ((l : ℕ) → f l none ≡ none)
    → fold_up f m s ≡ none → m ≤ k → fold_up f k s ≡ none
fold-none f s m zero stays q l = let e : m ≡ 0 = omega arith in subst (λ (x : ℕ). fold_up f x s ≡ none) e q
fold-none f s m (suc k) stays q l = elim (ℕ_discrete m (suc k)) [
  | yes e ↦ subst (λ (x : ℕ). fold_up f x s ≡ none) e q
  | no d ↦ ap (f k) (fold-none f s m k stays q (omega arith)) ∙ stays k
]

-- A cell of P at some place below m.
abbrev Below : (ℕ → ℕ → ℕ → ℕ → Type 0) → ℕ → ℕ → ℕ → ℕ → Type 0
Below P m A i j = (l : ℕ) × (l < m) × P l A i j

-- A fold that comes to a chart had one before its last turn.
pub fold-last : {b : List Record} (f : ℕ → Option (List Record) → Option (List Record)) → ((l : ℕ) → f l none ≡ none) → (m : ℕ)
    → (c : List Record) → fold_up f (suc m) (some c) ≡ some b → (d : List Record) × (fold_up f m (some c) ≡ some d) × (f m (some d) ≡ some b)
fold-last {b} f stays m c q = go (fold_up f m (some c)) refl
  where
    go : (s : Option (List Record)) → fold_up f m (some c) ≡ s → (d : List Record) × (fold_up f m (some c) ≡ some d) × (f m (some d) ≡ some b)
    go none e = absurd (none-some (sym (stays m) ∙ (ap (f m) (sym e) ∙ q)))
    go (some d) e = (d, e, ap (f m) (sym e) ∙ q)

fold-grown : {P : ℕ → ℕ → ℕ → ℕ → Type 0} {c b : List Record} (f : ℕ → Option (List Record) → Option (List Record))
    → ((l : ℕ) → f l none ≡ none) → ((l : ℕ) (c b : List Record) → f l (some c) ≡ some b → Grown (P l) c b) → (m : ℕ)
    → fold_up f m (some c) ≡ some b → Grown (Below P m) c b
fold-grown {P} {c} f stays step zero q = subst (Grown (Below P 0) c) (some_same q) same
fold-grown {P} {c} {b} f stays step (suc m) q =
    let (d, e, r) = fold-last f stays m c q in
    grown-then (grown-wider (λ A i j (l, h, p). (l, omega arith, p)) (fold-grown {b = d} f stays step m e))
    (grown-wider (λ A i j p. (m, le_refl (suc m), p)) (step m d b r))

module _ (room : ℕ) (g : List Rule) (at : ℕ → ℕ → Bool) where
  -- So it is for a span, and for the spans of an end.
  pub span_none : (N len i : ℕ) → close_span room g at N len i none ≡ none
  span_none N len i = fold-none (fill_cell room g at len i) none 0 N (λ l. refl) refl zero-le

  pub end_none : (N e : ℕ) → close_end room g at N e none ≡ none
  end_none N e = fold-none (close_back room g at N e) none 0 (suc e) (λ m. span_none N (suc m) (e - m)) refl zero-le

  -- The nonterminals below m over i to i + len; the spans of at most m words that end at e + 1; the spans that end at m or before.
  pub span-grown : {c b : List Record} (len i m : ℕ) → fold_up (fill_cell room g at len i) m (some c) ≡ some b
      → Grown (λ A i' j. (A < m) × (i' ≡ i) × (j ≡ i + len)) c b
  span-grown len i m q =
      grown-wider (λ A i' j (l, h, (e, f, k)). (omega arith, f, k))
      (fold-grown (fill_cell room g at len i) (λ l. refl) (λ l c b. cell-grown room g at len i l) m q)

  pub end-grown : {c b : List Record} (N e m : ℕ) → m ≤ suc e → fold_up (close_back room g at N e) m (some c) ≡ some b
      → Grown (λ A i j. (j ≡ suc e) × (e < i + m)) c b
  end-grown N e m k q =
      grown-wider (λ A i j (l, h, (a, f, f')). (omega arith, omega arith))
      (fold-grown (close_back room g at N e) (λ l. span_none N (suc l) (e - l)) (λ l c b. span-grown (suc l) (e - l) N) m q)

  pub all_grown : {c b : List Record} (N m : ℕ) → fold_up (close_end room g at N) m (some c) ≡ some b → Grown (λ A i j. j ≤ m) c b
  all_grown N m q =
      grown-wider (λ A i j (l, h, (f, a)). omega arith)
      (fold-grown (close_end room g at N) (end_none N) (λ l c b. end-grown N l (suc l) (le_refl (suc l))) m q)

-- The positions of the records that pass a test, where no record that was added passes it.
grown-test : {P : ℕ → ℕ → ℕ → Type 0} {c b : List Record} (test : Record → Bool) → ((r : Record) → InCell P r → test r ≡ false)
    → Grown P c b → places_from 0 test b ≡ places_from 0 test c
grown-test test fails same = refl
grown-test test fails (more {b} r g i new) =
    places_from-append 0 test b (r ∷ []) ∙ rw (fails r i, append-nil) (grown-test test fails g)

-- Whose test passes is of the cell.
of-true : (A i j : ℕ) (P : ℕ → ℕ → ℕ → Type 0) (r : Record) → InCell P r → is_of A i j r ≡ true → P A i j
of-true A i j P (recorded (item A' i' j' φ) p x y z) h t =
    let (e₁, f₁) = (and-eq-true_iff (eqb A' A) _).0 t in
    let (e₂, e₃) = (and-eq-true_iff (eqb i' i) _).0 f₁ in
    subst₃ P (eqb-true A' A e₁) (eqb-true i' i e₂) (eqb-true j' j e₃) h

bare-true : (A i j : ℕ) (r : Record) → is_bare_of A i j r ≡ true → is_of A i j r ≡ true
bare-true A i j (recorded (item A' i' j' φ) p x y z) t = ((and-eq-true_iff (eqb A' A && (eqb i' i && eqb j' j)) _).0 t).0

pub not_so : (b : Bool) → (b ≡ true → ⊥) → b ≡ false
not_so true h = absurd (h refl)
not_so false h = refl

-- Cells that P leaves out keep their positions.
pub places-other : {P : ℕ → ℕ → ℕ → Type 0} {c b : List Record} (A i j : ℕ) → (P A i j → ⊥) → Grown P c b
    → places b A i j ≡ places c A i j
places-other {P} A i j out g = grown-test (is_of A i j) (λ r h. not_so (is_of A i j r) (λ t. out (of-true A i j P r h t))) g

pub bares-other : {P : ℕ → ℕ → ℕ → Type 0} {c b : List Record} (A i j : ℕ) → (P A i j → ⊥) → Grown P c b
    → bare_places b A i j ≡ bare_places c A i j
bares-other {P} A i j out g =
    grown-test (is_bare_of A i j) (λ r h. not_so (is_bare_of A i j r) (λ t. out (of-true A i j P r h (bare-true A i j r t)))) g

-- What is in a count; and one more.
pub in-counted : {x : ℕ} (k m : ℕ) → Memᴰ x (counted k m) → (k ≤ x) × (x < k + m)
in-counted k zero h = absurd (Memᴰ.not-nil h)
in-counted k (suc m) h = elim (Memᴰ.cases_cons h) [
  | inl e ↦ omega arith
  | inr p ↦ let q = in-counted (suc k) m p in omega arith
]

pub counted-last : (k m : ℕ) → counted k (suc m) ≡ counted k m ++ ((k + m) ∷ [])
counted-last k zero = rw add-zero
counted-last k (suc m) = ap (λ l. k ∷ l) (counted-last (suc k) m ∙ rw (suc-add, add-suc))

-- A record of the cell passes the cell's test; and the bare one's, if it is bare.
of_test : (A i j : ℕ) (r : Record) → Of A i j r → is_of A i j r ≡ true
of_test A i j (recorded (item A' i' j' φ) p x y z) (a, b, c) = rw (a, b, c) (simp eqb-self)

bare-test : (A i j : ℕ) (r : Record) → Of A i j r → is_bare_of A i j r ≡ is_bare (foot_in (some r))
bare-test A i j (recorded (item A' i' j' φ) p x y z) (a, b, c) = rw (a, b, c) (simp eqb-self)

of_bare : (A i j : ℕ) (r : Record) → Of A i j r → is_bare (foot_in (some r)) ≡ true → item A i j bare ≡ item_of r
of_bare A i j (recorded (item A' i' j' bare) p x y z) (a, b, c) t = rw (a, b, c)
of_bare A i j (recorded (item A' i' j' (foot γ B q r)) p x y z) (a, b, c) t = absurd (false≢true t)

-- One more than the last bare record's position among m from base on, or 0.
abbrev pub bare_at : List Record → ℕ → ℕ → ℕ
bare_at c base zero = 0
bare_at c base (suc m) = cond (is_bare (foot_at c (base + m))) (suc (base + m)) (bare_at c base m)

bare_at-append : (c d : List Record) (base m : ℕ) → base + m ≤ length c → bare_at (c ++ d) base m ≡ bare_at c base m
bare_at-append c d base zero l = refl
bare_at-append c d base (suc m) l = rw (get_elem-append c d (base + m) (omega arith), bare_at-append c d base m (omega arith))

foot-last : (c : List Record) (r : Record) (m : ℕ) → m ≡ length c → foot_at (c ++ (r ∷ [])) m ≡ foot_in (some r)
foot-last c r m e = rw (e, stands-get_elem (stands-last c r))

-- A list that nothing is in.
nothing-in : {A : Type 0} (l : List A) → ((x : A) → Memᴰ x l → ⊥) → l ≡ []
nothing-in [] h = refl
nothing-in (x ∷ l) h = absurd (h x (Memᴰ.head refl))

pub bares-none : (c : List Record) (A i j : ℕ) → places c A i j ≡ [] → bare_places c A i j ≡ []
bares-none c A i j empty = nothing-in (bare_places c A i j) lacks
  where
    lacks : (x : ℕ) → Memᴰ x (bare_places c A i j) → ⊥
    lacks x m =
        let (e, s, t) = in-places_all (is_bare_of A i j) c m in
        Memᴰ.not-nil (subst (Memᴰ x) empty (places_all-in (is_of A i j) s (bare-true A i j e t)))

earlier-has : {c : List Record} {m x : ℕ} {it : Item} → Earlier c m x it → Has c it
earlier-has (earlier l s) = map-in item_of (stands-in s)

bares-lack : (c : List Record) (A i j : ℕ) → (Has c (item A i j bare) → ⊥) → bare_places c A i j ≡ []
bares-lack c A i j lacks = nothing-in (bare_places c A i j) (λ x m. lacks (earlier-has (in-bare_places c A i j m)))

-- A cell that had no records: its positions are those added, and its bare one is the last of these that is bare, since there is
-- no second.
module _ (A i j : ℕ) {c : List Record} where
  pub places-own : {b : List Record} → places c A i j ≡ [] → Grown (IsCell A i j) c b → (m : ℕ) → length b ≡ length c + m
      → places b A i j ≡ counted (length c) m
  places-own empty same zero e = empty
  places-own empty same (suc m) e = absurd (omega arith)
  places-own empty (more {b} r g i new) zero e = absurd (omega (arith, grown-length g, length-append b (r ∷ [])))
  places-own empty (more {b} r g h new) (suc m) e =
      let l : length b ≡ length c + m = omega (arith, length-append b (r ∷ [])) in
      places_from-append 0 (is_of A i j) b (r ∷ [])
      ∙ rw (of_test A i j r h, places-own empty g m l, zero-add, l, counted-last)

  pub bares-own : {b : List Record} (one : ℕ → List ℕ) → one 0 ≡ [] → ((x : ℕ) → one (suc x) ≡ x ∷ []) → places c A i j ≡ []
      → Grown (IsCell A i j) c b → (m : ℕ) → length b ≡ length c + m → bare_places b A i j ≡ one (bare_at b (length c) m)
  bares-own one z s empty same zero e = bares-none c A i j empty ∙ sym z
  bares-own one z s empty same (suc m) e = absurd (omega arith)
  bares-own one z s empty (more {b} r g h new) zero e = absurd (omega (arith, grown-length g, length-append b (r ∷ [])))
  bares-own one z s empty (more {b} r g h new) (suc m) e =
      let l : length b ≡ length c + m = omega (arith, length-append b (r ∷ [])) in
      places_from-append 0 (is_bare_of A i j) b (r ∷ [])
      ∙ rw (bare-test A i j r h, foot-last b r (length c + m) (sym l), bare_at-append b (r ∷ []) (length c) m (omega arith))
      (last (is_bare (foot_in (some r))) refl l (bares-own one z s empty g m l))
    where
      last : (t : Bool) → is_bare (foot_in (some r)) ≡ t → length b ≡ length c + m → bare_places b A i j ≡ one (bare_at b (length c) m)
          → bare_places b A i j ++ (only t (0 + length b) ++ []) ≡ one (cond t (suc (length c + m)) (bare_at b (length c) m))
      last true t l rest =
          rw (bares-lack b A i j (λ o. new (subst (Has b) (of_bare A i j r h t) o)), s (length c + m), zero-add, l)
      last false t l rest = rw append-nil rest

  -- Where a foot of the cell stands.
  pub foot-place : {b : List Record} {φ : Foot} → places c A i j ≡ [] → Grown (IsCell A i j) c b → Has b (item A i j φ)
      → (x : ℕ) × (length c ≤ x) × (x < length b) × (foot_at b x ≡ φ)
  foot-place {b} empty g h =
      let (x, p, f) = places-in b A i j h in
      let k = grown-length g in
      let e : length b ≡ length c + (length b - length c) = omega arith in
      let q = in-counted (length c) (length b - length c) (subst (Memᴰ x) (places-own empty g _ e) p) in
      (x, q.0, omega arith, f)

-- No item of a cell without records is among the items.
pub fresh-among : (c : List Record) (A i j : ℕ) (φ : Foot) → places c A i j ≡ [] → among (item A i j φ) (map item_of c) ≡ false
fresh-among c A i j φ empty = not_so (among (item A i j φ) (map item_of c)) absent
  where
    absent : among (item A i j φ) (map item_of c) ≡ true → ⊥
    absent t =
        let (x, p, f) = places-in c A i j (among-true _ _ t) in
        Memᴰ.not-nil (subst (Memᴰ x) empty p)
