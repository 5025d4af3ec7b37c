-- The model builds a chart, or there are more derivable items than the room holds. Kept by every turn: each record is justified,
-- no item stands twice, and the filled cells have all their derived items; for a cell's antecedents lie in shorter spans within its own,
-- and these end earlier, or end with it and start later.
use Prim.Native.Nat.{ℕ, suc, ◌+◌, ◌-◌, ◌≤◌, ◌<◌}
use native.Mathlib.Nat.{le_trans, le_refl}
use native.Mathlib.Decide.{ℕ_discrete}
use native.Mathlib.Omega.{arith}
use mathlib.Core.Path.{◌≡◌, refl, sym, subst, subst₂}
use mathlib.Core.Logic.{◌⊎◌, inl, inr}
use mathlib.Core.Bool.{Bool}
use mathlib.Core.List.Memᴰ
use mathlib.Core.List.{List, [], ◌∷◌, ◌++◌, map, map-append, Memᴰ}
use mathlib.Core.Option.{Option, none, some}
use lib.ListN.{length, length-append, length-map}
use Rattle.grammar.specs.Lists.{Stands, Distinct}
use Rattle.grammar.specs.Lists
use Rattle.grammar.specs.Rewriting.{Rule, Lexical, Spine, Action, OneSided}
use Rattle.grammar.specs.Input.{Holds, Below}
use Rattle.grammar.specs.Items.{Foot, Derived, word_step, take_step, keep_step, give_step}
use Rattle.grammar.specs.ItemList.{Item, item, items}
use Rattle.grammar.specs.Chart.{Record, item_of, Earlier, earlier, Results, taken, kept, given, Justified, by_word, side_first, side_last, IsChart}
use Rattle.grammar.proofs.ListLaws.{in_map, in-stands, distinct-length}
use Rattle.grammar.proofs.StandsLaws.{none-some, some_same}
use Rattle.grammar.proofs.Bounds.{derived-bounds}
use Rattle.grammar.proofs.Unfolding.{derived-longer, justified-derived}
use Rattle.grammar.proofs.ItemListExact.{items-complete}
use Rattle.chart_model.specs.Build.{candidates, add_each, fill_cell, close_span, close_back, close_end, build}
use Rattle.chart_model.proofs.BuildLaws.{fold_up-keeps, Has, added-cases, add_each-none, stands-append, stands-cases, distinct-last}
use Rattle.chart_model.proofs.Candidates.{Inside, in-candidates, candidates-in}

-- The left nonterminal of a rule.
abbrev pub left_of : Rule → ℕ
left_of (Lexical A w) = A
left_of (Spine A a before D after) = A

-- With more records after it a chart justifies the same.
module _ {c : List Record} {m n : ℕ} (d : List Record) (h : m ≤ n) where
  earlier-longer : {x : ℕ} {it : Item} → Earlier c m x it → Earlier (c ++ d) n x it
  earlier-longer (earlier l s) = earlier (le_trans l h) (stands-append d s)

  results-longer : {a : Action} {D k j z : ℕ} {ψ φ : Foot} → Results c m a D k j ψ z φ → Results (c ++ d) n a D k j ψ z φ
  results-longer taken = taken
  results-longer kept = kept
  results-longer (given z) = given (earlier-longer z)

  justified-longer : {g : List Rule} {at : ℕ → ℕ → Type 0} {e : Record} → Justified g at c m e → Justified g at (c ++ d) n e
  justified-longer (by_word s t) = by_word s t
  justified-longer (side_first s x y z) = side_first s (earlier-longer x) (earlier-longer y) (results-longer z)
  justified-longer (side_last s y x z) = side_last s (earlier-longer y) (earlier-longer x) (results-longer z)

-- A chart that may lack items.
record Sound (g : List Rule) (at : ℕ → ℕ → Bool) (c : List Record) : Type 0 where
  justified : (m : ℕ) (e : Record) → Stands c m e → Justified g (Holds at) c m e
  distinct : Distinct (map item_of c)

sound_none : (g : List Rule) (at : ℕ → ℕ → Bool) → Sound g at []
sound_none g at = record { justified = λ m e s. elim s [ ]; distinct = Lists.none }

sound_more : {g : List Rule} {at : ℕ → ℕ → Bool} {c : List Record} {r : Record} → Sound g at c
    → Justified g (Holds at) c (length c) r → (Has c (item_of r) → ⊥) → Sound g at (c ++ (r ∷ []))
sound_more {g} {at} {c} {r} sound j new =
    record { justified = all; distinct = rw (map-append item_of) (distinct-last sound.distinct new) }
  where
    all : (m : ℕ) (e : Record) → Stands (c ++ (r ∷ [])) m e → Justified g (Holds at) (c ++ (r ∷ [])) m e
    all m e s = elim (stands-cases c s) [
      | inl p ↦ justified-longer (r ∷ []) (le_refl m) (sound.justified m e p)
      | inr p ↦ subst₂ (λ (m' : ℕ) (e' : Record). Justified g (Holds at) (c ++ (r ∷ [])) m' e') (sym p.0) (sym p.1)
          (justified-longer (r ∷ []) (le_refl (length c)) j)
    ]

-- `Reached room g at P s`: a state that has every item of P; or none, since more was found than the room holds.
data Reached (room : ℕ) (g : List Rule) (at : ℕ → ℕ → Bool) (P : Item → Type 0) : Option (List Record) → Type 0 where
  going : {c : List Record} → Sound g at c → length c ≤ room → ((x : Item) → P x → Has c x) → Reached room g at P (some c)
  over : {c : List Record} → Sound g at c → room < length c → Reached room g at P none

reached-less : {room : ℕ} {g : List Rule} {at : ℕ → ℕ → Bool} {P Q : Item → Type 0} {s : Option (List Record)}
    → ((x : Item) → Q x → P x) → Reached room g at P s → Reached room g at Q s
reached-less f (going sound fits has) = going sound fits (λ x q. has x (f x q))
reached-less f (over sound long) = over sound long

-- Adding records that are justified by the chart as it is.
abbrev Either : List Record → List Record → Item → Type 0
Either c rs x = Has c x ⊎ Has rs x

module _ (c rs : List Record) (r : Record) where
  either-old : Has c (item_of r) → (x : Item) → Either c (r ∷ rs) x → Either c rs x
  either-old o x (inl p) = inl p
  either-old o x (inr p) = elim (Memᴰ.cases_cons p) [ inl e ↦ inl (Memᴰ.cast e o) | inr q ↦ inr q ]

  either-new : (x : Item) → Either c (r ∷ rs) x → Either (c ++ (r ∷ [])) rs x
  either-new x (inl p) = inl (rw (map-append item_of) (Memᴰ.append_left (item_of r ∷ []) p))
  either-new x (inr p) = elim (Memᴰ.cases_cons p) [
    | inl e ↦ inl (rw (map-append item_of) (Memᴰ.append_right (map item_of c) (Memᴰ.head e)))
    | inr q ↦ inr q
  ]

module _ (room : ℕ) {g : List Rule} {at : ℕ → ℕ → Bool} where
  add-each : {c : List Record} (rs : List Record) → Sound g at c → length c ≤ room
      → ((r : Record) → Memᴰ r rs → Justified g (Holds at) c (length c) r)
      → Reached room g at (Either c rs) (add_each room rs (some c))
  add-each [] sound fits js = going sound fits (λ x h. elim h [ inl p ↦ p | inr p ↦ absurd (Memᴰ.not-nil p) ])
  add-each {c} (r ∷ rs) sound fits js =
      let j = js r (Memᴰ.head refl) in
      let one_more = length-append c (r ∷ []) in
      added-cases (λ s. Reached room g at (Either c (r ∷ rs)) (add_each room rs s)) room r c
      (λ o. reached-less (either-old c rs r o) (add-each rs sound fits (λ q m. js q (Memᴰ.tail m))))
      (λ o l. reached-less (either-new c rs r) (add-each rs (sound_more sound j o) (omega arith)
      (λ q m. justified-longer (r ∷ []) (omega arith) (js q (Memᴰ.tail m)))))
      (λ o l. rw (add_each-none room rs) (over (sound_more sound j o) (omega arith)))

-- The cells that were filled: those that end at e or before; those that end before j₀, or at j₀ and start at i₀ or later; and, while
-- the span from i₀ to j₀ is being closed, those before it and its own of nonterminals below A₀.
abbrev Ended : ℕ → ℕ → ℕ → ℕ → Type 0
Ended e A i j = j ≤ e

abbrev From : ℕ → ℕ → ℕ → ℕ → ℕ → Type 0
From i₀ j₀ A i j = (j < j₀) ⊎ ((j ≡ j₀) × (i₀ ≤ i))

abbrev Under : ℕ → ℕ → ℕ → ℕ → ℕ → ℕ → Type 0
Under i₀ j₀ A₀ A i j = From (suc i₀) j₀ A i j ⊎ ((i ≡ i₀) × (j ≡ j₀) × (A < A₀))

-- A shorter span within the one from i to j is among those that are closed before it.
inside-closed : {i j k m : ℕ} (A : ℕ) → Inside i j k m → From (suc i) j A k m
inside-closed {j = j} {m = m} A h = elim (ℕ_discrete m j) [ yes e ↦ inr (e, omega arith) | no d ↦ inl (omega arith) ]

abbrev Cells : List Rule → (ℕ → ℕ → Bool) → (ℕ → ℕ → ℕ → Type 0) → Item → Type 0
Cells g at P (item A i j φ) = Derived g (Holds at) A i j φ × P A i j

reached-cells : {room : ℕ} {g : List Rule} {at : ℕ → ℕ → Bool} {P Q : ℕ → ℕ → ℕ → Type 0} {s : Option (List Record)}
    → ((A i j : ℕ) (φ : Foot) → Derived g (Holds at) A i j φ → Q A i j → P A i j) → Reached room g at (Cells g at P) s
    → Reached room g at (Cells g at Q) s
reached-cells {g = g} {at} {P} {Q} f r = reached-less each r
  where
    each : (x : Item) → Cells g at Q x → Cells g at P x
    each (item A i j φ) (d, q) = (d, f A i j φ d q)

module _ (room N n : ℕ) (g : List Rule) (at : ℕ → ℕ → Bool) (one : OneSided g) (below : Below (Holds at) n)
    (lefts : (p : ℕ) (r : Rule) → Stands g p r → left_of r < N) where
  abbrev State : (ℕ → ℕ → ℕ → Type 0) → Option (List Record) → Type 0
  State P s = Reached room g at (Cells g at P) s

  pub derived-left : {A i j : ℕ} {φ : Foot} → Derived g (Holds at) A i j φ → A < N
  derived-left (word_step s t) = lefts _ _ s
  derived-left (take_step s b d a) = lefts _ _ s
  derived-left (keep_step s b d a) = lefts _ _ s
  derived-left (give_step s b d a e) = lefts _ _ s

  -- One cell: its derived items are candidates.
  cell-has : (c : List Record) (len i₀ A₀ : ℕ) → ((x : Item) → Cells g at (Under i₀ (i₀ + len) A₀) x → Has c x)
      → (x : Item) → Cells g at (Under i₀ (i₀ + len) (suc A₀)) x → Either c (candidates g at c A₀ i₀ len) x
  cell-has c len i₀ A₀ has (item A i j φ) (d, inl b) = inl (has (item A i j φ) (d, inl b))
  cell-has c len i₀ A₀ has (item A i j φ) (d, inr (e, e', l)) = elim (ℕ_discrete A A₀) [
    | yes q ↦ inr (subst₂ (λ (A' i' : ℕ). Has (candidates g at c A' i' len) (item A i j φ)) q e
        (candidates-in n g at one below c len
        (λ B k m ψ f h. has (item B k m ψ) (f, inl (inside-closed B (omega arith)))) (omega arith) d))
    | no q ↦ inl (has (item A i j φ) (d, inr (e, e', omega arith)))
  ]

  fill-cell : {s : Option (List Record)} (len i A : ℕ) → State (Under i (i + len) A) s
      → State (Under i (i + len) (suc A)) (fill_cell room g at len i A s)
  fill-cell len i A (going {c} sound fits has) =
      reached-less (cell-has c len i A has)
      (add-each room (candidates g at c A i len) sound fits (λ r m. in-candidates g at c A i len m))
  fill-cell len i A (over sound long) = over sound long

  -- One span: the cells of every nonterminal.
  span-start : (i₀ j₀ A i j : ℕ) (φ : Foot) → Derived g (Holds at) A i j φ → Under i₀ j₀ 0 A i j → From (suc i₀) j₀ A i j
  span-start i₀ j₀ A i j φ d (inl b) = b
  span-start i₀ j₀ A i j φ d (inr (e, e', l)) = absurd (omega arith)

  span-end : (i₀ j₀ A i j : ℕ) (φ : Foot) → Derived g (Holds at) A i j φ → From i₀ j₀ A i j → Under i₀ j₀ N A i j
  span-end i₀ j₀ A i j φ d (inl b) = inl (inl b)
  span-end i₀ j₀ A i j φ d (inr (e, l)) = elim (ℕ_discrete i i₀) [
    | yes q ↦ inr (q, e, derived-left d)
    | no q ↦ inl (inr (e, omega arith))
  ]

  close-span : {s : Option (List Record)} (len i : ℕ) → State (From (suc i) (i + len)) s
      → State (From i (i + len)) (close_span room g at N len i s)
  close-span len i r =
      reached-cells (span-end i (i + len))
      (fold_up-keeps (λ A s. State (Under i (i + len) A) s) (fill_cell room g at len i) N (λ A s l q. fill-cell len i A q)
      (reached-cells (span-start i (i + len)) r))

  -- The spans of one end: each starts one place before the last.
  back_start : (e m : ℕ) → m ≤ e → (A i j : ℕ) (φ : Foot) → Derived g (Holds at) A i j φ → From (suc (e - m)) (e - m + suc m) A i j
      → From (suc e - m) (suc e) A i j
  back_start e m h A i j φ d (inl b) = inl (omega arith)
  back_start e m h A i j φ d (inr (q, l)) = inr (omega arith, omega arith)

  back_end : (e m : ℕ) → m ≤ e → (A i j : ℕ) (φ : Foot) → Derived g (Holds at) A i j φ → From (suc e - suc m) (suc e) A i j
      → From (e - m) (e - m + suc m) A i j
  back_end e m h A i j φ d (inl b) = inl (omega arith)
  back_end e m h A i j φ d (inr (q, l)) = inr (omega arith, omega arith)

  close-back : {s : Option (List Record)} (e m : ℕ) → m < suc e → State (From (suc e - m) (suc e)) s
      → State (From (suc e - suc m) (suc e)) (close_back room g at N e m s)
  close-back e m h r =
      reached-cells (back_end e m (omega arith)) (close-span (suc m) (e - m) (reached-cells (back_start e m (omega arith)) r))

  end-start : (e A i j : ℕ) (φ : Foot) → Derived g (Holds at) A i j φ → From (suc e - 0) (suc e) A i j → Ended e A i j
  end-start e A i j φ d (inl b) = omega arith
  end-start e A i j φ d (inr (q, l)) = let h = derived-longer d in absurd (omega arith)

  end-end : (e A i j : ℕ) (φ : Foot) → Derived g (Holds at) A i j φ → Ended (suc e) A i j → From (suc e - suc e) (suc e) A i j
  end-end e A i j φ d l = elim (ℕ_discrete j (suc e)) [ yes q ↦ inr (q, omega arith) | no q ↦ inl (omega arith) ]

  close-end : {s : Option (List Record)} (e : ℕ) → State (Ended e) s → State (Ended (suc e)) (close_end room g at N e s)
  close-end e r =
      reached-cells (end-end e)
      (fold_up-keeps (λ m s. State (From (suc e - m) (suc e)) s) (close_back room g at N e) (suc e)
      (λ m s l q. close-back e m l q) (reached-cells (end-start e) r))

  -- All ends: no derived item ends at 0, and none past the line.
  nothing-has : (x : Item) → Cells g at (Ended 0) x → Has [] x
  nothing-has (item A i j φ) (d, l) = let h = derived-longer d in absurd (omega arith)

  build-reached : State (Ended n) (build room g at N n)
  build-reached =
      fold_up-keeps (λ e s. State (Ended e) s) (close_end room g at N) n (λ e s l q. close-end e q)
      (going (sound_none g at) (omega arith) nothing-has)

  chart-of : {c : List Record} → Sound g at c → ((x : Item) → Cells g at (Ended n) x → Has c x) → IsChart g (Holds at) c
  chart-of {c} sound has = record { justified = sound.justified; distinct = sound.distinct; complete = all }
    where
      all : (A i j : ℕ) (φ : Foot) → Derived g (Holds at) A i j φ
          → (m : ℕ) × (e : Record) × Stands c m e × (item_of e ≡ item A i j φ)
      all A i j φ d =
          let b = derived-bounds n below d in
          let (e, p, q) = in_map item_of c (has (item A i j φ) (d, b.1)) in
          let (m, s) = in-stands p in
          (m, e, s, sym q)

  reached-chart : {s : Option (List Record)} {c : List Record} → State (Ended n) s → s ≡ some c
      → IsChart g (Holds at) c × (length c ≤ room)
  reached-chart (going sound fits has) e =
      subst (λ (c : List Record). IsChart g (Holds at) c × (length c ≤ room)) (some_same e) (chart-of sound has, fits)
  reached-chart (over sound long) e = absurd (none-some e)

  -- The items of a chart that may lack some are derived, so they are no more than the derivable ones.
  sound-length : {c : List Record} → Sound g at c → length c ≤ length (items g at n)
  sound-length {c} sound = omega (arith, length-map c item_of, distinct-length sound.distinct held)
    where
      held : (x : Item) → Has c x → Memᴰ x (items g at n)
      held (item A i j φ) h =
          let (e, p, q) = in_map item_of c h in
          let (m, s) = in-stands p in
          items-complete g at n below A i j φ (justified-derived g (Holds at) c sound.justified s (sym q))

  reached-none : {s : Option (List Record)} → State (Ended n) s → s ≡ none → room < length (items g at n)
  reached-none (going sound fits has) e = absurd (none-some (sym e))
  reached-none (over sound long) e = le_trans long (sound-length sound)

  -- The result is a chart within the room; or there is none, since the derivable items do not fit.
  pub build-chart : {c : List Record} → build room g at N n ≡ some c → IsChart g (Holds at) c
  build-chart e = (reached-chart build-reached e).0

  pub build-room : {c : List Record} → build room g at N n ≡ some c → length c ≤ room
  build-room e = (reached-chart build-reached e).1

  pub build-none : build room g at N n ≡ none → room < length (items g at n)
  build-none e = reached-none build-reached e

  pub build-some : length (items g at n) ≤ room → (c : List Record) × (build room g at N n ≡ some c)
  build-some h = go (build room g at N n) refl
    where
      go : (s : Option (List Record)) → build room g at N n ≡ s → (c : List Record) × (build room g at N n ≡ some c)
      go none e = let l = build-none e in absurd (omega arith)
      go (some c) e = (c, e)
