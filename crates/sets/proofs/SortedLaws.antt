-- What the sets of spans say of a chart. A cell adds records of its own alone, so after it only the sets of its span change, and they gain the
-- productions for its name; the records of a span are no elements at its splits, so what meets there is known before the span is filled.
use Prim.Native.Nat.{ℕ, ◌≤◌, ◌<◌}
use native.Mathlib.Omega.{arith}
use native.Mathlib.Decide.{ℕ_discrete}
use mathlib.Core.Path.{◌≡◌, refl, sym, ap, subst, subst₂, ◌∙◌}
use mathlib.Core.Logic.{◌⊎◌, inl, inr}
use mathlib.Core.Bool.{Bool}
use mathlib.Core.List.{List, [], ◌∷◌, ◌++◌}
use mathlib.Core.Option.{some}
use lib.Dec.{eqb}
use lib.ListN.{length, get_or, get_elem?, replicate}
use borrow.Author.Tests.{ne_eqb}
use Rattle.grammar.specs.Rewriting.{Rule, Lexical, Spine}
use Rattle.grammar.specs.Names.{left_name}
use Rattle.grammar.specs.Chart.{Record}
use Rattle.layout.specs.Card.{max_nonterminals}
use Rattle.chart_model.specs.Build.{places_from, is_of, is_bare_of, places, bare_places, by_rule}
use Rattle.chart_model.proofs.BuildLaws.{places_from-append}
use Rattle.chart_model.proofs.FillModel.{IsCell, Grown, same, more, places-other, bares-other}
use Rattle.chart_model.proofs.Absent.{concat_map-none, choice-none, action-none}
use Rattle.bits.specs.Bits.{bit_of}
use Rattle.bits.proofs.BitLaws.{bit_of-zero, zero-at}
use Rattle.bits.proofs.BitSets.{and_zero, and_one, bit-one}
use Rattle.sets.specs.Places.{bounds, meeting_at, splits_at, spans_at, first_at, second_at, set_count, OnlyClasses, OnlyMeeting, OnlySpans}
use Rattle.sets.specs.Classes.{Classified}
use Rattle.sets.specs.Spans.{FirstAbsent, SecondAbsent, Sorted, both_at, Met, Splits, Noted}
use Rattle.sets.proofs.ClassLaws.{FirstSide, FirstDependent, SecondSide, SecondDependent}
use Rattle.sets.proofs.ClassLaws.{first-side-has, first-side-only, first-dependent-has, first-dependent-only}
use Rattle.sets.proofs.ClassLaws.{second-side-has, second-side-only, second-dependent-has, second-dependent-only}
use Rattle.sets.proofs.RowLaws.{rows_none, rows-kept}

-- A rule that lacks an element at a split adds nothing there; nor does one of another left side.
pub absent-first : (b : List Record) (A i k j p : ℕ) (r : Rule) → FirstAbsent b i k r → by_rule b A i k j p r ≡ []
absent-first b A i k j p (Lexical A' w) h = refl
absent-first b A i k j p (Spine A' a (B ∷ []) D []) h = choice-none (eqb A' A) _ (rw h)
absent-first b A i k j p (Spine A' a (B ∷ []) D (C ∷ after)) h = refl
absent-first b A i k j p (Spine A' a (B ∷ C ∷ before) D after) h = refl
absent-first b A i k j p (Spine A' a [] D []) h = refl
absent-first b A i k j p (Spine A' a [] D (B ∷ [])) h =
    choice-none (eqb A' A) _ (concat_map-none _ (bare_places b B k j) (λ x. action-none b a D i k A i j p x h))
absent-first b A i k j p (Spine A' a [] D (B ∷ C ∷ after)) h = refl

pub absent-second : (b : List Record) (A i k j p : ℕ) (r : Rule) → SecondAbsent b k j r → by_rule b A i k j p r ≡ []
absent-second b A i k j p (Lexical A' w) h = refl
absent-second b A i k j p (Spine A' a (B ∷ []) D []) h =
    choice-none (eqb A' A) _ (concat_map-none _ (bare_places b B i k) (λ x. action-none b a D k j A i j p x h))
absent-second b A i k j p (Spine A' a (B ∷ []) D (C ∷ after)) h = refl
absent-second b A i k j p (Spine A' a (B ∷ C ∷ before) D after) h = refl
absent-second b A i k j p (Spine A' a [] D []) h = refl
absent-second b A i k j p (Spine A' a [] D (B ∷ [])) h = choice-none (eqb A' A) _ (rw h)
absent-second b A i k j p (Spine A' a [] D (B ∷ C ∷ after)) h = refl

pub not_own : (b : List Record) (A i k j p : ℕ) (r : Rule) → (left_name r ≡ A → ⊥) → by_rule b A i k j p r ≡ []
not_own b A i k j p (Lexical A' w) h = refl
not_own b A i k j p (Spine A' a (B ∷ []) D []) h = rw (ne_eqb A' A h, by_rule)
not_own b A i k j p (Spine A' a (B ∷ []) D (C ∷ after)) h = refl
not_own b A i k j p (Spine A' a (B ∷ C ∷ before) D after) h = refl
not_own b A i k j p (Spine A' a [] D []) h = refl
not_own b A i k j p (Spine A' a [] D (B ∷ [])) h = rw (ne_eqb A' A h, by_rule)
not_own b A i k j p (Spine A' a [] D (B ∷ C ∷ after)) h = refl

-- No element is there in a chart without records.
first-empty : (i k : ℕ) (r : Rule) → FirstAbsent [] i k r
first-empty i k (Lexical A w) = tt
first-empty i k (Spine A a [] D after) = refl
first-empty i k (Spine A a (B ∷ before) D after) = refl

second_empty : (k j : ℕ) (r : Rule) → SecondAbsent [] k j r
second_empty k j (Lexical A w) = tt
second_empty k j (Spine A a [] D []) = tt
second_empty k j (Spine A a [] D (B ∷ after)) = refl
second_empty k j (Spine A a (B ∷ before) D after) = refl

-- Before the first cell: the sets of the card in a table that was all 0.
pub sorted_none : (g : List Rule) (n : ℕ) (old sets : List ℕ) → set_count n ≤ length old → old ≡ replicate (length old) 0 → OnlyClasses old sets
    → Sorted g n [] sets
sorted_none g n old sets long none only =
    record {
      rows = rows_none n sets (omega (arith, only.0)) zeros;
      firsts = λ p r i k e l m z. first-empty i k r;
      firsts_there = λ p r i k e l m o h. absurd (omega (arith, ap (bit_of p) (zeros (first_at i k) (omega arith)), bit_of-zero p, o));
      seconds = λ p r k j e l m z. second_empty k j r;
      seconds_there = λ p r k j e l m o h. absurd (omega (arith, ap (bit_of p) (zeros (second_at k j) (omega arith)), bit_of-zero p, o));
    }
  where
    zeros : (s : ℕ) → spans_at ≤ s → get_or sets s 0 ≡ 0
    zeros s h = only.1 s (omega arith) ∙ (ap (λ (l : List ℕ). get_or l s 0) none ∙ zero-at (length old) s)

-- Tables that agree in the sets of the spans.
pub sorted-meeting : {g : List Rule} {n : ℕ} {b : List Record} {old new : List ℕ} → Sorted g n b old → OnlyMeeting old new → Sorted g n b new
sorted-meeting {old = old} {new} t only =
    record {
      rows = rows-kept t.rows only.0 kept;
      firsts = λ p r i k e l m z. t.firsts p r i k e l m (was p (first_at i k) (omega arith) ∙ z);
      firsts_there = λ p r i k e l m o. t.firsts_there p r i k e l m (was p (first_at i k) (omega arith) ∙ o);
      seconds = λ p r k j e l m z. t.seconds p r k j e l m (was p (second_at k j) (omega arith) ∙ z);
      seconds_there = λ p r k j e l m o. t.seconds_there p r k j e l m (was p (second_at k j) (omega arith) ∙ o);
    }
  where
    kept : (s : ℕ) → spans_at ≤ s → get_or new s 0 ≡ get_or old s 0
    kept s h = only.1 s (inr h)

    was : (p s : ℕ) → spans_at ≤ s → bit_of p (get_or old s 0) ≡ bit_of p (get_or new s 0)
    was p s h = sym (ap (bit_of p) (kept s h))

-- What meets, in terms of the chart, reads only the sets of the span in hand.
pub splits-spans : {g : List Rule} {b : List Record} {i j : ℕ} {old new : List ℕ} → j < bounds → Splits g b i j old → OnlySpans old new
    → Splits g b i j new
splits-spans {j = j} {old} {new} few t only =
    record {
      inside = λ k o. t.inside k (at-splits k ∙ o);
      absent = λ p r k e ik kj h. t.absent p r k e ik kj (elim h [
        | inl z ↦ inl (at-splits k ∙ z)
        | inr z ↦ inr (at-meeting p k kj ∙ z)
      ]);
      there = λ p r k e o h. let x = at-splits k ∙ o in t.there p r k e x (at-meeting p k (t.inside k x).1 ∙ h);
    }
  where
    at-splits : (k : ℕ) → bit_of k (get_or old splits_at 0) ≡ bit_of k (get_or new splits_at 0)
    at-splits k = sym (ap (bit_of k) (only.1 splits_at (omega arith)))

    at-meeting : (p k : ℕ) → k < j → bit_of p (get_or old (meeting_at k) 0) ≡ bit_of p (get_or new (meeting_at k) 0)
    at-meeting p k h = sym (ap (bit_of p) (only.1 (meeting_at k) (omega arith)))

-- What is missing is the same in charts with the same positions over the span.
abbrev SameOver : List Record → List Record → ℕ → ℕ → Type 0
SameOver b c i k = ((B : ℕ) → places b B i k ≡ places c B i k) × ((B : ℕ) → bare_places b B i k ≡ bare_places c B i k)

same_back : (b c : List Record) (i k : ℕ) → SameOver b c i k → SameOver c b i k
same_back b c i k (p, q) = (λ B. sym (p B), λ B. sym (q B))

first-kept : (b c : List Record) (i k : ℕ) (r : Rule) → SameOver b c i k → FirstAbsent c i k r → FirstAbsent b i k r
first-kept b c i k (Lexical A w) s h = tt
first-kept b c i k (Spine A a [] D after) s h = s.0 D ∙ h
first-kept b c i k (Spine A a (B ∷ before) D after) s h = s.1 B ∙ h

second-kept : (b c : List Record) (k j : ℕ) (r : Rule) → SameOver b c k j → SecondAbsent c k j r → SecondAbsent b k j r
second-kept b c k j (Lexical A w) s h = tt
second-kept b c k j (Spine A a [] D []) s h = tt
second-kept b c k j (Spine A a [] D (B ∷ after)) s h = s.1 B ∙ h
second-kept b c k j (Spine A a (B ∷ before) D after) s h = s.0 D ∙ h

grown-same : {P : ℕ → ℕ → ℕ → Type 0} {c b : List Record} (i k : ℕ) → ((B : ℕ) → P B i k → ⊥) → Grown P c b → SameOver b c i k
grown-same i k out grown = (λ B. places-other B i k (out B) grown, λ B. bares-other B i k (out B) grown)

-- A test that no record of a chart passes, none passed before it grew.
left-empty : {A : Type 0} (l m : List A) → l ++ m ≡ [] → l ≡ []
left-empty [] m e = refl
left-empty (x ∷ l) m e = absurd (cons-nil e)
  where
    cons-nil : x ∷ (l ++ m) ≡ [] → ⊥
    cons-nil e = omega (arith, ap length e)

grown-none : {P : ℕ → ℕ → ℕ → Type 0} {c b : List Record} (test : Record → Bool) → Grown P c b → places_from 0 test b ≡ []
    → places_from 0 test c ≡ []
grown-none test same e = e
grown-none test (more {b} r g i new) e =
    grown-none test g (left-empty (places_from 0 test b) _ (sym (places_from-append 0 test b (r ∷ [])) ∙ e))

first-grown : {P : ℕ → ℕ → ℕ → Type 0} {c b : List Record} (i k : ℕ) (r : Rule) → Grown P c b → FirstAbsent b i k r → FirstAbsent c i k r
first-grown i k (Lexical A w) g h = tt
first-grown i k (Spine A a [] D after) g h = grown-none (is_of D i k) g h
first-grown i k (Spine A a (B ∷ before) D after) g h = grown-none (is_bare_of B i k) g h

second-grown : {P : ℕ → ℕ → ℕ → Type 0} {c b : List Record} (k j : ℕ) (r : Rule) → Grown P c b → SecondAbsent b k j r → SecondAbsent c k j r
second-grown k j (Lexical A w) g h = tt
second-grown k j (Spine A a [] D []) g h = tt
second-grown k j (Spine A a [] D (B ∷ after)) g h = grown-none (is_bare_of B k j) g h
second-grown k j (Spine A a (B ∷ before) D after) g h = grown-none (is_of D k j) g h

-- The sets of a chart that one cell was added to.
module _ (g : List Rule) (n A i j : ℕ) (few : A < max_nonterminals) (ij : i < j) (jn : j ≤ n) {c b : List Record}
    (grown : Grown (IsCell A i j) c b) (sets new : List ℕ) (bare : ℕ) (classes : Classified g sets) (old : Sorted g n c sets)
    (noted : Noted n A i j bare sets new) (some-there : places b A i j ≡ [] → ⊥) (lone : bare ≡ 0 → bare_places b A i j ≡ [])
    (bared : (bare ≡ 0 → ⊥) → bare_places b A i j ≡ [] → ⊥) where
  places-apart : (B : ℕ) → (B ≡ A → ⊥) → places b B i j ≡ places c B i j
  places-apart B d = places-other B i j (λ x. d x.0) grown

  bares-apart : (B : ℕ) → (B ≡ A → ⊥) → bare_places b B i j ≡ bare_places c B i j
  bares-apart B d = bares-other B i j (λ x. d x.0) grown

  bares-here : (B : ℕ) → B ≡ A → ((bare ≡ 0 → ⊥) → ⊥) → bare_places b B i j ≡ []
  bares-here B e h = elim (ℕ_discrete bare 0) [
    | yes z ↦ rw e (lone z)
    | no d ↦ absurd (h d)
  ]

  first-here : (p : ℕ) (r : Rule) → get_elem? g p ≡ some r → bit_of p (get_or new (first_at i j) 0) ≡ 0 → FirstAbsent b i j r
  first-here p (Lexical A' w) e z = tt
  first-here p (Spine A' a [] D after) e z = elim (ℕ_discrete D A) [
    | yes q ↦ absurd (omega (arith, (noted.firsts p z).1, first-dependent-has classes p e A few q))
    | no d ↦ places-apart D d ∙ old.firsts p _ i j e ij jn (noted.firsts p z).0
  ]
  first-here p (Spine A' a (B ∷ before) D after) e z = elim (ℕ_discrete B A) [
    | yes q ↦ bares-here B q (λ d. omega (arith, (noted.firsts p z).2 d, first-side-has classes p e A few q))
    | no d ↦ bares-apart B d ∙ old.firsts p _ i j e ij jn (noted.firsts p z).0
  ]

  second-here : (p : ℕ) (r : Rule) → get_elem? g p ≡ some r → bit_of p (get_or new (second_at i j) 0) ≡ 0 → SecondAbsent b i j r
  second-here p (Lexical A' w) e z = tt
  second-here p (Spine A' a [] D []) e z = tt
  second-here p (Spine A' a [] D (B ∷ after)) e z = elim (ℕ_discrete B A) [
    | yes q ↦ bares-here B q (λ d. omega (arith, (noted.seconds p z).2 d, second-side-has classes p e A few q))
    | no d ↦ bares-apart B d ∙ old.seconds p _ i j e ij jn (noted.seconds p z).0
  ]
  second-here p (Spine A' a (B ∷ before) D after) e z = elim (ℕ_discrete D A) [
    | yes q ↦ absurd (omega (arith, (noted.seconds p z).1, second-dependent-has classes p e A few q))
    | no d ↦ places-apart D d ∙ old.seconds p _ i j e ij jn (noted.seconds p z).0
  ]

  -- The other way: a production that came in has its element among the cell's records.
  dependent-first : (r : Rule) → FirstDependent A r → FirstAbsent b i j r → ⊥
  dependent-first (Lexical A' w) e h = e
  dependent-first (Spine A' a [] D after) e h = some-there (subst (λ (B : ℕ). places b B i j ≡ []) e h)
  dependent-first (Spine A' a (B ∷ before) D after) e h = e

  side-first : (r : Rule) → FirstSide A r → (bare ≡ 0 → ⊥) → FirstAbsent b i j r → ⊥
  side-first (Lexical A' w) e d h = e
  side-first (Spine A' a [] D after) e d h = e
  side-first (Spine A' a (B ∷ before) D after) e d h = bared d (subst (λ (B : ℕ). bare_places b B i j ≡ []) e h)

  dependent-second : (r : Rule) → SecondDependent A r → SecondAbsent b i j r → ⊥
  dependent-second (Lexical A' w) e h = e
  dependent-second (Spine A' a [] D []) e h = e
  dependent-second (Spine A' a [] D (B ∷ after)) e h = e
  dependent-second (Spine A' a (B ∷ before) D after) e h = some-there (subst (λ (B : ℕ). places b B i j ≡ []) e h)

  side-second : (r : Rule) → SecondSide A r → (bare ≡ 0 → ⊥) → SecondAbsent b i j r → ⊥
  side-second (Lexical A' w) e d h = e
  side-second (Spine A' a [] D []) e d h = e
  side-second (Spine A' a [] D (B ∷ after)) e d h = bared d (subst (λ (B : ℕ). bare_places b B i j ≡ []) e h)
  side-second (Spine A' a (B ∷ before) D after) e d h = e

  first-there : (p : ℕ) (r : Rule) → get_elem? g p ≡ some r → bit_of p (get_or new (first_at i j) 0) ≡ 1 → FirstAbsent b i j r → ⊥
  first-there p r e o h = elim (noted.firsts_from p o) [
    | inl x ↦ old.firsts_there p r i j e ij jn x (first-grown i j r grown h)
    | inr y ↦ elim y [
      | inl x ↦ dependent-first r (first-dependent-only classes p e A few x) h
      | inr (d, x) ↦ side-first r (first-side-only classes p e A few x) d h
    ]
  ]

  second-there : (p : ℕ) (r : Rule) → get_elem? g p ≡ some r → bit_of p (get_or new (second_at i j) 0) ≡ 1 → SecondAbsent b i j r → ⊥
  second-there p r e o h = elim (noted.seconds_from p o) [
    | inl x ↦ old.seconds_there p r i j e ij jn x (second-grown i j r grown h)
    | inr y ↦ elim y [
      | inl x ↦ dependent-second r (second-dependent-only classes p e A few x) h
      | inr (d, x) ↦ side-second r (second-side-only classes p e A few x) d h
    ]
  ]

  abbrev Own : ℕ → ℕ → Type 0
  Own x y = (x ≡ i) × (y ≡ j)

  other-span : (x y : ℕ) → (Own x y → ⊥) → SameOver b c x y
  other-span x y d = grown-same x y (λ B (a, u, v). d (u, v)) grown

  -- Over the cell's own span, and over the others.
  by_span : (P : ℕ → ℕ → Type 0) (x y : ℕ) → P i j → ((Own x y → ⊥) → P x y) → P x y
  by_span P x y here there = elim (ℕ_discrete x i) [
    | yes u ↦ elim (ℕ_discrete y j) [
      | yes v ↦ subst₂ P (sym u) (sym v) here
      | no d ↦ there (λ h. d h.1)
    ]
    | no d ↦ there (λ h. d h.0)
  ]

  pub sorted_more : Sorted g n b new
  sorted_more =
      record {
        rows = noted.rows;
        firsts = λ p r x y e l m. by_span (λ (x y : ℕ). bit_of p (get_or new (first_at x y) 0) ≡ 0 → FirstAbsent b x y r) x y (first-here p r e)
            (λ d z. first-kept b c x y r (other-span x y d)
            (old.firsts p r x y e l m (sym (ap (bit_of p) (noted.firsts_kept x y l m d)) ∙ z)));
        firsts_there = λ p r x y e l m. by_span (λ (x y : ℕ). bit_of p (get_or new (first_at x y) 0) ≡ 1 → FirstAbsent b x y r → ⊥) x y
            (first-there p r e)
            (λ d o h. old.firsts_there p r x y e l m (sym (ap (bit_of p) (noted.firsts_kept x y l m d)) ∙ o) (first-grown x y r grown h));
        seconds = λ p r x y e l m. by_span (λ (x y : ℕ). bit_of p (get_or new (second_at x y) 0) ≡ 0 → SecondAbsent b x y r) x y (second-here p r e)
            (λ d z. second-kept b c x y r (other-span x y d)
            (old.seconds p r x y e l m (sym (ap (bit_of p) (noted.seconds_kept x y l m d)) ∙ z)));
        seconds_there = λ p r x y e l m. by_span (λ (x y : ℕ). bit_of p (get_or new (second_at x y) 0) ≡ 1 → SecondAbsent b x y r → ⊥) x y
            (second-there p r e)
            (λ d o h. old.seconds_there p r x y e l m (sym (ap (bit_of p) (noted.seconds_kept x y l m d)) ∙ o) (second-grown x y r grown h));
      }

-- The records of the span so far are no elements at its splits, so what the sets said of the chart before it still holds.
module _ {g : List Rule} {n : ℕ} (i j : ℕ) {sets : List ℕ} {P : ℕ → ℕ → ℕ → Type 0} {c b : List Record} (jn : j ≤ n)
    (sorted : Sorted g n c sets) (grown : Grown P c b) (inside : (B x y : ℕ) → P B x y → (x ≡ i) × (y ≡ j)) where
  left-same : (k : ℕ) → k < j → SameOver b c i k
  left-same k kj = grown-same i k (λ B h. omega (arith, inside B i k h)) grown

  right-same : (k : ℕ) → i < k → SameOver b c k j
  right-same k ik = grown-same k j (λ B h. omega (arith, inside B k j h)) grown

  pub split-missing : (k p : ℕ) (r : Rule) → i < k → k < j → get_elem? g p ≡ some r → bit_of p (both_at sets i k j) ≡ 0
      → FirstAbsent b i k r ⊎ SecondAbsent b k j r
  split-missing k p r ik kj e z = elim (and_zero p (get_or sets (first_at i k) 0) (get_or sets (second_at k j) 0) z) [
    | inl y ↦ inl (first-kept b c i k r (left-same k kj) (sorted.firsts p r i k e ik (omega arith) y))
    | inr y ↦ inr (second-kept b c k j r (right-same k ik) (sorted.seconds p r k j e kj jn y))
  ]

  split-there : (k p : ℕ) (r : Rule) → i < k → k < j → get_elem? g p ≡ some r → bit_of p (both_at sets i k j) ≡ 1
      → (FirstAbsent b i k r → ⊥) × (SecondAbsent b k j r → ⊥)
  split-there k p r ik kj e o =
      let (x, y) = and_one p (get_or sets (first_at i k) 0) (get_or sets (second_at k j) 0) o in (
        λ h. sorted.firsts_there p r i k e ik (omega arith) x (first-kept c b i k r (same_back b c i k (left-same k kj)) h),
        λ h. sorted.seconds_there p r k j e kj jn y (second-kept c b k j r (same_back b c k j (right-same k ik)) h),
      )

  pub met-splits : Met sets i j → Splits g b i j sets
  met-splits met =
      record {
        inside = met.inside;
        absent = λ p r k e ik kj h. split-missing k p r ik kj e (elim (ℕ_discrete (bit_of k (get_or sets splits_at 0)) 0) [
          | yes z ↦ ap (bit_of p) (met.none k ik kj z) ∙ bit_of-zero p
          | no d ↦ elim h [
            | inl z ↦ absurd (d z)
            | inr z ↦ sym (ap (bit_of p) (met.there k (bit-one k (get_or sets splits_at 0) d))) ∙ z
          ]
        ]);
        there = λ p r k e o h.
            let (ik, kj) = met.inside k o in split-there k p r ik kj e (sym (ap (bit_of p) (met.there k o)) ∙ h);
      }
