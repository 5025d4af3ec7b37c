-- The sets of spans: which productions have an element over a span, and which have both at a split.
use Rattle.std.specs.Prelude.{ℕ, ◌≤◌, ◌<◌, ◌≡◌, ◌⊎◌, List, [], ◌∷◌, length, get_or}
use Rattle.std.proofs.Math.Option.{some}
use Rattle.std.specs.Int.Bits.{bit_and}
use Rattle.std.proofs.Math.ListN.{get_elem?}
use Rattle.grammar.specs.Rewriting.{Rule, Lexical, Spine}
use Rattle.grammar.specs.Chart.{Record}
use Rattle.chart_model.specs.Build.{places, bare_places}
use Rattle.bits.specs.Bits.{bit_of}
use Rattle.sets.specs.Places.{first_side_at, first_dependent_at, second_side_at, second_dependent_at}
use Rattle.sets.specs.Places.{meeting_at, splits_at, first_at, second_at, row_at, column_at, set_count, OnlySpans}

-- The first element of a rule is missing over i to k; the second over k to j.
abbrev pub FirstAbsent : List Record → ℕ → ℕ → Rule → Type 0
FirstAbsent b i k (Lexical A w) = Unit {0}
FirstAbsent b i k (Spine A a [] D after) = places b D i k ≡ []
FirstAbsent b i k (Spine A a (B ∷ before) D after) = bare_places b B i k ≡ []

abbrev pub SecondAbsent : List Record → ℕ → ℕ → Rule → Type 0
SecondAbsent b k j (Lexical A w) = Unit {0}
SecondAbsent b k j (Spine A a [] D []) = Unit {0}
SecondAbsent b k j (Spine A a [] D (B ∷ after)) = bare_places b B k j ≡ []
SecondAbsent b k j (Spine A a (B ∷ before) D after) = places b D k j ≡ []

-- Rows and columns have every span whose set is not empty, and only ends and starts of spans.
pub record Rows (n : ℕ) (sets : List ℕ) : Type 0 where
  pub long : set_count n ≤ length sets
  pub ends : (i k : ℕ) → i < k → k ≤ n → bit_of k (get_or sets (row_at n i) 0) ≡ 0 → get_or sets (first_at i k) 0 ≡ 0
  pub starts : (k j : ℕ) → k < j → j ≤ n → bit_of k (get_or sets (column_at n j) 0) ≡ 0 → get_or sets (second_at k j) 0 ≡ 0
  pub ends_after : (i k : ℕ) → bit_of k (get_or sets (row_at n i) 0) ≡ 1 → (i < k) × (k ≤ n)
  pub starts_before : (k j : ℕ) → bit_of k (get_or sets (column_at n j) 0) ≡ 1 → (k < j) × (j ≤ n)

-- For each span: the productions whose first element is there, and those whose second is, and no others.
pub record Sorted (g : List Rule) (n : ℕ) (b : List Record) (sets : List ℕ) : Type 0 where
  pub rows : Rows n sets
  pub firsts : (p : ℕ) (r : Rule) (i k : ℕ) → get_elem? g p ≡ some r → i < k → k ≤ n → bit_of p (get_or sets (first_at i k) 0) ≡ 0
      → FirstAbsent b i k r
  pub firsts_there : (p : ℕ) (r : Rule) (i k : ℕ) → get_elem? g p ≡ some r → i < k → k ≤ n → bit_of p (get_or sets (first_at i k) 0) ≡ 1
      → FirstAbsent b i k r → ⊥
  pub seconds : (p : ℕ) (r : Rule) (k j : ℕ) → get_elem? g p ≡ some r → k < j → j ≤ n → bit_of p (get_or sets (second_at k j) 0) ≡ 0
      → SecondAbsent b k j r
  pub seconds_there : (p : ℕ) (r : Rule) (k j : ℕ) → get_elem? g p ≡ some r → k < j → j ≤ n → bit_of p (get_or sets (second_at k j) 0) ≡ 1
      → SecondAbsent b k j r → ⊥

-- What meets over i to j: the productions that have both elements at a split, by the sets of spans; the set of splits has every split where
-- there is one, and at these splits the table has them; and a set that has the productions of every split.
abbrev pub both_at : List ℕ → ℕ → ℕ → ℕ → ℕ
both_at sets i k j = bit_and (get_or sets (first_at i k) 0) (get_or sets (second_at k j) 0)

pub record Met (sets : List ℕ) (i j : ℕ) : Type 0 where
  pub inside : (k : ℕ) → bit_of k (get_or sets splits_at 0) ≡ 1 → (i < k) × (k < j)
  pub there : (k : ℕ) → bit_of k (get_or sets splits_at 0) ≡ 1 → get_or sets (meeting_at k) 0 ≡ both_at sets i k j
  pub none : (k : ℕ) → i < k → k < j → bit_of k (get_or sets splits_at 0) ≡ 0 → both_at sets i k j ≡ 0

abbrev pub Meets : List ℕ → ℕ → ℕ → ℕ → Type 0
Meets sets i j set = (p k : ℕ) → i < k → k < j → bit_of p set ≡ 0 → bit_of p (both_at sets i k j) ≡ 0

-- The same in terms of the chart: at a split that is left out, and for a production that a split lacks, one of the production's elements is
-- missing; a production that a split has has both.
pub record Splits (g : List Rule) (b : List Record) (i j : ℕ) (sets : List ℕ) : Type 0 where
  pub inside : (k : ℕ) → bit_of k (get_or sets splits_at 0) ≡ 1 → (i < k) × (k < j)
  pub absent : (p : ℕ) (r : Rule) (k : ℕ) → get_elem? g p ≡ some r → i < k → k < j
      → (bit_of k (get_or sets splits_at 0) ≡ 0) ⊎ (bit_of p (get_or sets (meeting_at k) 0) ≡ 0) → FirstAbsent b i k r ⊎ SecondAbsent b k j r
  pub there : (p : ℕ) (r : Rule) (k : ℕ) → get_elem? g p ≡ some r → bit_of k (get_or sets splits_at 0) ≡ 1
      → bit_of p (get_or sets (meeting_at k) 0) ≡ 1 → (FirstAbsent b i k r → ⊥) × (SecondAbsent b k j r → ⊥)

-- The splits that have production p and none of the productions `like`.
pub record SplitsOf (sets : List ℕ) (p like served : ℕ) : Type 0 where
  pub only : (k : ℕ) → bit_of k served ≡ 1 → bit_of k (get_or sets splits_at 0) ≡ 1
  pub left : (k : ℕ) → bit_of k (get_or sets splits_at 0) ≡ 1 → bit_of k served ≡ 0
      → (bit_of p (get_or sets (meeting_at k) 0) ≡ 0) ⊎ ((q : ℕ) × (bit_of q like ≡ 1) × (bit_of q (get_or sets (meeting_at k) 0) ≡ 1))

-- A cell's records are noted in the sets of its span: a bit is there afterwards if it was, or if the cell's own sets have it. The sets of
-- other spans are as they were, and rows and columns agree again.
pub record Noted (n A i j bare : ℕ) (old new : List ℕ) : Type 0 where
  pub elsewhere : OnlySpans old new
  pub rows : Rows n new
  pub firsts_kept : (i' k : ℕ) → i' < k → k ≤ n → ((i' ≡ i) × (k ≡ j) → ⊥) → get_or new (first_at i' k) 0 ≡ get_or old (first_at i' k) 0
  pub seconds_kept : (k j' : ℕ) → k < j' → j' ≤ n → ((k ≡ i) × (j' ≡ j) → ⊥) → get_or new (second_at k j') 0 ≡ get_or old (second_at k j') 0
  pub firsts : (p : ℕ) → bit_of p (get_or new (first_at i j) 0) ≡ 0
      → (bit_of p (get_or old (first_at i j) 0) ≡ 0) × (bit_of p (get_or old (first_dependent_at A) 0) ≡ 0)
      × ((bare ≡ 0 → ⊥) → bit_of p (get_or old (first_side_at A) 0) ≡ 0)
  pub firsts_from : (p : ℕ) → bit_of p (get_or new (first_at i j) 0) ≡ 1
      → (bit_of p (get_or old (first_at i j) 0) ≡ 1) ⊎ ((bit_of p (get_or old (first_dependent_at A) 0) ≡ 1)
      ⊎ ((bare ≡ 0 → ⊥) × (bit_of p (get_or old (first_side_at A) 0) ≡ 1)))
  pub seconds : (p : ℕ) → bit_of p (get_or new (second_at i j) 0) ≡ 0
      → (bit_of p (get_or old (second_at i j) 0) ≡ 0) × (bit_of p (get_or old (second_dependent_at A) 0) ≡ 0)
      × ((bare ≡ 0 → ⊥) → bit_of p (get_or old (second_side_at A) 0) ≡ 0)
  pub seconds_from : (p : ℕ) → bit_of p (get_or new (second_at i j) 0) ≡ 1
      → (bit_of p (get_or old (second_at i j) 0) ≡ 1) ⊎ ((bit_of p (get_or old (second_dependent_at A) 0) ≡ 1)
      ⊎ ((bare ≡ 0 → ⊥) × (bit_of p (get_or old (second_side_at A) 0) ≡ 1)))
