-- Rows and columns. A row has every span from its start whose first set is not empty, and a column every span to its end whose second set is
-- not; bits that go into a span's set go there with the span's bit, so that both stay so.
use Prim.Native.Nat.{ℕ, ◌+◌, ◌*◌, ◌%◌, ◌^◌, ◌≤◌, ◌<◌, max}
use native.Mathlib.Omega.{arith}
use native.Mathlib.Numerals.{add-one}
use native.Mathlib.Decide.{ℕ_discrete}
use mathlib.Core.Path.{◌≡◌, refl, sym, ap, subst₂, ◌∙◌}
use mathlib.Core.Logic.{◌⊎◌, inl, inr}
use mathlib.Core.List.{List}
use lib.Bits.{bit_or}
use lib.ListN.{length, get_or, set, length-set}
use lib.Seq.{get_or-set_other}
use Rattle.bits.specs.Bits.{bit_of}
use Rattle.bits.proofs.BitLaws.{bit_of-or, bit_of-zero, bit_of-below, one_shifted}
use Rattle.bits.proofs.BitSets.{bit-one}
use Rattle.records.specs.Cells.{spans, span_at}
use Rattle.records.proofs.TableLaws.{spans-twice, span_below, span_same}
use Rattle.sets.specs.Places.{first_side_at, first_dependent_at, second_side_at, second_dependent_at, spans_at, first_at, second_at, row_at, column_at, set_count}
use Rattle.sets.specs.Spans.{Rows, Noted}
use Rattle.sets.proofs.StoreLaws.{or_into, into-here, into-kept, with-there, with-others}

-- Rows and columns alike: for each x a line of the y with a set that is not empty at `cell x y`.
record Lined (Span : ℕ → ℕ → Type 0) (cell : ℕ → ℕ → ℕ) (line : ℕ → ℕ) (sets : List ℕ) : Type 0 where
  empty : (x y : ℕ) → Span x y → bit_of y (get_or sets (line x) 0) ≡ 0 → get_or sets (cell x y) 0 ≡ 0
  only : (x y : ℕ) → bit_of y (get_or sets (line x) 0) ≡ 1 → Span x y

module _ {Span : ℕ → ℕ → Type 0} {cell : ℕ → ℕ → ℕ} {line : ℕ → ℕ} {old : List ℕ} (l : Lined Span cell line old) where
  -- Stores elsewhere leave it so.
  lined-apart : (new : List ℕ) → ((x y : ℕ) → Span x y → get_or new (cell x y) 0 ≡ get_or old (cell x y) 0)
      → ((x : ℕ) → get_or new (line x) 0 ≡ get_or old (line x) 0) → Lined Span cell line new
  lined-apart new cells lines =
      record {
        empty = λ x y s z. cells x y s ∙ l.empty x y s (sym (ap (bit_of y) (lines x)) ∙ z);
        only = λ x y o. l.only x y (sym (ap (bit_of y) (lines x)) ∙ o);
      }

  -- And bits into one cell do where its line has it from then on.
  module _ (a b bits : ℕ) (span : Span a b) (one-cell : (x y : ℕ) → Span x y → cell x y ≡ cell a b → (x ≡ a) × (y ≡ b))
      (one_line : (x : ℕ) → line x ≡ line a → x ≡ a) (apart : (x y z : ℕ) → Span x y → cell x y ≡ line z → ⊥)
      (cell-there : cell a b < length old) (line-there : line a < length old) where
    abbrev half : List ℕ
    half = or_into old (cell a b) bits

    abbrev new : List ℕ
    new = or_into half (line a) (2 ^ b)

    there : line a < length half
    there = simp length-set line-there

    line_same : (x : ℕ) → get_or half (line x) 0 ≡ get_or old (line x) 0
    line_same x = get_or-set_other old (cell a b) (line x) _ 0 (λ e. apart a b x span (sym e))

    lined-put : Lined Span cell line new
    lined-put = record { empty = cleared; only = within }
      where
        cleared : (x y : ℕ) → Span x y → bit_of y (get_or new (line x) 0) ≡ 0 → get_or new (cell x y) 0 ≡ 0
        cleared x y s z = elim (ℕ_discrete (cell x y) (cell a b)) [
          | yes e ↦ let (p, q) = one-cell x y s e in
              absurd (with-there half (line a) b there (subst₂ (λ (u v : ℕ). bit_of v (get_or new (line u) 0) ≡ 0) p q z))
          | no d ↦ get_or-set_other half (line a) (cell x y) _ 0 (apart x y a s)
              ∙ (get_or-set_other old (cell a b) (cell x y) _ 0 d
              ∙ l.empty x y s (sym (ap (bit_of y) (line_same x)) ∙ into-kept half (line a) (2 ^ b) there (line x) y z))
        ]

        was : (x y : ℕ) → (y ≡ b → ⊥) → bit_of y (get_or new (line x) 0) ≡ 1 → bit_of y (get_or old (line x) 0) ≡ 1
        was x y d o =
            bit-one y (get_or old (line x) 0)
            (λ z. absurd (omega (arith, with-others half (line a) b there (line x) y d (ap (bit_of y) (line_same x) ∙ z))))

        within : (x y : ℕ) → bit_of y (get_or new (line x) 0) ≡ 1 → Span x y
        within x y o = elim (ℕ_discrete (line x) (line a)) [
          | yes e ↦ elim (ℕ_discrete y b) [
            | yes q ↦ subst₂ Span (sym (one_line x e)) (sym q) span
            | no d ↦ l.only x y (was x y d o)
          ]
          | no d ↦ l.only x y (sym (ap (bit_of y) (get_or-set_other half (line a) (line x) _ 0 d ∙ line_same x)) ∙ o)
        ]

abbrev InRow : ℕ → ℕ → ℕ → Type 0
InRow n i k = (i < k) × (k ≤ n)

abbrev InColumn : ℕ → ℕ → ℕ → Type 0
InColumn n j k = (k < j) × (j ≤ n)

abbrev second_to : ℕ → ℕ → ℕ
second_to j k = second_at k j

module _ {n : ℕ} {sets : List ℕ} (r : Rows n sets) where
  row-lined : Lined (InRow n) first_at (row_at n) sets
  row-lined = record { empty = λ i k (a, b). r.ends i k a b; only = r.ends_after }

  column-lined : Lined (InColumn n) second_to (column_at n) sets
  column-lined = record { empty = λ j k (a, b). r.starts k j a b; only = λ j k. r.starts_before k j }

lined_rows : (n : ℕ) {sets : List ℕ} → set_count n ≤ length sets → Lined (InRow n) first_at (row_at n) sets
    → Lined (InColumn n) second_to (column_at n) sets → Rows n sets
lined_rows n long r c =
    record {
      long = long;
      ends = λ i k a b. r.empty i k (a, b);
      starts = λ k j a b. c.empty j k (a, b);
      ends_after = r.only;
      starts_before = λ k j. c.only j k;
    }

-- Sets of spans that are all 0, and tables that agree in them.
pub rows_none : (n : ℕ) (sets : List ℕ) → set_count n ≤ length sets → ((s : ℕ) → spans_at ≤ s → get_or sets s 0 ≡ 0) → Rows n sets
rows_none n sets long zeros =
    record {
      long = long;
      ends = λ i k a b z. zeros (first_at i k) (omega arith);
      starts = λ k j a b z. zeros (second_at k j) (omega arith);
      ends_after = λ i k o. absurd (omega (arith, ap (bit_of k) (zeros (row_at n i) (omega arith)), bit_of-zero k));
      starts_before = λ k j o. absurd (omega (arith, ap (bit_of k) (zeros (column_at n j) (omega arith)), bit_of-zero k));
    }

pub rows-kept : {n : ℕ} {old new : List ℕ} → Rows n old → length new ≡ length old → ((s : ℕ) → spans_at ≤ s → get_or new s 0 ≡ get_or old s 0)
    → Rows n new
rows-kept {n} {old} {new} r e same =
    lined_rows n (omega (arith, r.long))
    (lined-apart (row-lined r) new (λ x y s. same (first_at x y) (omega arith)) (λ x. same (row_at n x) (omega arith)))
    (lined-apart (column-lined r) new (λ x y s. same (second_at y x) (omega arith)) (λ x. same (column_at n x) (omega arith)))

-- Bits went into the set at a place among those of the spans, and rows and columns agree.
pub record Put (n at bits : ℕ) (old new : List ℕ) : Type 0 where
  pub same_length : length new ≡ length old
  pub rows : Rows n new
  pub elsewhere : (s : ℕ) → s < spans_at + 2 * spans n → (s ≡ at → ⊥) → get_or new s 0 ≡ get_or old s 0
  pub there : (p : ℕ) → bit_of p (get_or new at 0) ≡ max (bit_of p (get_or old at 0)) (bit_of p bits)

pub put-none : {n at bits : ℕ} {old new : List ℕ} → Rows n old → bits ≡ 0 → new ≡ old → Put n at bits old new
put-none {n} {at} {bits} {old} r z e =
    rw e
    record {
      same_length = refl;
      rows = r;
      elsewhere = λ s h d. refl;
      there = λ p. omega (arith, ap (bit_of p) z, bit_of-zero p);
    }

-- What two stores leave, one at a place among the sets of the spans and one past them.
module _ (n at place bits more : ℕ) (old : List ℕ) (low : at < spans_at + 2 * spans n) (high : spans_at + 2 * spans n ≤ place)
    (long : place < length old) where
  two-stores : Rows n (or_into (or_into old at bits) place more) → Put n at bits old (or_into (or_into old at bits) place more)
  two-stores r =
      let half = or_into old at bits in
      record {
        same_length = simp length-set;
        rows = r;
        elsewhere = λ s h d. get_or-set_other half place s _ 0 (λ e. absurd (omega arith)) ∙ get_or-set_other old at s _ 0 d;
        there = λ p. ap (bit_of p) (get_or-set_other half place at _ 0 (λ e. absurd (omega arith))) ∙ into-here old at bits (omega arith) p;
      }

  -- Places other than the two.
  stores_apart : (s : ℕ) → (s ≡ at → ⊥) → (s ≡ place → ⊥) → get_or (or_into (or_into old at bits) place more) s 0 ≡ get_or old s 0
  stores_apart s a b = get_or-set_other (or_into old at bits) place s _ 0 b ∙ get_or-set_other old at s _ 0 a

module _ (n i j bits : ℕ) {old : List ℕ} (r : Rows n old) (ij : i < j) (jn : j ≤ n) where
  below : span_at i j < spans n
  below = span_below n i j ij jn

  put_first : Put n (first_at i j) bits old (or_into (or_into old (first_at i j) bits) (row_at n i) (2 ^ j))
  put_first =
      two-stores n (first_at i j) (row_at n i) bits (2 ^ j) old (omega (arith, below)) (omega arith) (omega (arith, r.long))
      (lined_rows n (simp length-set r.long)
      (lined-put (row-lined r) i j bits (ij, jn)
      (λ x y (a, b) e. let (u, v) = span_same n x y i j a b ij jn (omega arith) in (u, v)) (λ x e. omega arith)
      (λ x y z (a, b) e. omega (arith, span_below n x y a b)) (omega (arith, below, r.long)) (omega (arith, r.long)))
      (lined-apart (column-lined r) _
      (λ x y (a, b). stores (second_to x y) (λ e. absurd (omega arith)) (λ e. absurd (omega (arith, span_below n y x a b))))
      (λ x. stores (column_at n x) (λ e. absurd (omega (arith, below))) (λ e. absurd (omega arith)))))
    where
      stores : (s : ℕ) → (s ≡ first_at i j → ⊥) → (s ≡ row_at n i → ⊥)
          → get_or (or_into (or_into old (first_at i j) bits) (row_at n i) (2 ^ j)) s 0 ≡ get_or old s 0
      stores = stores_apart n (first_at i j) (row_at n i) bits (2 ^ j) old (omega (arith, below)) (omega arith) (omega (arith, r.long))

  put_second : Put n (second_at i j) bits old (or_into (or_into old (second_at i j) bits) (column_at n j) (2 ^ i))
  put_second =
      two-stores n (second_at i j) (column_at n j) bits (2 ^ i) old (omega (arith, below)) (omega arith) (omega (arith, r.long))
      (lined_rows n (simp length-set r.long)
      (lined-apart (row-lined r) _
      (λ x y (a, b). stores (first_at x y) (λ e. absurd (omega arith)) (λ e. absurd (omega (arith, span_below n x y a b))))
      (λ x. stores (row_at n x) (λ e. absurd (omega (arith, below))) (λ e. absurd (omega arith))))
      (lined-put (column-lined r) j i bits (ij, jn)
      (λ x y (a, b) e. let (u, v) = span_same n y x i j a b ij jn (omega arith) in (v, u)) (λ x e. omega arith)
      (λ x y z (a, b) e. omega (arith, span_below n y x a b)) (omega (arith, below, r.long)) (omega (arith, r.long))))
    where
      stores : (s : ℕ) → (s ≡ second_at i j → ⊥) → (s ≡ column_at n j → ⊥)
          → get_or (or_into (or_into old (second_at i j) bits) (column_at n j) (2 ^ i)) s 0 ≡ get_or old s 0
      stores = stores_apart n (second_at i j) (column_at n j) bits (2 ^ i) old (omega (arith, below)) (omega arith) (omega (arith, r.long))

-- The same as the code stores it.
pub first-put : (n i j : ℕ) {bits at row : ℕ} {old new : List ℕ} → Rows n old → i < j → j ≤ n → n ≤ 24 → at ≡ first_at i j
    → row ≡ row_at n i → new ≡ or_into (or_into old at bits) row ((1 * 2 ^ j) % 2 ^ 64) → Put n (first_at i j) bits old new
first-put n i j {bits} r ij jn small e f g = rw (g, one_shifted j 64 (omega arith), e, f) (put_first n i j bits r ij jn)

pub second-put : (n i j : ℕ) {bits at column : ℕ} {old new : List ℕ} → Rows n old → i < j → j ≤ n → n ≤ 24 → at ≡ second_at i j
    → column ≡ column_at n j → new ≡ or_into (or_into old at bits) column ((1 * 2 ^ i) % 2 ^ 64) → Put n (second_at i j) bits old new
second-put n i j {bits} r ij jn small e f g = rw (g, one_shifted i 64 (omega arith), e, f) (put_second n i j bits r ij jn)

-- A cell's two sets: that of its dependents, and where it has a bare item that of its sides as well.
abbrev Covers : List ℕ → ℕ → ℕ → ℕ → ℕ → Type 0
Covers sets always bared bare set = ((bare ≡ 0) × (set ≡ get_or sets always 0))
    ⊎ ((bare ≡ 0 → ⊥) × (set ≡ bit_or (get_or sets always 0) (get_or sets bared 0)))

abbrev pub CellSets : List ℕ → ℕ → ℕ → ℕ → ℕ → Type 0
CellSets sets A bare first second =
    Covers sets (first_dependent_at A) (first_side_at A) bare first × Covers sets (second_dependent_at A) (second_side_at A) bare second

pub sets-plain : (sets : List ℕ) (A bare : ℕ) {first second : ℕ} → bare ≡ 0 → first ≡ get_or sets (first_dependent_at A) 0
    → second ≡ get_or sets (second_dependent_at A) 0 → CellSets sets A bare first second
sets-plain sets A bare z e d = (inl (z, e), inl (z, d))

pub sets-bare : (sets : List ℕ) (A bare : ℕ) {first second : ℕ} → (bare ≡ 0 → ⊥)
    → first ≡ bit_or (get_or sets (first_dependent_at A) 0) (get_or sets (first_side_at A) 0)
    → second ≡ bit_or (get_or sets (second_dependent_at A) 0) (get_or sets (second_side_at A) 0) → CellSets sets A bare first second
sets-bare sets A bare z e d = (inr (z, e), inr (z, d))

module _ (sets : List ℕ) (always bared : ℕ) {bare set : ℕ} (p : ℕ) (c : Covers sets always bared bare set) where
  cover-lacks : bit_of p set ≡ 0 → (bit_of p (get_or sets always 0) ≡ 0) × ((bare ≡ 0 → ⊥) → bit_of p (get_or sets bared 0) ≡ 0)
  cover-lacks z = elim c [
    | inl (x, e) ↦ (sym (ap (bit_of p) e) ∙ z, λ d. absurd (d x))
    | inr (x, e) ↦
        let both = bit_of-or p (get_or sets always 0) (get_or sets bared 0) in
        (omega (arith, both, ap (bit_of p) e, z), λ d. omega (arith, both, ap (bit_of p) e, z))
  ]

  cover-from : bit_of p set ≡ 1 → (bit_of p (get_or sets always 0) ≡ 1) ⊎ ((bare ≡ 0 → ⊥) × (bit_of p (get_or sets bared 0) ≡ 1))
  cover-from o = elim c [
    | inl (x, e) ↦ inl (sym (ap (bit_of p) e) ∙ o)
    | inr (x, e) ↦ elim (ℕ_discrete (bit_of p (get_or sets always 0)) 1) [
      | yes y ↦ inl y
      | no d ↦ inr (
        x,
        omega (
          arith,
          bit_of-or p (get_or sets always 0) (get_or sets bared 0),
          ap (bit_of p) e,
          o,
          d,
          bit_of-below p (get_or sets always 0),
          bit_of-below p (get_or sets bared 0),
        ),
      )
    ]
  ]

-- A bit that came into a set: it was there, or it is one of those that went in.
module _ {n at bits : ℕ} {old new : List ℕ} (x : Put n at bits old new) (p : ℕ) where
  put-lacks : bit_of p (get_or new at 0) ≡ 0 → (bit_of p (get_or old at 0) ≡ 0) × (bit_of p bits ≡ 0)
  put-lacks z = (omega (arith, x.there p, z), omega (arith, x.there p, z))

  put-from : bit_of p (get_or new at 0) ≡ 1 → (bit_of p (get_or old at 0) ≡ 1) ⊎ (bit_of p bits ≡ 1)
  put-from o = elim (ℕ_discrete (bit_of p (get_or old at 0)) 1) [
    | yes y ↦ inl y
    | no d ↦ inr (omega (arith, x.there p, o, d, bit_of-below p (get_or old at 0), bit_of-below p bits))
  ]

-- They go into the sets of the span, one after the other.
pub noted : {n : ℕ} (A i j bare : ℕ) {old mid new : List ℕ} {first second : ℕ} → i < j → j ≤ n
    → Put n (first_at i j) first old mid → Put n (second_at i j) second mid new → CellSets old A bare first second
    → Noted n A i j bare old new
noted {n} A i j bare {old} {mid} {new} ij jn x y (f, g) =
    record {
      elsewhere = (y.same_length ∙ x.same_length, λ s h. kept s (omega arith) (λ e. absurd (omega arith)) (λ e. absurd (omega arith)));
      rows = y.rows;
      firsts_kept = λ i' k a b d.
          kept (first_at i' k) (omega (arith, span_below n i' k a b)) (λ e. d (span_same n i' k i j a b ij jn (omega arith)))
          (λ e. absurd (omega arith));
      seconds_kept = λ k j' a b d.
          kept (second_at k j') (omega (arith, span_below n k j' a b)) (λ e. absurd (omega arith))
          (λ e. d (span_same n k j' i j a b ij jn (omega arith)));
      firsts = λ p z.
          let (u, v) = put-lacks x p (sym (ap (bit_of p) first-same) ∙ z) in
          let (k, l) = cover-lacks old (first_dependent_at A) (first_side_at A) p f v in (u, k, l);
      firsts_from = λ p o. elim (put-from x p (sym (ap (bit_of p) first-same) ∙ o)) [
        | inl u ↦ inl u
        | inr v ↦ inr (cover-from old (first_dependent_at A) (first_side_at A) p f v)
      ];
      seconds = λ p z.
          let (u, v) = put-lacks y p z in
          let (k, l) = cover-lacks old (second_dependent_at A) (second_side_at A) p g v in (sym (ap (bit_of p) second-same) ∙ u, k, l);
      seconds_from = λ p o. elim (put-from y p o) [
        | inl u ↦ inl (sym (ap (bit_of p) second-same) ∙ u)
        | inr v ↦ inr (cover-from old (second_dependent_at A) (second_side_at A) p g v)
      ];
    }
  where
    low : span_at i j < spans n
    low = span_below n i j ij jn

    kept : (s : ℕ) → s < spans_at + 2 * spans n → (s ≡ first_at i j → ⊥) → (s ≡ second_at i j → ⊥) → get_or new s 0 ≡ get_or old s 0
    kept s h a b = y.elsewhere s h b ∙ x.elsewhere s h a

    first-same : get_or new (first_at i j) 0 ≡ get_or mid (first_at i j) 0
    first-same = y.elsewhere (first_at i j) (omega (arith, low)) (λ e. absurd (omega arith))

    second-same : get_or mid (second_at i j) 0 ≡ get_or old (second_at i j) 0
    second-same = x.elsewhere (second_at i j) (omega (arith, low)) (λ e. absurd (omega arith))

-- Where rows and columns stand in the code.
pub rows_at : (n : ℕ) → n * (n + 1) ≡ 2 * spans n
rows_at n = ap (λ (m : ℕ). n * m) (add-one n) ∙ spans-twice n
