-- The table of cells. Its four numbers a cell stand at places of their own, so a store to one of them leaves the others as they are, and
-- so those of other cells; and a table with the same ranges says where the same records stand.
use Prim.Native.Nat.{ℕ, suc, ◌+◌, ◌*◌, ◌-◌, ◌≤◌}
use native.Mathlib.Omega.{arith}
use mathlib.Core.Path.{◌≡◌, refl, sym, ap, ◌∙◌, subst}
use mathlib.Core.Bool.{Bool, true, false, cond}
use mathlib.Core.List.{List}
use Rattle.std.specs.Prelude.{Option, Some, None}
use lib.ListN.{length, get_or, set, length-set}
use lib.Seq.{get_or-set_same, get_or-set_other}
use Rattle.grammar.specs.Chart.{Record}
use Rattle.layout.specs.Bytes.{counted}
use Rattle.chart_model.specs.Build.{places, bare_places}
use Rattle.records.specs.declared.cells.Range.{Range}
use Rattle.records.specs.Cells.{cell_at, number_of, numbered_by, range_in, with_range, cover_in, with_cover, covered_in, noted_anew, bare_in, Indexed}

pub same-range : {f t f' t' : ℕ} {b b' : Option ℕ} → f ≡ f' → t ≡ t' → b ≡ b'
    → ◌≡◌ {A = Range} (record { from = f; to = t; bare = b }) (record { from = f'; to = t'; bare = b' })
same-range p q r = λ i. record { from = p i; to = q i; bare = r i }

pub number-back : (o : Option ℕ) → numbered_by (number_of o) ≡ o
number-back None = refl
number-back (Some m) = refl

-- A cover is noted.
module _ (cells : List ℕ) (cell cover : ℕ) where
  pub cover-length : length (with_cover cells cell cover) ≡ length cells
  cover-length = length-set cells (4 * cell + 3) cover

  pub cover-same : 4 * cell + 4 ≤ length cells → cover_in (with_cover cells cell cover) cell ≡ cover
  cover-same h = get_or-set_same cells (4 * cell + 3) cover 0 (omega arith)

  kept : (k : ℕ) → (k ≡ 4 * cell + 3 → ⊥) → get_or (with_cover cells cell cover) k 0 ≡ get_or cells k 0
  kept k d = get_or-set_other cells (4 * cell + 3) k cover 0 d

  pub cover-other : (at : ℕ) → (at ≡ cell → ⊥) → cover_in (with_cover cells cell cover) at ≡ cover_in cells at
  cover-other at d = kept (4 * at + 3) (λ e. d (omega arith))

  pub cover-range : (at : ℕ) → range_in (with_cover cells cell cover) at ≡ range_in cells at
  cover-range at =
      same-range (kept (4 * at) (λ e. absurd (omega arith))) (kept (4 * at + 1) (λ e. absurd (omega arith)))
      (ap numbered_by (kept (4 * at + 2) (λ e. absurd (omega arith))))

-- The same where a cell was looked at.
module _ (cells : List ℕ) (coverer cell : ℕ) where
  pub noted-length : length (noted_anew cells coverer cell) ≡ length cells
  noted-length = go (covered_in cells coverer cell)
    where
      go : (t : Bool) → length (cond t (with_cover cells cell (suc coverer)) cells) ≡ length cells
      go true = cover-length cells cell (suc coverer)
      go false = refl

  pub noted-range : (at : ℕ) → range_in (noted_anew cells coverer cell) at ≡ range_in cells at
  noted-range at = go (covered_in cells coverer cell)
    where
      go : (t : Bool) → range_in (cond t (with_cover cells cell (suc coverer)) cells) at ≡ range_in cells at
      go true = cover-range cells cell (suc coverer) at
      go false = refl

-- A range is entered.
module _ (cells : List ℕ) (cell : ℕ) (r : Range) where
  abbrev one : List ℕ
  one = set cells (4 * cell) r.from

  abbrev two : List ℕ
  two = set one (4 * cell + 1) r.to

  one-length : length one ≡ length cells
  one-length = length-set cells (4 * cell) r.from

  two-length : length two ≡ length cells
  two-length = length-set one (4 * cell + 1) r.to ∙ one-length

  pub range_length : length (with_range cells cell r) ≡ length cells
  range_length = length-set two (4 * cell + 2) (number_of r.bare) ∙ two-length

  pub range_same : 4 * cell + 4 ≤ length cells → range_in (with_range cells cell r) cell ≡ r
  range_same h =
      same-range
      (get_or-set_other two (4 * cell + 2) (4 * cell) (number_of r.bare) 0 (λ e. absurd (omega arith))
      ∙ get_or-set_other one (4 * cell + 1) (4 * cell) r.to 0 (λ e. absurd (omega arith))
      ∙ get_or-set_same cells (4 * cell) r.from 0 (omega arith))
      (get_or-set_other two (4 * cell + 2) (4 * cell + 1) (number_of r.bare) 0 (λ e. absurd (omega arith))
      ∙ get_or-set_same one (4 * cell + 1) r.to 0 (omega (arith, one-length)))
      (ap numbered_by (get_or-set_same two (4 * cell + 2) (number_of r.bare) 0 (omega (arith, two-length))) ∙ number-back r.bare)

  elsewhere : (k : ℕ) → (k ≡ 4 * cell → ⊥) → (k ≡ 4 * cell + 1 → ⊥) → (k ≡ 4 * cell + 2 → ⊥)
      → get_or (with_range cells cell r) k 0 ≡ get_or cells k 0
  elsewhere k d e f =
      get_or-set_other two (4 * cell + 2) k (number_of r.bare) 0 f
      ∙ get_or-set_other one (4 * cell + 1) k r.to 0 e
      ∙ get_or-set_other cells (4 * cell) k r.from 0 d

  pub range_other : (at : ℕ) → (at ≡ cell → ⊥) → range_in (with_range cells cell r) at ≡ range_in cells at
  range_other at d =
      same-range (elsewhere (4 * at) (λ e. d (omega arith)) (λ e. absurd (omega arith)) (λ e. absurd (omega arith)))
      (elsewhere (4 * at + 1) (λ e. absurd (omega arith)) (λ e. d (omega arith)) (λ e. absurd (omega arith)))
      (ap numbered_by (elsewhere (4 * at + 2) (λ e. absurd (omega arith)) (λ e. absurd (omega arith)) (λ e. d (omega arith))))

  pub range-cover : (at : ℕ) → cover_in (with_range cells cell r) at ≡ cover_in cells at
  range-cover at =
      elsewhere (4 * at + 3) (λ e. absurd (omega arith)) (λ e. absurd (omega arith)) (λ e. absurd (omega arith))

-- A table as long and with the same ranges.
pub indexed-ranges : {n N : ℕ} {b : List Record} {old new : List ℕ} → length new ≡ length old
    → ((cell : ℕ) → range_in new cell ≡ range_in old cell) → Indexed n N b old → Indexed n N b new
indexed-ranges {n} {N} {b} {old} {new} e same t =
    record {
      long = omega (arith, t.long, e);
      to_within = λ cell. subst (λ (r : Range). r.to ≤ length b) (sym (same cell)) (t.to_within cell);
      bare_within = λ cell. subst (λ (r : Range). number_of r.bare ≤ length b) (sym (same cell)) (t.bare_within cell);
      ranges = λ A i j a l u. subst (λ (r : Range). places b A i j ≡ counted r.from (r.to - r.from))
          (sym (same (cell_at N A i j))) (t.ranges A i j a l u);
      bares = λ A i j a l u. subst (λ (r : Range). bare_places b A i j ≡ bare_in r.bare) (sym (same (cell_at N A i j))) (t.bares A i j a l u);
    }
