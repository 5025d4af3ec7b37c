-- The table of cells beside the room: where the records of each stand, and which cell covers it.
use Rattle.std.specs.Prelude.{ℕ, zero, suc, ◌+◌, ◌*◌, ◌-◌, ◌≤◌, ◌<◌, ◌≡◌, Bool, false, cond, ◌||◌, Option, Some, None}
use Rattle.std.specs.Prelude.{List, [], ◌∷◌, eqb, length, get_or, set}
use Rattle.grammar.specs.Chart.{Record}
use Rattle.layout.specs.Bytes.{counted}
use Rattle.chart_model.specs.Build.{places, bare_places}
use Rattle.records.specs.declared.cells.Range.{Range}

-- The spans of n words; the place of the span i to j among them, those with an earlier end first, and of the cell of A over it where
-- each span has N nonterminals.
abbrev pub spans : ℕ → ℕ
spans zero = 0
spans (suc n) = spans n + suc n

abbrev pub span_at : ℕ → ℕ → ℕ
span_at i j = spans (j - 1) + i

abbrev pub cell_at : ℕ → ℕ → ℕ → ℕ → ℕ
cell_at N A i j = span_at i j * N + A

-- A cell whose parts are counted.
abbrev pub SpanFits : ℕ → ℕ → ℕ → ℕ → ℕ → Type 0
SpanFits n N A i j = (A < N) × (i < j) × (j ≤ n)

-- Fixed memory has no room for a variant: of what may be missing the table has 0, and of m one more than it.
abbrev pub number_of : Option ℕ → ℕ
number_of None = 0
number_of (Some m) = suc m

abbrev pub numbered_by : ℕ → Option ℕ
numbered_by zero = None
numbered_by (suc m) = Some m

-- Of a cell's four numbers: its range, which is its first position, the one past its last, and one more than that of its bare item, or 0;
-- and its cover, 0 or one more than the number of a cell that has every foot of it.
abbrev pub range_in : List ℕ → ℕ → Range
range_in cells cell =
    record { from = get_or cells (4 * cell) 0; to = get_or cells (4 * cell + 1) 0; bare = numbered_by (get_or cells (4 * cell + 2) 0) }

abbrev pub with_range : List ℕ → ℕ → Range → List ℕ
with_range cells cell r = set (set (set cells (4 * cell) r.from) (4 * cell + 1) r.to) (4 * cell + 2) (number_of r.bare)

abbrev pub cover_in : List ℕ → ℕ → ℕ
cover_in cells cell = get_or cells (4 * cell + 3) 0

abbrev pub with_cover : List ℕ → ℕ → ℕ → List ℕ
with_cover cells cell cover = set cells (4 * cell + 3) cover

-- A cell covers another, by one step in the table or by two; and the table once that was looked at: where it is covered, by another cell or
-- not, that is noted there.
abbrev pub reaches : List ℕ → ℕ → ℕ → Bool
reaches cells coverer zero = false
reaches cells coverer (suc m) = eqb m coverer || eqb (cover_in cells m) (suc coverer)

abbrev pub covered_in : List ℕ → ℕ → ℕ → Bool
covered_in cells coverer cell = reaches cells coverer (cover_in cells cell)

abbrev pub noted_anew : List ℕ → ℕ → ℕ → List ℕ
noted_anew cells coverer cell = cond (covered_in cells coverer cell) (with_cover cells cell (suc coverer)) cells

abbrev pub bare_in : Option ℕ → List ℕ
bare_in None = []
bare_in (Some m) = m ∷ []

-- The table says where the records of b stand: for every cell, filled or not. No position in it is past them.
pub record Indexed (n N : ℕ) (b : List Record) (cells : List ℕ) : Type 0 where
  pub long : 4 * (spans n * N) ≤ length cells
  pub to_within : (cell : ℕ) → (range_in cells cell).to ≤ length b
  pub bare_within : (cell : ℕ) → number_of (range_in cells cell).bare ≤ length b
  pub ranges : (A i j : ℕ) → A < N → i < j → j ≤ n → let r = range_in cells (cell_at N A i j) in
      places b A i j ≡ counted r.from (r.to - r.from)
  pub bares : (A i j : ℕ) → A < N → i < j → j ≤ n → bare_places b A i j ≡ bare_in (range_in cells (cell_at N A i j)).bare
