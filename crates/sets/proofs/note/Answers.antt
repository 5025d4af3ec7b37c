-- `note` meets its contract: where the cell's first set is not empty it goes into that of the span, and the end into the row of its start;
-- then the second set and the column alike.
use Prim.Native.Nat.{ℕ, ◌+◌, ◌*◌, ◌%◌, ◌^◌, ◌<◌}
use native.Mathlib.Omega.{arith}
use mathlib.Core.Path.{◌≡◌, refl, sym, ◌∙◌, ap, ap₂, subst}
use mathlib.Core.Bool.{true, false}
use Rattle.std.specs.Prelude.{Option, Some, None, is_some}
use mathlib.Core.List.{List}
use lib.ListN.{length, length-set}
use Rattle.records.specs.Cells.{spans, number_of}
use Rattle.records.specs.declared.record.OpenCell.{OpenCell}
use Rattle.records.specs.declared.span.Span.{Span}
use Rattle.sets.specs.Places.{first_at, second_at, row_at, column_at}
use Rattle.sets.proofs.StoreLaws.{or_into}
use Rattle.sets.proofs.RowLaws.{Put, put-none, first-put, second-put, CellSets, sets-plain, sets-bare, noted}
use Rattle.sets.proofs.note.Goals.{Joined-is_some, After-rows-rows, Joined-first-ne0, then-is_some, else-is_some, then-first-ne0, else-first-ne0}
use Rattle.sets.proofs.note.Goals as goal

-- The number of what may be missing is 0 where it is.
some-number : (o : Option ℕ) → is_some o ≡ true → number_of o ≡ 0 → ⊥
some-number None e = absurd cc
some-number (Some m) e = λ z. omega arith

none-number : (o : Option ℕ) → is_some o ≡ false → number_of o ≡ 0
none-number None e = refl
none-number (Some m) e = absurd cc

-- The cell's two sets, where the arms have met.
cell-sets : (c : Joined-is_some) → CellSets c.args.sets.now c.args.cell.left (number_of c.args.bare) c.if-is_some.first c.if-is_some.second
cell-sets c =
    let a = c.args in
    subst (λ (x : ℕ). CellSets a.sets.now x (number_of a.bare) c.if-is_some.first c.if-is_some.second) c.from-a.ensures
    (elim c.if-is_some.branch [
      | then-is_some w ↦ sets-bare a.sets.now c.from-a.result (number_of a.bare) (some-number a.bare (sym c.is_some.ensures ∙ w.if-is_some.true)) w.first-is w.second-is
      | else-is_some w ↦ sets-plain a.sets.now c.from-a.result (number_of a.bare) (none-number a.bare (sym c.is_some.ensures ∙ w.if-is_some.false)) w.first-is w.second-is
    ])

-- The four places.
module _ (c : After-rows-rows) where
  abbrev cell : OpenCell
  cell = c.args.cell

  abbrev span : Span
  span = c.span-span.result

  first-is : c.place-at.result ≡ first_at cell.from cell.to
  first-is = c.place-at.ensures.at ∙ ap₂ first_at c.span-span.ensures.from c.span-span.ensures.to

  row-is : c.rows-rows.result + 2 * span.from ≡ row_at cell.words cell.from
  row-is = omega (arith, c.rows-rows.ensures, ap spans c.span-span.ensures.words, c.span-span.ensures.from)

  column-is : c.rows-rows.result + 2 * span.to + 1 ≡ column_at cell.words cell.to
  column-is = omega (arith, c.rows-rows.ensures, ap spans c.span-span.ensures.words, c.span-span.ensures.to)

  row-there : c.rows-rows.result + 2 * span.from < length c.args.sets.now
  row-there = omega (arith, row-is, c.requires.4.long, c.requires.1, c.requires.2)

  column-there : c.rows-rows.result + 2 * span.to + 1 < length c.args.sets.now
  column-there = omega (arith, column-is, c.requires.4.long, c.requires.2)

-- After the first set, and after the second.
mid : (c : Joined-first-ne0) → Put c.args.cell.words (first_at c.args.cell.from c.args.cell.to) c.if-is_some.first c.args.sets.now c.if-first-ne0.sets
mid c =
    let w = (goal.at.Joined-first-ne0 c).After-rows-rows in
    let i = c.args.cell.from in
    let j = c.args.cell.to in
    elim c.if-first-ne0.branch [
      | then-first-ne0 h ↦ first-put c.args.cell.words i j c.requires.4 c.requires.1 c.requires.2 c.requires.0 (first-is w) (row-is w) h.sets-is
      | else-first-ne0 h ↦ put-none c.requires.4 h.if-first-ne0.false h.sets-is
    ]

abbrev stored : Joined-first-ne0 → List ℕ
stored c =
    let s = c.span-span.result in
    or_into (or_into c.if-first-ne0.sets (c.place-at.result + 1) c.if-is_some.second)
    (c.rows-rows.result + 2 * s.to + 1) ((1 * 2 ^ c.args.cell.from) % 2 ^ 64)

last : (c : Joined-first-ne0)
    → Put c.args.cell.words (second_at c.args.cell.from c.args.cell.to) c.if-is_some.second c.if-first-ne0.sets (stored c)
last c =
    let w = (goal.at.Joined-first-ne0 c).After-rows-rows in
    let i = c.args.cell.from in
    let j = c.args.cell.to in
    let second : c.place-at.result + 1 ≡ second_at i j = omega (arith, first-is w) in
    second-put c.args.cell.words i j (mid c).rows c.requires.1 c.requires.2 c.requires.0 second (column-is w) refl

-- A row is as far in where the span's set was stored.
pub bounds-sets-row : goal.bounds-sets-row
bounds-sets-row c = simp length-set (row-there (goal.at.bounds-sets-row c).After-rows-rows)

pub bounds-sets-row-then-first-ne0 : goal.bounds-sets-row-then-first-ne0
bounds-sets-row-then-first-ne0 c = simp length-set (row-there (goal.at.bounds-sets-row-then-first-ne0 c).After-rows-rows)

pub bounds-sets-column : goal.bounds-sets-column
bounds-sets-column c =
    simp length-set
    (omega (arith, (mid (goal.at.bounds-sets-column c).Joined-first-ne0).same_length, column-there (goal.at.bounds-sets-column c).After-rows-rows))

pub bounds-sets-column-then-second-ne0 : goal.bounds-sets-column-then-second-ne0
bounds-sets-column-then-second-ne0 c =
    simp length-set
    (omega (
      arith,
      (mid (goal.at.bounds-sets-column-then-second-ne0 c).Joined-first-ne0).same_length,
      column-there (goal.at.bounds-sets-column-then-second-ne0 c).After-rows-rows,
    ))

pub returns-then-second-ne0 : goal.returns-then-second-ne0
returns-then-second-ne0 c =
    let cell = c.args.cell in
    let j = (goal.at.returns-then-second-ne0 c).Joined-first-ne0 in
    noted cell.left cell.from cell.to (number_of c.args.bare) c.requires.1 c.requires.2 (mid j) (last j)
    (cell-sets (goal.at.returns-then-second-ne0 c).Joined-is_some)

pub returns-else-second-ne0 : goal.returns-else-second-ne0
returns-else-second-ne0 c =
    let cell = c.args.cell in
    let j = (goal.at.returns-else-second-ne0 c).Joined-first-ne0 in
    noted cell.left cell.from cell.to (number_of c.args.bare) c.requires.1 c.requires.2 (mid j) (put-none (mid j).rows c.if-second-ne0.false refl)
    (cell-sets (goal.at.returns-else-second-ne0 c).Joined-is_some)
