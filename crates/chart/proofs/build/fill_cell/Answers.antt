-- `build::fill_cell` meets its contract. An item did not fit, nothing was new, or the cell has records: each is one law of FillCells. The sets
-- change in the last case alone, and there only those of the spans.
use native.Mathlib.Omega.{arith}
use mathlib.Core.Path.{refl}
use Rattle.layout.specs.Card.{grammar_of}
use Rattle.places.specs.Places.{word_test}
use Rattle.chart.proofs.FillLaws.{fill-begin, fill-there}
use Rattle.chart.proofs.FillCells.{over-filled, same-filled, cell-state, range_small, cell-filled}
use Rattle.chart.proofs.build.fill_cell.Goals as goal

pub fill_items-requires : goal.fill_items-requires
fill_items-requires c =
    let p = c.requires in
    (fill-begin p, p.given, p.set_for)

pub returns-in_err-total : goal.returns-in_err-total
returns-in_err-total c =
    let e = c.in_err-total.ensures.advanced.added in
    rw c.from_residual.ensures (over-filled e.same_room e.model (omega arith), (refl, λ s h. refl))

pub finish-range-requires : goal.finish-range-requires
finish-range-requires c =
    let e = c.in_ok-total.ensures in
    (e.advanced.added.works e.within, e.advanced.added.grown)

pub put_range-requires : goal.put_range-requires
put_range-requires c =
    let p = c.requires in
    let e = c.in_ok-total.ensures in
    let r = range_small c.finish-range.ensures e.advanced.added.grown (omega (arith, e.within, p.between.room_small)) in
    (fill-there p c.fill_items.new.cells e.advanced.same_cells, r.0, r.1, r.2)

pub note-requires : goal.note-requires
note-requires c =
    let p = c.requires in (
      p.between.words_fit,
      p.inside.1,
      p.inside.2,
      omega (arith, p.inside.0, p.between.symbols_fit),
      p.between.sorted.rows,
    )

pub returns-then-total-cell : goal.returns-then-total-cell
returns-then-total-cell c =
    let a = c.args in
    let p = c.requires in
    let new = c.fill_items.new in
    let e = c.in_ok-total.ensures.advanced in
    let fits = c.in_ok-total.ensures.within in (
      cell-filled p.between p.inside p.fresh e
          (cell-state a.chart.now new.chart a.cell.base c.in_ok-total.total a.cell.room (grammar_of a.input.card.bytes.now)
          (word_test a.input.words.now.places) a.cell.left a.cell.from a.cell.to e.added.model fits p.inside.1)
          fits c.if-total-cell.true c.finish-range.ensures p.numbered (fill-there p new.cells e.same_cells)
          c.put_range.ensures c.note.ensures,
      c.note.ensures.elsewhere,
    )

pub returns-else-total-cell : goal.returns-else-total-cell
returns-else-total-cell c =
    let p = c.requires in
    let e = c.in_ok-total.ensures in
    (same-filled p.between p.inside p.fresh e.advanced e.within c.if-total-cell.false, (refl, λ s h. refl))
