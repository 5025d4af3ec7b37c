-- `add::add` meets its contract. The mark that `seen` finds says whether the item is there, so each of the three returns is one case of
-- adding a record: it is there, the room is full, or it is written after the others.
use Prim.Native.Nat.{ℕ, ◌/◌, ◌<◌}
use native.Mathlib.Omega.{arith}
use mathlib.Core.Path.{◌≡◌, sym, ◌∙◌, ap, subst}
use mathlib.Core.Bool.{Bool}
use lib.ListN.{length}
use Rattle.records.specs.Room.{foot_from, record_from, mark_at, mark_of, with_number, MarkAdded}
use Rattle.records.proofs.TableLaws.{number-within, number_small}
use Rattle.records.proofs.RoomLaws.{placed}
use Rattle.records.proofs.AddLaws.{added-seen, added_full, added_new}
use Rattle.records.proofs.add.add.Goals.{Start, After-seen}
use Rattle.records.proofs.add.add.Goals as goal

-- The number's mark lies within the marks, and is the foot's.
inside : (c : Start) → c.args.number / 8 < length c.args.marks.now
inside c =
    let a = c.args in
    let (works, given) = c.requires in
    omega (arith, given.numbered, number-within a.cell.words a.cell.symbols (foot_from a.foot) given.fits, works.marks_there)

marked : (c : After-seen) {b : Bool} → c.seen.result ≡ b
    → mark_of c.args.cell.words c.args.cell.symbols c.args.marks.now (foot_from c.args.foot) ≡ b
marked c e = ap (mark_at c.args.marks.now) (sym c.requires.1.numbered) ∙ (sym c.seen.ensures ∙ e)

pub seen-requires : goal.seen-requires
seen-requires c = inside (goal.at.seen-requires c).Start

pub returns-then-seen : goal.returns-then-seen
returns-then-seen c =
    let (works, given) = c.requires in
    let there = marked (goal.at.returns-then-seen c).After-seen c.if-seen.true in
    record { added = added-seen _ _ _ _ _ _ _ _ _ works _ _ _ _ _ given.fits there; within = works.count_fits }

pub returns-then-cell-count : goal.returns-then-cell-count
returns-then-cell-count c =
    let (works, given) = c.requires in
    let new = marked (goal.at.returns-then-cell-count c).After-seen c.if-seen.false in
    record { added = added_full _ _ _ _ _ _ _ _ _ works _ _ _ _ _ given.fits new c.if-cell-count.true; within = tt }

pub mark-requires : goal.mark-requires
mark-requires c = inside (goal.at.mark-requires c).Start

pub overflow_cast-number : goal.overflow_cast-number
overflow_cast-number c =
    let cell = c.args.cell in
    let (works, given) = c.requires in
    omega (
      arith,
      given.numbered,
      number_small cell.words cell.symbols (foot_from c.args.foot) works.words_fit works.symbols_fit given.fits,
    )

pub returns : goal.returns
returns c =
    let a = c.args in
    let (works, given) = c.requires in
    let new = marked (goal.at.returns c).After-seen c.if-seen.false in
    let so = c.put_record.ensures ∙ ap (λ (k : ℕ). placed a.chart.now a.count (with_number k (record_from a.cell a.foot a.origin))) given.numbered in
    let more = subst (λ (k : ℕ). MarkAdded k a.marks.now c.mark.new.marks) given.numbered c.mark.ensures in
    record {
      added = added_new _ _ _ _ _ _ _ _ _ works _ _ _ _ _ given.fits _ _ c.if-cell-count.false so more new;
      within = omega arith;
    }
