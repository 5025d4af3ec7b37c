-- One cell is filled: what holds between cells afterwards.
-- The model's state says how the chart has grown, and by that the tables agree again.
use Prim.Native.Nat.{ℕ, zero, suc, ◌+◌, ◌-◌, ◌*◌, ◌≤◌, ◌<◌}
use native.Mathlib.Nat.{le_refl}
use native.Mathlib.Omega.{arith}
use mathlib.Core.Path.{◌≡◌, refl, sym, ◌∙◌, ap, subst}
use mathlib.Core.Bool.{Bool}
use mathlib.Core.List.{List, []}
use mathlib.Core.Option.{Option, some}
use lib.ListN.{length}
use Rattle.std.specs.Prelude.{Option as Answer, Some, None}
use Rattle.grammar.specs.Rewriting.{Rule}
use Rattle.grammar.specs.Chart.{Record}
use Rattle.layout.specs.Bytes.{counted}
use Rattle.chart_model.specs.Build.{places, bare_places, add_each, fill_cell}
use Rattle.chart_model.proofs.FillModel.{IsCell, Grown, same, cell-grown, bare_at, places-own, fresh-among}
use Rattle.records.specs.declared.cells.Range.{Range}
use Rattle.records.specs.declared.record.OpenCell.{OpenCell}
use Rattle.records.specs.declared.span.Span.{Span}
use Rattle.records.specs.Room.{chart_in, state_of}
use Rattle.records.specs.Cells.{cell_at, number_of, numbered_by, with_range, bare_in, SpanFits}
use Rattle.records.specs.Cover.{Covered, Advanced}
use Rattle.records.proofs.RoomLaws.{chart-length, chart-kept-below}
use Rattle.records.proofs.CellsLaws.{number-back, range_length, range-cover, indexed-ranges}
use Rattle.records.proofs.CoverLaws.{grown-has, grown-others, end-covered, covered-covers}
use Rattle.sets.specs.Spans.{Noted}
use Rattle.sets.proofs.ClassLaws.{classified-spans}
use Rattle.sets.proofs.SortedLaws.{sorted_more}
use Rattle.chart.specs.Cell.{Finished}
use Rattle.chart.specs.declared.build.Sizes.{Sizes}
use Rattle.chart.specs.Fill.{Between, Filled, OpenedAt}
use Rattle.chart.proofs.FillLaws.{state-some, state-over, bare_from-at, bare_from-le, own-bares, indexed-more, marks-clear}

-- The struct of an opened cell in one piece.
pub opened-is : {sizes : Sizes} {A base : ℕ} {span : Span} {cell : OpenCell} → OpenedAt sizes A span base cell
    → cell ≡ record {
      words = sizes.words;
      symbols = sizes.symbols;
      room = sizes.room;
      base = base;
      number = cell_at sizes.symbols A span.from span.to;
      left = A;
      from = span.from;
      to = span.to;
    }
opened-is o = λ k. record {
  words = o.words k;
  symbols = o.symbols k;
  room = o.room k;
  base = o.base k;
  number = o.number k;
  left = o.left k;
  from = o.from k;
  to = o.to k;
}

-- An item did not fit: nothing more is promised.
pub over-filled : {g : List Rule} {n N room after : ℕ} {s : Option (List Record)} {old new marks cells sets : List ℕ}
    → length new ≡ length old → state_of room new after ≡ s → room < after → Filled g n N room s old new marks cells sets None
over-filled {room = room} {after} {new = new} a e l =
    record { same_room = a; model = sym (state-over room after new e l); rest = tt; ready = tt }

-- A range's numbers are counts.
pub range_small : {chart old new : List ℕ} {base count : ℕ} {r : Range} → Finished chart base count old new r → base ≤ count
    → count ≤ 65535 → (r.from < 65536) × (r.to < 65536) × (number_of r.bare < 65536)
range_small {chart} {base = base} {count} f a b =
    let e = f.range in (
      omega (arith, ap (λ (x : Range). x.from) e),
      omega (arith, ap (λ (x : Range). x.to) e),
      omega (arith, ap (λ (x : Range). number_of x.bare) e, bare_from-le chart base (count - base)),
    )

-- A range with a place has places, and where no bare item was found there is none.
counted-some : (k m : ℕ) → 0 < m → counted k m ≡ [] → ⊥
counted-some k zero l e = absurd (omega arith)
counted-some k (suc m) l e = omega (arith, ap length e)

bare-none : (o : Answer ℕ) → bare_in o ≡ [] → number_of o ≡ 0
bare-none None e = refl
bare-none (Some m) e = absurd (omega (arith, ap length e))

-- The cell of A over i to j was without records, and its candidates were added.
module _ {g : List Rule} {n N room count after : ℕ} {old old_marks old_cells sets new marks cells : List ℕ} {rs : List Record} {A i j : ℕ}
    (b : Between g n N room old old_marks old_cells sets count) (inside : SpanFits n N A i j) (fresh : places (chart_in old count) A i j ≡ [])
    (advanced : Advanced n N room A i j count rs old old_marks old_cells count new marks cells after) where
  -- Their covers may have changed although the cell got nothing new.
  covered-then : after ≤ room → Grown (IsCell A i j) (chart_in old count) (chart_in new after) → Covered n N (chart_in new after) cells
  covered-then fits grown = end-covered (advanced.covering fits) inside (grown-has grown) (grown-others grown) fresh

  -- Nothing was new: the room is as it was.
  pub same-filled : after ≤ room → after ≡ count → Filled g n N room (add_each room rs (some (chart_in old count))) old new marks cells sets (Some after)
  same-filled fits e =
      let a = advanced.added in
      let w = a.works fits in
      let kept : chart_in new after ≡ chart_in old count = rw e (chart-kept-below old new count count (le_refl count) a.kept) in
      record {
        same_room = a.same_room;
        model = sym (state-some room after new a.model fits);
        rest = a.rest fits;
        ready = record {
          words_fit = w.words_fit;
          symbols_fit = w.symbols_fit;
          room_small = w.room_small;
          room_there = w.room_there;
          marks_there = w.marks_there;
          count_fits = w.count_fits;
          exact = w.exact;
          feet = w.feet;
          clear = λ φ f. w.marked φ f ∙ rw kept (fresh-among (chart_in old count) A i j φ fresh);
          indexed = rw kept (indexed-ranges advanced.same_cells advanced.same_ranges b.indexed);
          covered = covered-then fits (subst (λ (c : List Record). Grown (IsCell A i j) (chart_in old count) c) (sym kept) same);
          classified = b.classified;
          sorted = rw kept b.sorted;
        };
      }

  -- It has records now: once its marks are gone, its range is in the table and its productions are noted.
  pub cell-filled : {cell : ℕ} {marks' cells' sets' : List ℕ} {r : Range} → Grown (IsCell A i j) (chart_in old count) (chart_in new after)
      → after ≤ room → (after ≡ count → ⊥) → Finished new count after marks marks' r → cell ≡ cell_at N A i j → 4 * cell + 4 ≤ length cells
      → cells' ≡ with_range cells cell r → Noted n A i j (number_of r.bare) sets sets'
      → Filled g n N room (add_each room rs (some (chart_in old count))) old new marks' cells' sets' (Some after)
  cell-filled {cell} {sets' = sets'} {r} grown fits fuller done e there put noted =
      let a = advanced.added in
      let w = a.works fits in
      let few = chart-length old count in
      let many = chart-length new after in
      let long = a.grown in
      let last : number_of r.bare ≡ bare_at (chart_in new after) (length (chart_in old count)) (length (chart_in new after) - length (chart_in old count)) =
      ap (λ (x : Range). number_of x.bare) done.range ∙ (bare_from-at new after count (after - count) (omega arith) ∙ rw (few, many)) in
      let small : number_of r.bare ≤ after = omega (arith, ap (λ (x : Range). number_of x.bare) done.range, bare_from-le new count (after - count)) in
      let from : r.from ≡ length (chart_in old count) = omega (arith, ap (λ (x : Range). x.from) done.range) in
      let to : r.to ≡ length (chart_in new after) = omega (arith, ap (λ (x : Range). x.to) done.range) in
      let size : length (chart_in new after) ≡ length (chart_in old count) + (length (chart_in new after) - length (chart_in old count)) =
      omega arith in
      let alone : bare_places (chart_in new after) A i j ≡ bare_in r.bare =
      own-bares _ r.bare fresh grown size last in
      let some-there : places (chart_in new after) A i j ≡ [] → ⊥ =
      λ none. counted-some (length (chart_in old count)) (length (chart_in new after) - length (chart_in old count)) (omega arith)
      (sym (places-own A i j fresh grown _ size) ∙ none) in
      record {
        same_room = a.same_room;
        model = sym (state-some room after new a.model fits);
        rest = a.rest fits;
        ready = record {
          words_fit = w.words_fit;
          symbols_fit = w.symbols_fit;
          room_small = w.room_small;
          room_there = w.room_there;
          marks_there = rw done.same_length w.marks_there;
          count_fits = w.count_fits;
          exact = w.exact;
          feet = w.feet;
          clear = marks-clear N A i j fresh grown (sym few) w.exact w.marked done;
          indexed = rw (put, e) (indexed-more n N A i j inside fresh grown cells r (subst (λ (x : ℕ). 4 * x + 4 ≤ length cells) e there)
              from to last (omega arith) (indexed-ranges advanced.same_cells advanced.same_ranges b.indexed));
          covered = rw put (covered-covers (range_length cells cell r) (range-cover cells cell r) (covered-then fits grown));
          classified = classified-spans b.classified noted.elsewhere;
          sorted = sorted_more g n A i j (omega (arith, inside, b.symbols_fit)) inside.1 inside.2 grown sets sets' (number_of r.bare) b.classified
              b.sorted noted some-there (λ z. alone ∙ ap bare_in (sym (number-back r.bare) ∙ ap numbered_by z)) (λ d none. d (bare-none r.bare (sym alone ∙ none)));
        };
      }

-- How a cell has grown the chart.
pub cell-state : (old new : List ℕ) (count after room : ℕ) (g : List Rule) (at : ℕ → ℕ → Bool) (A i j : ℕ)
    → state_of room new after ≡ fill_cell room g at (j - i) i A (some (chart_in old count)) → after ≤ room → i < j
    → Grown (IsCell A i j) (chart_in old count) (chart_in new after)
cell-state old new count after room g at A i j e l ij =
    let k : i + (j - i) ≡ j = omega arith in
    subst (λ (x : ℕ). Grown (IsCell A i x) (chart_in old count) (chart_in new after)) k
    (cell-grown room g at (j - i) i A (state-some room after new e l))
