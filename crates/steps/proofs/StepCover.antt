-- Adding where cells are passed over. A cell that is covered has no foot that is new, so passing it over is the same as adding from each
-- of its places; and once each place has been added from, the cell is covered.
use Prim.Native.Nat.{ℕ, zero, suc, ◌+◌, ◌*◌, ◌-◌, ◌≤◌, ◌<◌}
use native.Mathlib.Numerals.{add-one}
use native.Mathlib.Nat.{le_refl, mul-le-mul}
use native.Mathlib.Decide.{dec_le, ℕ_discrete}
use native.Mathlib.Omega.{arith}
use mathlib.Core.Path.{◌≡◌, refl, sym, ◌∙◌, ap, subst}
use mathlib.Core.Bool.{true}
use mathlib.Core.List.Memᴰ
use mathlib.Core.List.{List, [], ◌∷◌, map, Memᴰ}
use mathlib.Core.Option.{some}
use Rattle.std.specs.Prelude.{Option, Some, None}
use lib.ListN.{length}
use Rattle.grammar.specs.Items.{Foot}
use Rattle.grammar.specs.ItemList.{Item, item}
use Rattle.grammar.specs.Chart.{Record, item_of}
use Rattle.grammar.proofs.ListLaws.{in_map, map-in}
use Rattle.layout.specs.Bytes.{counted}
use Rattle.chart_model.specs.Build.{flat_up, places, foot_at, add_each}
use Rattle.chart_model.proofs.BuildLaws.{Has, in-flat_up, flat_up-in}
use Rattle.chart_model.proofs.Candidates.{places-in}
use Rattle.chart_model.proofs.FillModel.{in-counted}
use Rattle.records.specs.declared.record.OpenCell.{OpenCell}
use Rattle.records.specs.Room.{chart_in, Working, Added}
use Rattle.records.specs.Cells.{spans, cell_at, SpanFits, range_in, cover_in, with_cover, covered_in, noted_anew}
use Rattle.records.specs.Cover.{CoversIn, Covering, CellRange}
use Rattle.records.specs.Filling.{begun_with, AddedTo, AdvancedTo, Filling}
use Rattle.records.proofs.TableLaws.{cell_below, spans-more}
use Rattle.records.proofs.CellsLaws.{cover-length, cover-range, noted-length, noted-range, indexed-ranges}
use Rattle.records.proofs.AddLaws.{state-fits}
use Rattle.records.proofs.CoverLaws.{chart-wider, each-wider, each_in, each-known, place-has}
use Rattle.records.proofs.CoverLaws.{covering-wider, covering-below, covered-sound, covering-note, covering-anew}
use Rattle.steps.proofs.StepLaws.{added-as, Looped, loop-start, loop-works, loop-kept, loop-end, loop-turn, loop-over, nothing-added, added-to-as}

counted-in : (k m x : ℕ) → k ≤ x → x < k + m → Memᴰ x (counted k m)
counted-in k zero x a b = absurd (omega arith)
counted-in k (suc m) x a b = elim (ℕ_discrete x k) [
  | yes e ↦ Memᴰ.head e
  | no d ↦ Memᴰ.tail (counted-in (suc k) m x (omega arith) (omega arith))
]

-- Records made place by place, each with the foot that stands at its place, over the range of one cell's records.
module _ (b : List Record) (A i j : ℕ) (f : ℕ → List Record) (one : (x : ℕ) → map item_of (f x) ≡ item A i j (foot_at b x) ∷ [])
    (D k m from len : ℕ) (t : places b D k m ≡ counted from len) where
  all_known : (c : List Record) → CoversIn b c A i j D k m → (r : Record) → Memᴰ r (flat_up f from len) → Has c (item_of r)
  all_known c over r h =
      let (x, l, u, n) = in-flat_up f from len h in
      let e = Memᴰ.eq_of_singleton (subst (Memᴰ (item_of r)) (one x) (map-in item_of n)) in
      subst (Has c) (sym e) (over (foot_at b x) (place-has b D k m (subst (Memᴰ x) (sym t) (counted-in from len x l u))))

  all_there : {e : List Record} (room : ℕ) (c : List Record) → add_each room (flat_up f from len) (some c) ≡ some e
      → CoversIn b e A i j D k m
  all_there {e} room c q φ h =
      let (x, p, g) = places-in b D k m h in
      let (l, u) = in-counted from len (subst (Memᴰ x) t p) in
      let (r, n, s) = in_map item_of (f x) (subst (Memᴰ (item A i j (foot_at b x))) (sym (one x)) (Memᴰ.head refl)) in
      subst (λ (ψ : Foot). Has e (item A i j ψ)) g
      (subst (Has e) (sym s) (each_in room (flat_up f from len) c q (flat_up-in f from len x l u n)))

-- Records whose items are all in a chart; so are those of no candidates.
abbrev pub Known : List Record → List Record → Type 0
Known c rs = (r : Record) → Memᴰ r rs → Has c (item_of r)

pub known-none : (c : List Record) {rs : List Record} → rs ≡ [] → Known c rs
known-none c e r m = absurd (Memᴰ.not-nil (subst (Memᴰ r) e m))

module _ {n N room A i j : ℕ} where
  -- What the model has after an addition that fitted.
  model-fits : {rs : List Record} {old old_marks new new_marks : List ℕ} {count after : ℕ}
      → Added n N room A i j rs old old_marks count new new_marks after → after ≤ room
      → add_each room rs (some (chart_in old count)) ≡ some (chart_in new after)
  model-fits {new = new} {after = after} a h = sym a.model ∙ state-fits room new after h

  -- So the chart has the items that it had, and those of the records.
  pub added-wider : {rs : List Record} {old old_marks new new_marks : List ℕ} {count after : ℕ}
      → Added n N room A i j rs old old_marks count new new_marks after → after ≤ room
      → (x : Item) → Has (chart_in old count) x → Has (chart_in new after) x
  added-wider {rs} {old} {count = count} a h x = each-wider room rs (chart_in old count) (model-fits a h)

  pub added-has : {rs : List Record} {old old_marks new new_marks : List ℕ} {count after : ℕ}
      → Added n N room A i j rs old old_marks count new new_marks after → after ≤ room → Known (chart_in new after) rs
  added-has {rs} {old} {count = count} a h r m = each_in room rs (chart_in old count) (model-fits a h) m

  -- Records whose items are all there leave everything as it is.
  pub added-known : {chart marks : List ℕ} {count : ℕ} (rs : List Record) → Known (chart_in chart count) rs
      → Working n N room A i j chart marks count → Added n N room A i j rs chart marks count chart marks count
  added-known {chart} {count = count} rs h w =
      record {
        same_room = refl;
        same_marks = refl;
        grown = le_refl count;
        kept = refl;
        model = state-fits room chart count w.count_fits ∙ sym (each-known room rs (chart_in chart count) h);
        rest = λ l. refl;
        works = λ l. w;
      }

-- The records to add may be written otherwise.
pub advanced-as : {cell : OpenCell} {rs ss : List Record} {old old_marks old_cells new new_marks cells : List ℕ} {count : ℕ} {after : Option ℕ}
    → rs ≡ ss → AdvancedTo cell rs old old_marks old_cells count new new_marks cells after
    → AdvancedTo cell ss old old_marks old_cells count new new_marks cells after
advanced-as e a =
    let s = a.advanced in
    record {
      advanced = record { added = added-as e s.added; same_cells = s.same_cells; same_ranges = s.same_ranges; covering = s.covering };
      within = a.within;
    }

module _ {cell : OpenCell} {chart marks cells : List ℕ} {count : ℕ} (h : Filling cell chart marks cells count) where
  abbrev n : ℕ
  n = cell.words

  abbrev N : ℕ
  N = cell.symbols

  abbrev b : List Record
  b = begun_with cell chart

  abbrev c : List Record
  c = chart_in chart count

  wider : (x : Item) → Has b x → Has c x
  wider = chart-wider chart cell.base count h.begun

  -- Where the table stays as it is it stays right, for the chart only grows.
  pub advanced-kept : {rs : List Record} {new new_marks : List ℕ} {after : Option ℕ} → AddedTo cell rs chart marks count new new_marks after
      → AdvancedTo cell rs chart marks cells count new new_marks cells after
  advanced-kept a =
      record {
        advanced = record {
          added = a.added;
          same_cells = refl;
          same_ranges = λ at. refl;
          covering = λ l. covering-wider h.covering (added-wider a.added l);
        };
        within = a.within;
      }

  -- With another cell, by its number and by the range of its records.
  module _ {at from to : ℕ} (d : CellRange n N b at from to) where
    -- The places in the table, and the numbers that they have.
    pub note-fits : (cell.number < 65535) × (4 * at + 4 ≤ length cells)
    note-fits = (
      omega (
        arith,
        h.numbered,
        below h.inside,
        mul-le-mul (spans-more n 24 h.works.words_fit) h.works.symbols_fit,
      ),
      omega (arith, h.covering.long, d.number, below d.fits),
    )
      where
        below : {A i j : ℕ} → SpanFits n N A i j → cell_at N A i j < spans n * N
        below {A} {i} {j} (x, y, z) = cell_below n N A i j x y z

    pub look-fits : (cell.number < 65535) × (4 * at + 4 ≤ length cells) × (4 * cover_in cells at ≤ length cells)
    look-fits = (
      note-fits.0,
      note-fits.1,
      subst (λ (x : ℕ). 4 * cover_in cells x ≤ length cells) (sym d.number) (covering-below h.covering h.inside d.fits),
    )

    -- The table is right once the cell was looked for in it, whether it is covered or not.
    pub looked-at : {new_cells : List ℕ} → new_cells ≡ noted_anew cells cell.number at → Filling cell chart marks new_cells count
    looked-at {new_cells} e =
        record {
          works = h.works;
          begun = h.begun;
          inside = h.inside;
          numbered = h.numbered;
          indexed = rw e (indexed-ranges (noted-length cells cell.number at) (noted-range cells cell.number at) h.indexed);
          covering = rw (e, h.numbered, d.number) (covering-anew h.covering h.inside wider d.fits);
        }

    pub advanced-looked : {rs : List Record} {seen new new_marks new_cells : List ℕ} {after : Option ℕ} → seen ≡ noted_anew cells cell.number at
        → AdvancedTo cell rs chart marks seen count new new_marks new_cells after
        → AdvancedTo cell rs chart marks cells count new new_marks new_cells after
    advanced-looked e a =
        let s = a.advanced in
        record {
          advanced = record {
            added = s.added;
            same_cells = s.same_cells ∙ ap length e ∙ noted-length cells cell.number at;
            same_ranges = λ x. s.same_ranges x ∙ ap (λ (l : List ℕ). range_in l x) e ∙ noted-range cells cell.number at x;
            covering = s.covering;
          };
          within = a.within;
        }

    -- No place to add from; a cell that is passed over; and one whose feet are all taken over.
    module _ (f : ℕ → List Record) (one : (x : ℕ) → map item_of (f x) ≡ item cell.left cell.from cell.to (foot_at b x) ∷ []) where
      pub advanced-none : to ≤ from → AdvancedTo cell (flat_up f from (to - from)) chart marks cells count chart marks cells (Some count)
      advanced-none l = advanced-kept (added-to-as (ap (flat_up f from) no-places) (nothing-added h.works))
        where
          no-places : 0 ≡ to - from
          no-places = omega arith

      pub passed_over : {new_cells : List ℕ} → covered_in cells cell.number at ≡ true → new_cells ≡ noted_anew cells cell.number at
          → AdvancedTo cell (flat_up f from (to - from)) chart marks cells count chart marks new_cells (Some count)
      passed_over {new_cells} t e =
          record {
            advanced = record {
              added =
                  added-known (flat_up f from (to - from))
                  (all_known b cell.left cell.from cell.to f one d.symbol d.start d.end from (to - from) d.stands c
                  (covered-sound h.covering h.inside wider d.fits test)) h.works;
              same_cells = ap length e ∙ noted-length cells cell.number at;
              same_ranges = λ x. ap (λ (l : List ℕ). range_in l x) e ∙ noted-range cells cell.number at x;
              covering = λ _. (looked-at e).covering;
            };
            within = h.works.count_fits;
          }
        where
          test : covered_in cells (cell_at N cell.left cell.from cell.to) (cell_at N d.symbol d.start d.end) ≡ true
          test = rw (sym h.numbered, sym d.number) t

      pub taken-over : {new new_marks new_cells : List ℕ} {after : ℕ} → from < to
          → AddedTo cell (flat_up f from (to - from)) chart marks count new new_marks (Some after)
          → new_cells ≡ with_cover cells at (cell.number + 1)
          → AdvancedTo cell (flat_up f from (to - from)) chart marks cells count new new_marks new_cells (Some after)
      taken-over {new} {new_marks} {new_cells} {after} l a e =
          record {
            advanced = record {
              added = a.added;
              same_cells = ap length e ∙ cover-length cells at (cell.number + 1);
              same_ranges = λ x. ap (λ (l : List ℕ). range_in l x) e ∙ cover-range cells at (cell.number + 1) x;
              covering = λ _. noted;
            };
            within = a.within;
          }
        where
          some-there : places b d.symbol d.start d.end ≡ [] → ⊥
          some-there none =
              Memᴰ.not-nil
              (subst (Memᴰ from) (sym d.stands ∙ none) (counted-in from (to - from) from (omega arith) (omega arith)))

          over : CoversIn b (chart_in new after) cell.left cell.from cell.to d.symbol d.start d.end
          over = all_there b cell.left cell.from cell.to f one d.symbol d.start d.end from (to - from) d.stands
              cell.room c (model-fits a.added a.within)

          noted : Covering n N cell.left cell.from cell.to b (chart_in new after) new_cells
          noted =
              rw (e, h.numbered, d.number, add-one) (covering-note ((advanced-kept a).advanced.covering a.within) d.fits over some-there)

-- A loop whose calls pass cells over: as one whose calls add, and the table has the ranges that it had and is right at each turn. F makes the
-- candidates of a place from the records that stood when the cell was begun.
pub record Advancing (cell : OpenCell) (F : List Record → ℕ → List Record) (from to : ℕ) (old old_marks old_cells : List ℕ) (count : ℕ)
    (new new_marks cells : List ℕ) (y total : ℕ) : Type 0 where
  pub looped : Looped cell.words cell.symbols cell.room cell.left cell.from cell.to (F (begun_with cell old)) from to
      old old_marks count new new_marks y total
  pub same_cells : length cells ≡ length old_cells
  pub same_ranges : (at : ℕ) → range_in cells at ≡ range_in old_cells at
  pub covering : Covering cell.words cell.symbols cell.left cell.from cell.to (begun_with cell old) (chart_in new total) cells

module _ {cell : OpenCell} {F : List Record → ℕ → List Record} {from to : ℕ} where
  pub advance-start : {chart marks cells : List ℕ} {count : ℕ} → Filling cell chart marks cells count
      → Advancing cell F from to chart marks cells count chart marks cells from count
  advance-start h =
      record { looped = loop-start h.works; same_cells = refl; same_ranges = λ at. refl; covering = h.covering }

  module _ {old old_marks old_cells mid mid_marks cells : List ℕ} {count y total : ℕ}
      (l : Advancing cell F from to old old_marks old_cells count mid mid_marks cells y total) where
    -- The chart has what it had, and the items of the places passed.
    pub advance-wider : (x : Item) → Has (chart_in old count) x → Has (chart_in mid total) x
    advance-wider = added-wider l.looped.sofar l.looped.fits

    pub advance-has : (q : ℕ) → from ≤ q → q < y → Known (chart_in mid total) (F (begun_with cell old) q)
    advance-has q a b r m =
        added-has l.looped.sofar l.looped.fits r (flat_up-in (F (begun_with cell old)) from (y - from) q a (omega arith) m)

    -- The loop ends at `to`.
    pub advance-end : to ≤ y
        → AdvancedTo cell (flat_up (F (begun_with cell old)) from (to - from)) old old_marks old_cells count mid mid_marks cells (Some total)
    advance-end h =
        record {
          advanced = record {
            added = loop-end l.looped h;
            same_cells = l.same_cells;
            same_ranges = l.same_ranges;
            covering = λ _. l.covering;
          };
          within = l.looped.fits;
        }

    -- A place whose items are all there may be left out.
    pub advance-known : y < to → Known (chart_in mid total) (F (begun_with cell old) y)
        → Advancing cell F from to old old_marks old_cells count mid mid_marks cells (y + 1) total
    advance-known h known =
        record {
          looped = loop-turn l.looped h (added-known (F (begun_with cell old) y) known (loop-works l.looped)) l.looped.fits;
          same_cells = l.same_cells;
          same_ranges = l.same_ranges;
          covering = l.covering;
        }

    advance-at : {y' : ℕ} → y' ≡ y → Advancing cell F from to old old_marks old_cells count mid mid_marks cells y' total
    advance-at e = rw e l

    module _ (h : Filling cell old old_marks old_cells count) where
      same-begun : begun_with cell mid ≡ begun_with cell old
      same-begun = loop-kept l.looped cell.base h.begun

      -- What a call asks, and a turn: a call that adds the candidates of y.
      pub advance-filling : Filling cell mid mid_marks cells total
      advance-filling =
          record {
            works = loop-works l.looped;
            begun = omega (arith, h.begun, l.looped.sofar.grown);
            inside = h.inside;
            numbered = h.numbered;
            indexed = rw same-begun (indexed-ranges l.same_cells l.same_ranges h.indexed);
            covering = rw same-begun l.covering;
          }

      module _ {new new_marks new_cells : List ℕ} (u : y < to) where
        -- The call answers a count.
        pub advance-turn : {after : ℕ}
            → AdvancedTo cell (F (begun_with cell mid) y) mid mid_marks cells total new new_marks new_cells (Some after)
            → Advancing cell F from to old old_marks old_cells count new new_marks new_cells (y + 1) after
        advance-turn a =
            let s = a.advanced in
            record {
              looped = loop-turn l.looped u (added-as (ap (λ (b : List Record). F b y) same-begun) s.added) a.within;
              same_cells = s.same_cells ∙ l.same_cells;
              same_ranges = λ at. s.same_ranges at ∙ l.same_ranges at;
              covering = rw (sym same-begun) (s.covering a.within);
            }

        -- The last turn, where the room is full.
        pub advance-over : AdvancedTo cell (F (begun_with cell mid) y) mid mid_marks cells total new new_marks new_cells None
            → AdvancedTo cell (flat_up (F (begun_with cell old)) from (to - from)) old old_marks old_cells count new new_marks new_cells None
        advance-over a =
            let s = a.advanced in
            record {
              advanced = record {
                added = loop-over l.looped u (added-as (ap (λ (b : List Record). F b y) same-begun) s.added) (omega arith);
                same_cells = s.same_cells ∙ l.same_cells;
                same_ranges = λ at. s.same_ranges at ∙ l.same_ranges at;
                covering = λ v. absurd (omega arith);
              };
              within = tt;
            }

  -- Places whose items are all there, up to another place and up to the end; and places with no candidates.
  module _ {old old_marks old_cells mid mid_marks cells : List ℕ} {count y total : ℕ}
      (l : Advancing cell F from to old old_marks old_cells count mid mid_marks cells y total) where
    pass : (s : ℕ) → y + s ≤ to → ((q : ℕ) → y ≤ q → q < y + s → Known (chart_in mid total) (F (begun_with cell old) q))
        → Advancing cell F from to old old_marks old_cells count mid mid_marks cells (y + s) total
    pass zero h known = advance-at l (omega arith)
    pass (suc s) h known =
        advance-at
        (advance-known (pass s (omega arith) (λ q a b. known q a (omega arith))) (omega arith) (known (y + s) (omega arith) (omega arith)))
        (omega arith)

    pub advance-past : (p : ℕ) → y ≤ p → p ≤ to
        → ((q : ℕ) → y ≤ q → q < p → Known (chart_in mid total) (F (begun_with cell old) q))
        → Advancing cell F from to old old_marks old_cells count mid mid_marks cells p total
    advance-past p u v known = advance-at (pass (p - y) (omega arith) (λ q a b. known q a (omega arith))) (omega arith)

    pub advance-rest-known : ((q : ℕ) → y ≤ q → q < to → Known (chart_in mid total) (F (begun_with cell old) q))
        → AdvancedTo cell (flat_up (F (begun_with cell old)) from (to - from)) old old_marks old_cells count mid mid_marks cells (Some total)
    advance-rest-known known = elim (dec_le y to) [
      | yes h ↦ advance-end (advance-past to h (le_refl to) known) (le_refl to)
      | no d ↦ advance-end l (omega arith)
    ]

    pub advance-to : (p : ℕ) → y ≤ p → p ≤ to → ((q : ℕ) → y ≤ q → q < p → F (begun_with cell old) q ≡ [])
        → Advancing cell F from to old old_marks old_cells count mid mid_marks cells p total
    advance-to p u v empty = advance-past p u v (λ q a b. known-none (chart_in mid total) (empty q a b))

    pub advance-rest : ((q : ℕ) → y ≤ q → q < to → F (begun_with cell old) q ≡ [])
        → AdvancedTo cell (flat_up (F (begun_with cell old)) from (to - from)) old old_marks old_cells count mid mid_marks cells (Some total)
    advance-rest empty = advance-rest-known (λ q a b. known-none (chart_in mid total) (empty q a b))
