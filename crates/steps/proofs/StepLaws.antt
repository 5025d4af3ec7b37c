-- Adding records to a room, in parts. What one call adds and then another is what both add together; so a loop whose calls add the
-- candidates of one place each adds those of all places, and where the room is full the candidates that are left add nothing.
use Prim.Native.Nat.{ℕ, zero, suc, ◌+◌, ◌*◌, ◌-◌, ◌≤◌, ◌<◌}
use native.Mathlib.Nat.{le_refl, add-zero, add-suc, suc-add, add_assoc}
use native.Mathlib.Omega.{arith}
use mathlib.Core.Path.{◌≡◌, refl, sym, ◌∙◌, ap, subst}
use mathlib.Core.List.{List, [], ◌∷◌, ◌++◌, append-nil, append_assoc}
use mathlib.Core.Option.{none, some}
use Rattle.std.specs.Prelude.{Option, Some, None}
use lib.ListN.{length, drop}
use lib.Seq.{drop-drop}
use Rattle.grammar.specs.Lists.{concat_map}
use Rattle.grammar.specs.Chart.{Record}
use Rattle.layout.specs.Bytes.{counted}
use Rattle.chart_model.specs.Build.{flat_up, foot_at, add_each}
use Rattle.chart_model.proofs.BuildLaws.{flat_up-more, add_each-append, add_each-none}
use Rattle.records.specs.declared.record.OpenCell.{OpenCell}
use Rattle.records.specs.declared.record.Foot as declared
use Rattle.records.specs.declared.record.Origin.{Origin}
use Rattle.records.specs.declared.cells.Range.{Range}
use Rattle.records.specs.Room.{record_from, foot_there, foot_fields, chart_in, state_of, FootFits, number_there, Working, Added}
use Rattle.records.specs.Filling.{begun_with, WorksOn, AddedTo, FootGiven, Adding}
use Rattle.steps.specs.Candidates.{reached}
use Rattle.records.proofs.AddLaws.{state-fits, state-over}
use Rattle.records.proofs.RoomLaws.{take_less, chart-length, chart-kept-below, foot-at, number-there, writable-there}

-- What two lists share at their end they share at a shorter end.
drop-less : (a b : ℕ) (x y : List ℕ) → a ≤ b → drop a x ≡ drop a y → drop b x ≡ drop b y
drop-less a b x y h e =
    let s : a + (b - a) ≡ b = omega arith in
    subst (λ (k : ℕ). drop k x ≡ drop k y) s (sym (drop-drop (b - a) a x) ∙ (ap (drop (b - a)) e ∙ drop-drop (b - a) a y))

-- A list made place by place: in two parts, by one place more, and as a list of places.
module _ {A : Type 0} (f : ℕ → List A) where
  pub flat_up-add : (from a b : ℕ) → flat_up f from (a + b) ≡ flat_up f from a ++ flat_up f (from + a) b
  flat_up-add from a zero = rw (add-zero, append-nil)
  flat_up-add from a (suc b) = rw (add-suc, flat_up-add from a b, append_assoc, add_assoc)

  flat_up-first : (from m : ℕ) → flat_up f from (suc m) ≡ f from ++ flat_up f (suc from) m
  flat_up-first from zero = rw (add-zero, append-nil)
  flat_up-first from (suc m) = rw (flat_up-first from m, append_assoc, add-suc, suc-add)

  pub concat_map-counted : (from m : ℕ) → concat_map f (counted from m) ≡ flat_up f from m
  concat_map-counted from zero = refl
  concat_map-counted from (suc m) = ap (λ (l : List A). f from ++ l) (concat_map-counted (suc from) m) ∙ sym (flat_up-first from m)

module _ {n N room A i j : ℕ} where
  -- Nothing is added.
  pub added_none : {chart marks : List ℕ} {count : ℕ} → Working n N room A i j chart marks count
      → Added n N room A i j [] chart marks count chart marks count
  added_none {chart} {marks} {count} w =
      record {
        same_room = refl;
        same_marks = refl;
        grown = le_refl count;
        kept = refl;
        model = state-fits room chart count w.count_fits;
        rest = λ h. refl;
        works = λ h. w;
      }

  -- The records to add may be written otherwise.
  pub added-as : {rs ss : List Record} {old old_marks new new_marks : List ℕ} {count after : ℕ} → rs ≡ ss
      → Added n N room A i j rs old old_marks count new new_marks after
      → Added n N room A i j ss old old_marks count new new_marks after
  added-as {old = old} {old_marks} {new} {new_marks} {count} {after} e a =
      subst (λ (l : List Record). Added n N room A i j l old old_marks count new new_marks after) e a

  -- One call after another.
  pub added_then : {rs ss : List Record} {old old_marks mid mid_marks new new_marks : List ℕ} {count total after : ℕ}
      → Added n N room A i j rs old old_marks count mid mid_marks total → total ≤ room
      → Added n N room A i j ss mid mid_marks total new new_marks after
      → Added n N room A i j (rs ++ ss) old old_marks count new new_marks after
  added_then {rs} {ss} {old} {mid = mid} {new = new} {count = count} {total} {after} a h b =
      record {
        same_room = b.same_room ∙ a.same_room;
        same_marks = b.same_marks ∙ a.same_marks;
        grown = omega arith;
        kept = take_less mid new (16 * count) (16 * total) (omega arith) b.kept ∙ a.kept;
        model = b.model
            ∙ (ap (add_each room ss) (sym (state-fits room mid total h) ∙ a.model)
            ∙ sym (add_each-append room rs ss (some (chart_in old count))));
        rest = λ l. b.rest l ∙ drop-less (16 * total) (16 * after) mid old (omega arith) (a.rest h);
        works = b.works;
      }

  -- The room is full: more candidates change nothing.
  pub added-over : {rs : List Record} {old old_marks new new_marks : List ℕ} {count after : ℕ} (ss : List Record)
      → Added n N room A i j rs old old_marks count new new_marks after → room < after
      → Added n N room A i j (rs ++ ss) old old_marks count new new_marks after
  added-over {rs} {old} {new = new} {count = count} {after} ss a h =
      record {
        same_room = a.same_room;
        same_marks = a.same_marks;
        grown = a.grown;
        kept = a.kept;
        model = over ∙ (sym (add_each-none room ss)
            ∙ (ap (add_each room ss) (sym over ∙ a.model) ∙ sym (add_each-append room rs ss (some (chart_in old count)))));
        rest = λ l. absurd (omega arith);
        works = λ l. absurd (omega arith);
      }
    where
      over : state_of room new after ≡ none
      over = state-over room new after h

  -- The records below the count stay as they are.
  pub chart-kept : {rs : List Record} {old old_marks new new_marks : List ℕ} {count after : ℕ} (base : ℕ) → base ≤ count
      → Added n N room A i j rs old old_marks count new new_marks after → chart_in new base ≡ chart_in old base
  chart-kept {old = old} {new = new} {count = count} base h a = chart-kept-below old new base count h a.kept

-- A loop over the places from `from` to below `to` is at y, and has added the candidates f of the places passed.
pub record Looped (n N room A i j : ℕ) (f : ℕ → List Record) (from to : ℕ) (old old_marks : List ℕ) (count : ℕ) (new new_marks : List ℕ)
    (y total : ℕ) : Type 0 where
  pub begun : from ≤ y
  pub within : y - from ≤ to - from
  pub fits : total ≤ room
  pub sofar : Added n N room A i j (flat_up f from (y - from)) old old_marks count new new_marks total

module _ {n N room A i j : ℕ} {f : ℕ → List Record} {from to : ℕ} where
  pub loop-start : {chart marks : List ℕ} {count : ℕ} → Working n N room A i j chart marks count
      → Looped n N room A i j f from to chart marks count chart marks from count
  loop-start w =
      record {
        begun = le_refl from;
        within = omega arith;
        fits = w.count_fits;
        sofar = added-as (ap (flat_up f from) none_passed) (added_none w);
      }
    where
      none_passed : 0 ≡ from - from
      none_passed = omega arith

  module _ {old old_marks mid mid_marks : List ℕ} {count y total : ℕ}
      (l : Looped n N room A i j f from to old old_marks count mid mid_marks y total) where
    -- The room and the marks at the place y.
    pub loop-works : Working n N room A i j mid mid_marks total
    loop-works = l.sofar.works l.fits

    -- The records at the begin are as they were.
    pub loop-kept : (base : ℕ) → base ≤ count → chart_in mid base ≡ chart_in old base
    loop-kept base v = chart-kept base v l.sofar

    -- The loop ends at `to`, or did not begin.
    pub loop-end : to ≤ y → Added n N room A i j (flat_up f from (to - from)) old old_marks count mid mid_marks total
    loop-end h = added-as (ap (flat_up f from) all-passed) l.sofar
      where
        all-passed : y - from ≡ to - from
        all-passed = omega arith

    module _ {new new_marks : List ℕ} {after : ℕ} (h : y < to) (b : Added n N room A i j (f y) mid mid_marks total new new_marks after) where
      one_more : Added n N room A i j (flat_up f from (y + 1 - from)) old old_marks count new new_marks after
      one_more =
          added-as (ap (λ (k : ℕ). flat_up f from (y - from) ++ f k) at ∙ (sym (flat_up-more f from (y - from)) ∙ ap (flat_up f from) next))
          (added_then l.sofar l.fits b)
        where
          at : y ≡ from + (y - from)
          at = omega arith

          next : y - from + 1 ≡ y + 1 - from
          next = omega arith

      -- A turn: a call that adds the candidates of y.
      pub loop-turn : after ≤ room → Looped n N room A i j f from to old old_marks count new new_marks (y + 1) after
      loop-turn fits = record { begun = omega arith; within = omega arith; fits = fits; sofar = one_more }

      -- The last turn, where the room is full.
      pub loop-over : room < after → Added n N room A i j (flat_up f from (to - from)) old old_marks count new new_marks after
      loop-over full =
          added-as (sym (flat_up-add f from (y + 1 - from) left) ∙ ap (flat_up f from) all)
          (added-over (flat_up f (from + (y + 1 - from)) left) one_more full)
        where
          left : ℕ
          left = to - from - (y + 1 - from)

          all : y + 1 - from + left ≡ to - from
          all = omega arith

-- The same as the functions answer it: no candidates; a turn whose call answers a count; one whose call found the room full, and so does the
-- function; and the end.
module _ {cell : OpenCell} where
  pub nothing-added : {chart marks : List ℕ} {count : ℕ} → WorksOn cell chart marks count
      → AddedTo cell [] chart marks count chart marks (Some count)
  nothing-added w = record { added = added_none w; within = w.count_fits }

  pub added-to-as : {rs ss : List Record} {old old_marks new new_marks : List ℕ} {count : ℕ} {after : Option ℕ} → rs ≡ ss
      → AddedTo cell rs old old_marks count new new_marks after → AddedTo cell ss old old_marks count new new_marks after
  added-to-as e a = record { added = added-as e a.added; within = a.within }

  module _ {f : ℕ → List Record} {from to : ℕ} {old old_marks mid mid_marks : List ℕ} {count y total : ℕ}
      (l : Looped cell.words cell.symbols cell.room cell.left cell.from cell.to f from to old old_marks count mid mid_marks y total) where
    pub loop-next : {new new_marks : List ℕ} {after : ℕ} → y < to → AddedTo cell (f y) mid mid_marks total new new_marks (Some after)
        → Looped cell.words cell.symbols cell.room cell.left cell.from cell.to f from to old old_marks count new new_marks (y + 1) after
    loop-next h b = loop-turn l h b.added b.within

    pub loop-full : {new new_marks : List ℕ} → y < to → AddedTo cell (f y) mid mid_marks total new new_marks None
        → AddedTo cell (flat_up f from (to - from)) old old_marks count new new_marks None
    loop-full h b = record { added = loop-over l h b.added (omega arith); within = tt }

    pub loop-done : to ≤ y → AddedTo cell (flat_up f from (to - from)) old old_marks count mid mid_marks (Some total)
    loop-done h = record { added = loop-end l h; within = l.fits }

-- A record below the count: its foot fits, and is the one that it had when the cell was begun.
module _ {n N room A i j : ℕ} where
  pub foot-fits : {chart marks : List ℕ} {count : ℕ} (y : ℕ) → Working n N room A i j chart marks count → y < count
      → FootFits n N (foot_there chart y)
  foot-fits {chart} {marks} {count} y w h =
      subst (FootFits n N) (foot-at chart count y h) (w.feet y (rw (chart-length chart count) h))

  pub foot-kept : {rs : List Record} {old old_marks new new_marks : List ℕ} {count after : ℕ} (base y : ℕ) → y < base → base ≤ count
      → Added n N room A i j rs old old_marks count new new_marks after → foot_at (chart_in old base) y ≡ foot_there new y
  foot-kept {old = old} {new = new} base y h l a =
      ap (λ (b : List Record). foot_at b y) (sym (chart-kept base l a)) ∙ foot-at new base y h

  -- Its bytes are there.
  pub record-there : {chart marks : List ℕ} {count : ℕ} (y : ℕ) → Working n N room A i j chart marks count → y < count
      → 16 * y + 16 ≤ length chart
  record-there y w h = omega (arith, w.room_there, w.count_fits)

-- As the code reads it, its foot may be written again, and the number that it reads is the foot's.
pub read_again : (cell : OpenCell) {chart marks : List ℕ} {count number : ℕ} {f : declared.Foot} (y : ℕ) → WorksOn cell chart marks count
    → y < count → f ≡ foot_fields chart y → number ≡ number_there chart y → FootGiven cell f number
read_again cell {chart} {count = count} {number} y w h e d =
    subst (λ (f : declared.Foot). FootGiven cell f number) (sym e) record {
      fits = foot-fits y w h;
      writable = writable-there cell.words cell.symbols chart count w.exact y h;
      numbered = d ∙ number-there cell.words cell.symbols chart count w.exact y h;
    }

-- A loop over a range that adds one record at each place, with the foot that stands there: what the calls of a turn ask, and that the foot, read
-- in the present room, is the one that stood there when the cell was begun.
module _ {cell : OpenCell} {range : Range} {old old_marks : List ℕ} {count : ℕ} (q : Adding cell old old_marks range count)
    {f : ℕ → List Record} {mid mid_marks : List ℕ} {y total : ℕ}
    (l : Looped cell.words cell.symbols cell.room cell.left cell.from cell.to f range.from range.to old old_marks count
    mid mid_marks y total) (h : y < range.to) where
  below : y < total
  below = omega (arith, q.begun, q.below, l.sofar.grown)

  pub turn-there : 16 * y + 16 ≤ length mid
  turn-there = record-there y (loop-works l) below

  pub turn_small : y < 65535
  turn_small = omega (arith, below, l.fits, q.works.room_small)

  pub turn-asks : {number : ℕ} {foot : declared.Foot} → foot ≡ foot_fields mid y → number ≡ number_there mid y
      → WorksOn cell mid mid_marks total × FootGiven cell foot number
  turn-asks e d = (loop-works l, read_again cell y (loop-works l) below e d)

  pub turn-adds : (O : ℕ → Origin) {new new_marks : List ℕ} {after : Option ℕ} {foot : declared.Foot} {o : Origin}
      → foot ≡ foot_fields mid y → o ≡ O y → AddedTo cell (record_from cell foot o ∷ []) mid mid_marks total new new_marks after
      → AddedTo cell (reached cell O (begun_with cell old) y) mid mid_marks total new new_marks after
  turn-adds O e d b =
      let kept = foot-kept cell.base y (omega (arith, q.below)) q.begun l.sofar in
      added-to-as (cc) b
