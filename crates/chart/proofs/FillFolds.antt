-- Spans, ends and all: each is a fold of the level below, and `Filled` goes with the fold, one turn at a time. A turn only adds records; one
-- that changes nothing may be left out; and once an item did not fit none does.
use Prim.Native.Nat.{ℕ, suc, ◌+◌, ◌-◌, ◌*◌, ◌≤◌, ◌<◌}
use native.Mathlib.Nat.{le_refl}
use native.Mathlib.Omega.{arith}
use mathlib.Core.Path.{◌≡◌, refl, sym, ◌∙◌, ap}
use mathlib.Core.Bool.{Bool}
use mathlib.Core.List.{List, []}
use mathlib.Core.Option.{Option, none, some}
use lib.ListN.{length, drop, take-append-drop}
use lib.Seq.{drop-drop}
use Rattle.std.specs.Prelude.{Option as Answer, Some, None, IfSome}
use Rattle.grammar.specs.Rewriting.{Rule}
use Rattle.grammar.specs.Chart.{Record}
use Rattle.chart_model.specs.Build.{fold_up, places as positions, fill_cell, close_span, close_back, close_end}
use Rattle.chart_model.proofs.BuildLaws.{fold_up-more}
use Rattle.chart_model.proofs.FillModel.{grown-length, cell-grown, span-grown, end-grown, all_grown, places-other, fold-none}
use Rattle.records.specs.Room.{chart_in}
use Rattle.records.proofs.RoomLaws.{chart-length}
use Rattle.chart.specs.Fill.{held, Between, Filled, Closed}

-- Folds of turns, each of which may be none once an item did not fit.
drop-later : (x y : List ℕ) (m k : ℕ) → drop m x ≡ drop m y → m ≤ k → drop k x ≡ drop k y
drop-later x y m k e l =
    let s : k ≡ m + (k - m) = omega arith in
    rw s (sym (drop-drop (k - m) m x) ∙ (ap (drop (k - m)) e ∙ drop-drop (k - m) m y))

-- Nothing was filled yet.
pub filled_none : {g : List Rule} {n N room count : ℕ} {s : Option (List Record)}
    {chart marks cells sets : List ℕ} → Between g n N room chart marks cells sets count → some (chart_in chart count) ≡ s
    → Filled g n N room s chart chart marks cells sets (Some count)
filled_none b e = record { same_room = refl; model = e; rest = refl; ready = b }

-- Turns only add records.
abbrev pub Grows : (ℕ → Option (List Record) → Option (List Record)) → Type 0
Grows f = (m : ℕ) (c b : List Record) → f m (some c) ≡ some b → length c ≤ length b

module _ (room : ℕ) (g : List Rule) (at : ℕ → ℕ → Bool) where
  pub cell-grows : (len i : ℕ) → Grows (fill_cell room g at len i)
  cell-grows len i m c b q = grown-length (cell-grown room g at len i m q)

  pub span-grows : (N e : ℕ) → Grows (close_back room g at N e)
  span-grows N e m c b q = grown-length (span-grown room g at (suc m) (e - m) N q)

  pub end-grows : (N : ℕ) → Grows (close_end room g at N)
  end-grows N e c b q = grown-length (end-grown room g at N e (suc e) (le_refl (suc e)) q)

module _ {g : List Rule} {n N room total : ℕ} {old mid marks cells sets : List ℕ}
    (f : ℕ → Option (List Record) → Option (List Record)) (m : ℕ) (s : Option (List Record))
    (sofar : Filled g n N room (fold_up f m s) old mid marks cells sets (Some total)) where
  more : {t : Option (List Record)} → t ≡ f m (some (chart_in mid total)) → t ≡ fold_up f (m + 1) s
  more e = e ∙ (ap (f m) sofar.model ∙ sym (fold_up-more f m s))

  -- One turn more.
  pub fold-then : {after : Answer ℕ} {new marks' cells' sets' : List ℕ} → Grows f
      → Filled g n N room (f m (some (chart_in mid total))) mid new marks' cells' sets' after
      → Filled g n N room (fold_up f (m + 1) s) old new marks' cells' sets' after
  fold-then {after} {new = new} grows turn =
      record {
        same_room = turn.same_room ∙ sofar.same_room;
        model = more turn.model;
        rest = rest after turn.model turn.rest;
        ready = turn.ready;
      }
    where
      rest : (a : Answer ℕ) → held new a ≡ f m (some (chart_in mid total)) → IfSome a (λ k. drop (16 * k) new ≡ drop (16 * k) mid)
          → IfSome a (λ k. drop (16 * k) new ≡ drop (16 * k) old)
      rest None e d = tt
      rest (Some k) e d =
          let longer = grows m (chart_in mid total) (chart_in new k) (sym e) in
          d ∙ drop-later mid old (16 * total) (16 * k) sofar.rest (omega (arith, chart-length mid total, chart-length new k, longer))

  -- A turn that changes nothing.
  pub fold-skip : f m (some (chart_in mid total)) ≡ some (chart_in mid total)
      → Filled g n N room (fold_up f (m + 1) s) old mid marks cells sets (Some total)
  fold-skip idle = record { same_room = sofar.same_room; model = more (sym idle); rest = sofar.rest; ready = sofar.ready }

-- An item did not fit in turn m: so none does at the end.
pub fold_over : {g : List Rule} {n N room : ℕ}
    {old new marks cells sets : List ℕ} (f : ℕ → Option (List Record) → Option (List Record)) (m k : ℕ) (s : Option (List Record))
    → ((l : ℕ) → f l none ≡ none)
    → Filled g n N room (fold_up f (m + 1) s) old new marks cells sets None → m < k
    → Filled g n N room (fold_up f k s) old new marks cells sets None
fold_over f m k s stays last l =
    record { same_room = last.same_room; model = sym (fold-none f s (m + 1) k stays (sym last.model) (omega arith)); rest = tt; ready = tt }

pub fold_at : {g : List Rule} {n N room : ℕ} {old new marks cells sets : List ℕ} {after : Answer ℕ}
    (f : ℕ → Option (List Record) → Option (List Record)) (m k : ℕ) (s : Option (List Record)) → m ≡ k
    → Filled g n N room (fold_up f m s) old new marks cells sets after
    → Filled g n N room (fold_up f k s) old new marks cells sets after
fold_at f m k s e h = rw e at h

-- The next span of an end, and the spans of the next end, are still without records.
pub fresh-span : {b : List Record} (c : List Record) (room : ℕ) (g : List Rule) (at : ℕ → ℕ → Bool) (N e i A : ℕ) → i ≤ e
    → ((A i : ℕ) → positions c A i (e + 1) ≡ []) → fold_up (close_back room g at N e) (e - i) (some c) ≡ some b → positions b A i (e + 1) ≡ []
fresh-span c room g at N e i A h fresh q =
    places-other A i (e + 1) (λ (u, v). omega arith) (end-grown room g at N e (e - i) (omega arith) q) ∙ fresh A i

pub fresh-end : {b : List Record} (room : ℕ) (g : List Rule) (at : ℕ → ℕ → Bool) (N e A i : ℕ)
    → fold_up (close_end room g at N) e (some []) ≡ some b → positions b A i (e + 1) ≡ []
fresh-end room g at N e A i q = places-other A i (e + 1) (λ h. omega arith) (all_grown room g at N e q)

-- The turn for the span from i, in the model's terms.
pub span-turn : {g : List Rule} {n N room : ℕ} {mid new marks cells sets : List ℕ} {after : Answer ℕ}
    (at : ℕ → ℕ → Bool) (e i total : ℕ) → i ≤ e
    → Filled g n N room (close_span room g at N (e + 1 - i) i (some (chart_in mid total))) mid new marks cells sets after
    → Filled g n N room (close_back room g at N e (e - i) (some (chart_in mid total))) mid new marks cells sets after
span-turn at e i total l h =
    let p : e + 1 - i ≡ suc (e - i) = omega arith in
    let q : e - (e - i) ≡ i = omega arith in
    rw q (rw p at h)

-- All ends are closed.
pub closed_all : {g : List Rule} {n N room : ℕ} {s : Option (List Record)} {old new marks cells sets : List ℕ} (after : Answer ℕ)
    → Filled g n N room s old new marks cells sets after → Closed n N room s old new after
closed_all None f = record { same_room = f.same_room; model = f.model; charted = tt }
closed_all {new = new} (Some count) f =
    record {
      same_room = f.same_room;
      model = f.model;
      charted = (f.ready.count_fits, sym (take-append-drop (16 * count) new) ∙ rw (f.ready.exact, f.rest));
    }
