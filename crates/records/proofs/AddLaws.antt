-- Adding one record to a room. Its mark says whether its item is there; if not, and if the room holds one more, it is written after the
-- others and its foot is marked, so that room, count and marks agree again.
use Prim.Native.Nat.{ℕ, zero, suc, ◌+◌, ◌*◌, ◌≤◌, ◌<◌}
use native.Mathlib.Omega.{arith}
use mathlib.Core.Path.{◌≡◌, refl, sym, ◌∙◌, ap, ap₂, subst}
use mathlib.Core.Bool.{Bool, true, false, ◌||◌}
use mathlib.Core.List.{List, [], ◌∷◌, ◌++◌, map}
use mathlib.Core.Option.{none, some}
use lib.ListN.{length, take, drop}
use borrow.Author.Tests.{le-leb, lt-leb, lt-ltb, le-ltb}
use Rattle.grammar.specs.Items.{Foot}
use Rattle.grammar.specs.ItemList.{Item, item, same_foot, same_item, among}
use Rattle.grammar.specs.Chart.{Record, recorded, item_of}
use Rattle.grammar.proofs.ListLaws.{eqb-self}
use Rattle.chart_model.specs.Build.{added, add_each}
use Rattle.records.specs.Room.{record_at, chart_in, state_of, FootFits, FeetFit, foot_number, numbered, numbered_chart, mark_of}
use Rattle.records.specs.Room.{MarkAdded, Marked, Working, Added}
use Rattle.records.proofs.RoomLaws.{map-append, chart-length, chart-more, chart-kept, numbered-length, concat_map-last}
use Rattle.records.proofs.RoomLaws.{placed, placed-length, placed-kept, placed-taken, placed-rest, numbered-record}
use Rattle.records.proofs.MarkLaws.{same_number}

-- The model's state of a room whose count fits, and of one that is over.
pub state-fits : (room : ℕ) (bytes : List ℕ) (count : ℕ) → count ≤ room → state_of room bytes count ≡ some (chart_in bytes count)
state-fits room bytes count h = rw (le-leb count room h)

pub state-over : (room : ℕ) (bytes : List ℕ) (count : ℕ) → room < count → state_of room bytes count ≡ none
state-over room bytes count h = rw (lt-leb count room h)

-- What the model makes of one record.
pub adds-old : (room : ℕ) (r : Record) (c : List Record) → among (item_of r) (map item_of c) ≡ true
    → add_each room (r ∷ []) (some c) ≡ some c
adds-old room r c e = rw (e, added)

pub adds-new : (room : ℕ) (r : Record) (c : List Record) → among (item_of r) (map item_of c) ≡ false → length c < room
    → add_each room (r ∷ []) (some c) ≡ some (c ++ (r ∷ []))
adds-new room r c e h = rw (e, added) (rw (lt-ltb (length c) room h))

pub adds_none : (room : ℕ) (r : Record) (c : List Record) → among (item_of r) (map item_of c) ≡ false → room ≤ length c
    → add_each room (r ∷ []) (some c) ≡ none
adds_none room r c e h = rw (e, added) (rw (le-ltb (length c) room h))

-- What is among a list with one more.
or-pick : (a b : Bool) → elim a [ true ↦ true | false ↦ b ] ≡ (a || b)
or-pick true b = refl
or-pick false b = refl

or_swap : (a b c : Bool) → (a || (b || c)) ≡ (b || (a || c))
or_swap true true c = refl
or_swap true false c = refl
or_swap false b c = refl

pub among_first : (x y : Item) (l : List Item) → among x (y ∷ l) ≡ (same_item x y || among x l)
among_first x y l = or-pick (same_item x y) (among x l)

pub among-last : (x y : Item) (l : List Item) → among x (l ++ (y ∷ [])) ≡ (same_item x y || among x l)
among-last x y [] = among_first x y []
among-last x y (z ∷ l) =
    among_first x z (l ++ (y ∷ [])) ∙ ap (λ (b : Bool). same_item x z || b) (among-last x y l)
    ∙ or_swap (same_item x z) (same_item x y) (among x l) ∙ ap (λ (b : Bool). same_item x y || b) (sym (among_first x z l))

same-cell : (A i j : ℕ) (φ ψ : Foot) → same_item (item A i j φ) (item A i j ψ) ≡ same_foot φ ψ
same-cell A i j φ ψ = simp eqb-self

-- Feet that fit, with one more.
pub feet-last : (n N : ℕ) (c : List Record) (A i j : ℕ) (φ : Foot) (p x y z : ℕ) → FeetFit n N c → FootFits n N φ
    → FeetFit n N (c ++ (recorded (item A i j φ) p x y z ∷ []))
feet-last n N [] A i j φ p x y z h f zero l = f
feet-last n N [] A i j φ p x y z h f (suc m) l = absurd (omega arith)
feet-last n N (r ∷ c) A i j φ p x y z h f zero l = h zero (omega arith)
feet-last n N (r ∷ c) A i j φ p x y z h f (suc m) l =
    feet-last n N c A i j φ p x y z (λ k b. h (suc k) (omega arith)) f m (omega arith)

module _ (n N room A i j : ℕ) (old marks : List ℕ) (count : ℕ) (w : Working n N room A i j old marks count) (φ : Foot) (p x y z : ℕ)
    (fits : FootFits n N φ) where
  abbrev one : Record
  one = recorded (item A i j φ) p x y z

  -- The mark says whether the item is there.
  there : (b : Bool) → mark_of n N marks φ ≡ b → among (item A i j φ) (map item_of (chart_in old count)) ≡ b
  there b e = sym (w.marked φ fits) ∙ e

  pub added-seen : mark_of n N marks φ ≡ true → Added n N room A i j (one ∷ []) old marks count old marks count
  added-seen e =
      record {
        same_room = refl;
        same_marks = refl;
        grown = omega arith;
        kept = refl;
        model = state-fits room old count w.count_fits ∙ sym (adds-old room one (chart_in old count) (there true e));
        rest = λ _. refl;
        works = λ _. w;
      }

  pub added_full : mark_of n N marks φ ≡ false → room ≤ count → Added n N room A i j (one ∷ []) old marks count old marks (room + 1)
  added_full e h =
      record {
        same_room = refl;
        same_marks = refl;
        grown = omega (arith, w.count_fits);
        kept = refl;
        model = state-over room old (room + 1) (omega arith)
            ∙ sym (adds_none room one (chart_in old count) (there false e) (omega (arith, chart-length old count)));
        rest = λ l. absurd (omega arith);
        works = λ l. absurd (omega arith);
      }

  module _ (new : List ℕ) (marks' : List ℕ) (h : count < room) (so : new ≡ placed old count (numbered n N one))
      (more : MarkAdded (foot_number n N φ) marks marks') where
    within : 16 * count + 16 ≤ length old
    within = omega (arith, w.room_there)

    long : length (numbered n N one) ≡ 16
    long = numbered-length n N one

    new-kept : take (16 * count) new ≡ take (16 * count) old
    new-kept = ap (take (16 * count)) so ∙ placed-kept old count (numbered n N one) long within

    new-length : length new ≡ length old
    new-length = ap length so ∙ placed-length old count (numbered n N one) long within

    new-chart : chart_in new (count + 1) ≡ chart_in old count ++ (one ∷ [])
    new-chart =
        chart-more new count
        ∙ ap₂ (λ (c : List Record) (r : Record). c ++ (r ∷ [])) (chart-kept old new count new-kept)
        (ap (λ (l : List ℕ). record_at l count) so ∙ numbered-record old count n N A i j φ p x y z within fits)

    new-exact : take (16 * (count + 1)) new ≡ numbered_chart n N (chart_in new (count + 1))
    new-exact =
        ap (take (16 * (count + 1))) so ∙ placed-taken old count (numbered n N one) long within
        ∙ ap (λ (l : List ℕ). l ++ numbered n N one) w.exact ∙ sym (concat_map-last (numbered n N) (chart_in old count) one)
        ∙ ap (numbered_chart n N) (sym new-chart)

    new-marked : Marked n N A i j (chart_in new (count + 1)) marks'
    new-marked ψ f =
        more.others (foot_number n N ψ)
        ∙ ap₂ (λ (a b : Bool). a || b) (same_number n N ψ φ f fits ∙ sym (same-cell A i j ψ φ)) (w.marked ψ f)
        ∙ sym (among-last (item A i j ψ) (item A i j φ) (map item_of (chart_in old count)))
        ∙ ap (among (item A i j ψ)) (sym (ap (map item_of) new-chart ∙ map-append item_of (chart_in old count) (one ∷ [])))

    new-feet : FeetFit n N (chart_in new (count + 1))
    new-feet = subst (FeetFit n N) (sym new-chart) (feet-last n N (chart_in old count) A i j φ p x y z w.feet fits)

    pub added_new : mark_of n N marks φ ≡ false → Added n N room A i j (one ∷ []) old marks count new marks' (count + 1)
    added_new e =
        record {
          same_room = new-length;
          same_marks = more.same_length;
          grown = omega arith;
          kept = new-kept;
          model = state-fits room new (count + 1) (omega arith) ∙ ap some new-chart
              ∙ sym (adds-new room one (chart_in old count) (there false e) (omega (arith, chart-length old count)));
          rest = λ _. ap (drop (16 * (count + 1))) so ∙ placed-rest old count (numbered n N one) long within;
          works = λ _. record {
            words_fit = w.words_fit;
            symbols_fit = w.symbols_fit;
            room_small = w.room_small;
            room_there = omega (arith, w.room_there, new-length);
            marks_there = omega (arith, w.marks_there, more.same_length);
            count_fits = omega arith;
            exact = new-exact;
            marked = new-marked;
            feet = new-feet;
          };
        }
