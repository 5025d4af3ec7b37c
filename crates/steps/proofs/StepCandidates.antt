-- The candidates of one production over one split, as the steps find them: the table gives the records of a cell as a range of
-- positions, so what the model makes from a list of positions is made place by place.
use Prim.Native.Nat.{ℕ, suc, ◌+◌, ◌*◌, ◌-◌, ◌/◌, ◌≤◌, ◌<◌}
use native.Mathlib.Omega.{arith}
use mathlib.Core.Path.{◌≡◌, refl, sym, ◌∙◌, ap, subst}
use mathlib.Core.Bool.{Bool, true, false, cond}
use mathlib.Core.List.{List, [], ◌∷◌, append-nil}
use lib.Dec.{eqb}
use Rattle.std.specs.Prelude.{Option, Some, None}
use borrow.Author.Tests.{eq-eqb, ne_eqb}
use Rattle.grammar.specs.Lists.{concat_map}
use Rattle.grammar.specs.Items.{Foot, bare, foot}
use Rattle.grammar.specs.ItemList.{item}
use Rattle.grammar.specs.Chart.{Record, recorded, nowhere}
use Rattle.layout.specs.Bytes.{counted}
use Rattle.card.specs.declared.Action.{Action}
use Rattle.card.specs.declared.Action.TheVariants.{Take, Keep, Give}
use Rattle.card.specs.declared.Production.{Production}
use Rattle.card.specs.declared.Production.TheVariants.{Word, SideFirst, SideLast}
use Rattle.card.specs.Productions.{action_from, rule_from}
use Rattle.chart_model.specs.Build.{flat_up, places, bare_places, foot_at, taken_from, kept_from, continued, given_foot, given_from, by_action, by_rule}
use Rattle.records.specs.declared.record.OpenCell.{OpenCell}
use Rattle.records.specs.declared.record.Foot as declared
use Rattle.records.specs.declared.cells.Range.{Range}
use Rattle.records.specs.Room.{as_foot, foot_there, foot_fields, chart_in, FootFits, Writable, foot_number, number_there, Working, Added}
use Rattle.records.specs.Cells.{cell_at, range_in, bare_in, SpanFits, Indexed}
use Rattle.records.specs.Cover.{CellRange}
use Rattle.records.proofs.RoomLaws.{chart-length, foot-at, number-there}
use Rattle.records.proofs.TableLaws.{number-cell}
use Rattle.steps.specs.declared.element.Element.{Element}
use Rattle.steps.specs.declared.element.Elements.{Elements}
use Rattle.steps.specs.Fits.{RuleFits}
use Rattle.steps.specs.Candidates.{meets, produces, ElementFits, ElementsFit}
use Rattle.steps.proofs.StepLaws.{concat_map-counted, added_none, added-as, foot-fits}

-- A take has one record, from the first place, if there is a place.
module _ (A i j p x : ℕ) (φ : Foot) (from to : ℕ) where
  pub taken_none : to ≤ from → taken_from A i j p x φ (counted from (to - from)) ≡ []
  taken_none h =
      let e : to - from ≡ 0 = omega arith in
      ap (λ (m : ℕ). taken_from A i j p x φ (counted from m)) e

  pub taken-one : from < to → taken_from A i j p x φ (counted from (to - from)) ≡ recorded (item A i j φ) p x from nowhere ∷ []
  taken-one h =
      let e : to - from ≡ suc (to - from - 1) = omega arith in
      ap (λ (m : ℕ). taken_from A i j p x φ (counted from m)) e

-- The table read at a cell: the positions of the cell's records, none of them past the base, and of its bare item.
module _ {n N : ℕ} (chart : List ℕ) (base : ℕ) {cells : List ℕ} (t : Indexed n N (chart_in chart base) cells) (at : ℕ) {R : Range}
    (r : R ≡ range_in cells at) where
  pub to_below : R.to ≤ base
  to_below = subst (λ (R : Range). R.to ≤ base) (sym r) (omega (arith, t.to_within at, chart-length chart base))

module _ {n N : ℕ} (chart : List ℕ) (base : ℕ) {cells : List ℕ} (t : Indexed n N (chart_in chart base) cells) {B p q : ℕ}
    (s : SpanFits n N B p q) {at : ℕ} (e : at ≡ cell_at N B p q) {R : Range} (r : R ≡ range_in cells at) where
  read-range : R ≡ range_in cells (cell_at N B p q)
  read-range = r ∙ ap (range_in cells) e

  pub range-places : places (chart_in chart base) B p q ≡ counted R.from (R.to - R.from)
  range-places =
      subst (λ (R : Range). places (chart_in chart base) B p q ≡ counted R.from (R.to - R.from)) (sym read-range)
      (t.ranges B p q s.0 s.1 s.2)

  abbrev pub cell-range : CellRange n N (chart_in chart base) at R.from R.to
  cell-range = record { symbol = B; start = p; end = q; fits = s; number = e; stands = range-places }

  pub range-bares : bare_places (chart_in chart base) B p q ≡ bare_in R.bare
  range-bares =
      subst (λ (R : Range). bare_places (chart_in chart base) B p q ≡ bare_in R.bare) (sym read-range)
      (t.bares B p q s.0 s.1 s.2)

-- The cell of an element: that it lies within the line is told by its span.
pub element-span : (cell : OpenCell) (x : Element) → ElementFits cell x → SpanFits cell.words cell.symbols x.symbol x.span.from x.span.to
element-span cell x (a, e) = (a, x.span.some, omega (arith, x.span.inside, e))

-- A foot with an index has parts that fit, and the eighth part of its number is the place of its cell.
foot-known : (γ B p q : ℕ) → 1 ≤ γ → as_foot γ B p q ≡ foot γ B p q
foot-known γ B p q h = rw (ne_eqb γ 0 (λ z. absurd (omega arith)))

module _ (n N γ B p q : ℕ) (h : 1 ≤ γ) where
  foot-span : FootFits n N (as_foot γ B p q) → SpanFits n N B p q
  foot-span f = let (a, b, c, d, e) = subst (FootFits n N) (foot-known γ B p q h) f in (c, d, e)

  pub foot-made : γ ≤ 8 → SpanFits n N B p q → FootFits n N (as_foot γ B p q)
  foot-made l s = subst (FootFits n N) (sym (foot-known γ B p q h)) (h, l, s.0, s.1, s.2)

  foot-cell : FootFits n N (as_foot γ B p q) → foot_number n N (as_foot γ B p q) / 8 ≡ cell_at N B p q
  foot-cell f =
      ap (λ (φ : Foot). foot_number n N φ / 8) (foot-known γ B p q h)
      ∙ number-cell n N γ B p q (subst (FootFits n N) (foot-known γ B p q h) f)

  -- As a take makes it: the number from the cell's place, and the foot may be written as it is.
  pub foot-numbered : {at g k : ℕ} → at ≡ cell_at N B p q → g ≡ γ → k ≡ 8 * at + g - 1 → k ≡ foot_number n N (as_foot γ B p q)
  foot-numbered {k = k} e d s = subst (λ (φ : Foot). k ≡ foot_number n N φ) (sym (foot-known γ B p q h)) (omega arith)

pub with-index : (f : declared.Foot) → 1 ≤ f.index → Writable f
with-index f h e = absurd (omega arith)

-- A give of g from a record with the foot φ: only if the foot's index is g, and then from the records of the foot's cell.
module _ (b : List Record) (A i j p x y g : ℕ) where
  given-other : (γ B q r : ℕ) → (γ ≡ g → ⊥) → given_foot b A i j p x y g (as_foot γ B q r) ≡ []
  given-other γ B q r d = go (eqb γ 0)
    where
      go : (t : Bool) → given_foot b A i j p x y g (cond t bare (foot γ B q r)) ≡ []
      go true = refl
      go false = rw (ne_eqb γ g d, given_foot)

  given-same : (γ B q r from to : ℕ) → γ ≡ g → 1 ≤ g → places b B q r ≡ counted from (to - from)
      → flat_up (continued b A i j p x y) from (to - from) ≡ given_foot b A i j p x y g (as_foot γ B q r)
  given-same γ B q r from to d h l =
      rw (ne_eqb γ 0 (λ z. absurd (omega arith)), eq-eqb γ g d, given_foot)
      (sym (ap (concat_map (continued b A i j p x y)) l ∙ concat_map-counted (continued b A i j p x y) from (to - from)))

-- The record at y as the code reads it: its index, and the number of its foot.
module _ {n N room A i j : ℕ} {chart marks : List ℕ} {count : ℕ} (w : Working n N room A i j chart marks count) (base y : ℕ)
    (h : y < base) (l : base ≤ count) where
  abbrev f : declared.Foot
  f = foot_fields chart y

  read-foot : foot_there chart y ≡ foot_at (chart_in chart base) y
  read-foot = sym (foot-at chart base y h)

  pub given-none : {g : ℕ} (p x : ℕ) → (f.index ≡ g → ⊥)
      → Added n N room A i j (given_from (chart_in chart base) A i j p x g y) chart marks count chart marks count
  given-none {g} p x d =
      added-as (sym (given-other b A i j p x y g f.index f.symbol f.from f.to d)
      ∙ ap (given_foot b A i j p x y g) read-foot) (added_none w)
    where
      b : List Record
      b = chart_in chart base

  module _ {g : ℕ} (d : f.index ≡ g) (u : 1 ≤ g) where
    pub given-span : SpanFits n N f.symbol f.from f.to
    given-span = foot-span n N f.index f.symbol f.from f.to (omega arith) (foot-fits y w (omega arith))

    -- The eighth part of the number is the place of the foot's cell.
    pub given-at : {number : ℕ} → number ≡ number_there chart y → number / 8 ≡ cell_at N f.symbol f.from f.to
    given-at e =
        ap (λ (k : ℕ). k / 8) (e ∙ number-there n N chart count w.exact y (omega arith))
        ∙ foot-cell n N f.index f.symbol f.from f.to (omega arith) (foot-fits y w (omega arith))

    pub given-each : (p x : ℕ) (R : Range) → places (chart_in chart base) f.symbol f.from f.to ≡ counted R.from (R.to - R.from)
        → flat_up (continued (chart_in chart base) A i j p x y) R.from (R.to - R.from) ≡ given_from (chart_in chart base) A i j p x g y
    given-each p x R t =
        given-same b A i j p x y g f.index f.symbol f.from f.to R.from R.to d u t
        ∙ ap (given_foot b A i j p x y g) read-foot
      where
        b : List Record
        b = chart_in chart base

-- A list of positions that is a range.
ranged : (f : ℕ → List Record) {l : List ℕ} (from m : ℕ) → l ≡ counted from m → flat_up f from m ≡ concat_map f l
ranged f from m t = sym (ap (concat_map f) t ∙ concat_map-counted f from m)

-- The three actions, from the range of the dependent's records.
module _ (b : List Record) (D k m A i j p x : ℕ) where
  same-action : {a a' : Action} → a ≡ a' → by_action b (action_from a') D k m A i j p x ≡ by_action b (action_from a) D k m A i j p x
  same-action e = ap (λ (a : Action). by_action b (action_from a) D k m A i j p x) (sym e)

  module _ (R : Range) (t : places b D k m ≡ counted R.from (R.to - R.from)) where
    pub by-take : {a : Action} {g : ℕ} → a ≡ Take g → 1 ≤ g
        → taken_from A i j p x (as_foot g D k m) (counted R.from (R.to - R.from)) ≡ by_action b (action_from a) D k m A i j p x
    by-take {g = g} e h = rw (ne_eqb g 0 (λ z. absurd (omega arith))) (sym (ap (taken_from A i j p x (foot g D k m)) t) ∙ same-action e)

    pub by-keep : {a : Action} → a ≡ Keep
        → flat_up (kept_from b A i j p x) R.from (R.to - R.from) ≡ by_action b (action_from a) D k m A i j p x
    by-keep e = ranged (kept_from b A i j p x) R.from (R.to - R.from) t ∙ same-action e

    pub by-give : {a : Action} {g : ℕ} → a ≡ Give g
        → flat_up (given_from b A i j p x g) R.from (R.to - R.from) ≡ by_action b (action_from a) D k m A i j p x
    by-give {g = g} e = ranged (given_from b A i j p x g) R.from (R.to - R.from) t ∙ same-action e

-- The side's bare item, if there is one.
module _ (f : ℕ → List Record) {l : List ℕ} {o : Option ℕ} (t : l ≡ bare_in o) where
  pub no_bare : o ≡ None → concat_map f l ≡ []
  no_bare e = ap (concat_map f) (t ∙ ap bare_in e)

  pub one-bare : {m : ℕ} → o ≡ Some m → concat_map f l ≡ f m
  one-bare {m} e = ap (concat_map f) (t ∙ ap bare_in e) ∙ append-nil (f m)

-- A production by its shape: no record from a word or under another left side, and else those of the two elements that meet at k: the
-- side before k and the dependent after it, or the other way round. Where the production fits, they do.
abbrev Over : Element → ℕ → ℕ → ℕ → Type 0
Over x symbol from to = (x.symbol ≡ symbol) × (x.span.from ≡ from) × (x.span.to ≡ to)

module _ (b : List Record) (cell : OpenCell) (k p : ℕ) {rule : Production} where
  pub by-word : {left word : ℕ} → rule ≡ Word left word → [] ≡ produces cell k p rule b
  by-word e = ap (λ (r : Production). produces cell k p r b) (sym e)

  module _ {left side D : ℕ} {a : Action} where
    pub first-other : rule ≡ SideFirst left a side D → (left ≡ cell.left → ⊥) → [] ≡ produces cell k p rule b
    first-other e d = rw (e, ne_eqb left cell.left d, by_rule)

    pub last-other : rule ≡ SideLast left a D side → (left ≡ cell.left → ⊥) → [] ≡ produces cell k p rule b
    last-other e d = rw (e, ne_eqb left cell.left d, by_rule)

    module _ {x y : Element} {m : Elements} (met : m ≡ record { side = x; action = a; dependent = y }) where
      pub first-same : rule ≡ SideFirst left a side D → left ≡ cell.left → Over x side cell.from k → Over y D k cell.to
          → meets cell p m b ≡ produces cell k p rule b
      first-same e d (s, t, u) (v, w, z) = rw (met, e, eq-eqb left cell.left d, by_rule, s, t, u, v, w, z)

      pub last-same : rule ≡ SideLast left a D side → left ≡ cell.left → Over x side k cell.to → Over y D cell.from k
          → meets cell p m b ≡ produces cell k p rule b
      last-same e d (s, t, u) (v, w, z) = rw (met, e, eq-eqb left cell.left d, by_rule, s, t, u, v, w, z)

module _ (cell : OpenCell) (rule : Production) (fits : RuleFits cell.symbols (rule_from rule)) {left side D : ℕ} {a : Action} {x y : Element}
    {m : Elements} (met : m ≡ record { side = x; action = a; dependent = y }) (s : x.symbol ≡ side) (d : y.symbol ≡ D)
    (v : x.span.words ≡ cell.words) (w : y.span.words ≡ cell.words) where
  pub first_fits : rule ≡ SideFirst left a side D → ElementsFit cell m
  first_fits e =
      let (_, f, g, h, _) = subst (λ (r : Production). RuleFits cell.symbols (rule_from r)) e fits in
      rw met (record { action = f; side = (omega arith, v); dependent = (omega arith, w) })

  pub last_fits : rule ≡ SideLast left a D side → ElementsFit cell m
  last_fits e =
      let (_, f, _, h, g) = subst (λ (r : Production). RuleFits cell.symbols (rule_from r)) e fits in
      rw met (record { action = f; side = (omega arith, v); dependent = (omega arith, w) })
