-- What the item of the start says of its record; and a search that finds none among the records has refuted that it stands there.
use Prim.Native.Nat.{ℕ, ◌-◌, ◌<◌}
use native.Mathlib.Omega.{arith}
use mathlib.Core.Path.{◌≡◌, refl, sym, ◌∙◌, ap, subst}
use mathlib.Core.Bool.{true, false}
use mathlib.Core.List.{List, map, Memᴰ}
use Rattle.grammar.specs.Items.{bare}
use Rattle.grammar.specs.ItemList.{Item, item}
use Rattle.grammar.specs.Chart.{item_of}
use Rattle.grammar.proofs.ListLaws.{in_map, map-in, in-stands, stands-in}
use Rattle.grammar.proofs.ItemListExact.{among-true, among-mem}
use Rattle.layout.specs.Records.{record_at, chart_in, foot_there}
use Rattle.layout.proofs.TestLaws.{unless-true}
use Rattle.layout.proofs.CountedLaws.{table-stands, stands-below, stands-there}
use Rattle.std.specs.Prelude.{Option, Some, None, IfSome}
use Rattle.std.specs.Option.{option_map}
use Rattle.std.specs.Iterator.Runs.{Run}
use Rattle.std.specs.declared.ops.Range.{Range}
use Rattle.std.proofs.iter.runs.Sources.{nat_range_steps_back, range_runs_back}
use Rattle.unfold.specs.Unfold.{start_stands, Found}
use Rattle.unfold.specs.Spine.{from_at, to_at, IsStart}

-- Where the item of the start begins and ends, and that it has no foot.
module _ (chart : List ℕ) (m n : ℕ) (e : item_of (record_at chart m) ≡ item 0 0 n bare) where
  pub start-from : from_at chart m ≡ 0
  start-from = cc

  pub start-to : to_at chart m ≡ n
  start-to = cc

  pub start-foot : foot_there chart m ≡ bare
  start-foot = cc

-- What the search answers: the item stands among the records where one of them has it, and does not where none has.
module _ (chart : List ℕ) (count n : ℕ) where
  pub stands-among : (m : ℕ) → m < count → item_of (record_at chart m) ≡ item 0 0 n bare → start_stands chart count n ≡ true
  stands-among m h e =
      among-mem (subst (λ (x : Item). Memᴰ x (map item_of (chart_in chart count))) e
      (map-in item_of (stands-in (table-stands (record_at chart) h))))

  stands-somewhere : start_stands chart count n ≡ true → (m : ℕ) × (m < count) × (item_of (record_at chart m) ≡ item 0 0 n bare)
  stands-somewhere e =
      let (r, k, eq) = in_map item_of (chart_in chart count) (among-true (item 0 0 n bare) (map item_of (chart_in chart count)) e) in
      let (m, s) = in-stands k in
      (m, stands-below (record_at chart) count m s, ap item_of (sym (stands-there (record_at chart) count m s)) ∙ sym eq)

  refuted : ((m : ℕ) → m < count → IsStart chart m n false) → start_stands chart count n ≡ true → ⊥
  refuted none e = let (m, h, eq) = stands-somewhere e in none m h eq

  pub found : (start : Option ℕ) → IfSome start (λ m. (m < count) × IsStart chart m n true)
      → (start ≡ None → (m : ℕ) → m < count → IsStart chart m n false) → Found chart count n start
  found (Some m) (h, e) none = record { number = rw (stands-among m h e); place = (h, e) }
  found None some none =
      record { number = rw (unless-true (start_stands chart count n) λ e. absurd (refuted (none refl) e)); place = tt }

-- A run that went down from count to its end gave each number below it.
pub down : (p : Run nat_range_steps_back) (count : ℕ) (P : ℕ → Type 0) → p.from ≡ record { start = 0; end = count } → p.whole ≡ true
    → ((k : ℕ) → IfSome (p.at k) P) → (m : ℕ) → m < count → P m
down p count P from whole each m h =
    let (most, all, items, there) = range_runs_back p p.seen in
    let end : p.from.end ≡ count = ap (λ (r : Range ℕ). r.end) from in
    let start : p.from.start ≡ 0 = ap (λ (r : Range ℕ). r.start) from in
    let last : p.from.end - 1 - (count - 1 - m) ≡ m = omega arith in
    let long : count - 1 - m < p.len = omega (arith, all whole) in
    some_item (p.at (count - 1 - m)) (there (count - 1 - m) long ∙ ap Some last) (each (count - 1 - m))
  where
    some_item : (o : Option ℕ) → option_map (λ y. y) o ≡ Some m → IfSome o P → P m
    some_item (Some x) e h = let same : x ≡ m = cc in subst P same h
    some_item None e h = absurd (let z : None ≡ Some m = e in cc)
