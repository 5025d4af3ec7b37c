-- Cells that another cells. The chart only grows, so what cells goes on to cover; and two cells with one number are one, so a number
-- in the table says of which cell it is and a new number changes one cell's entry.
use Prim.Native.Nat.{ℕ, zero, suc, ◌+◌, ◌*◌, ◌-◌, ◌≤◌, ◌<◌}
use native.Mathlib.Nat.{add-zero}
use native.Mathlib.Decide.{ℕ_discrete}
use native.Mathlib.Omega.{arith}
use mathlib.Core.Path.{◌≡◌, refl, sym, ◌∙◌, ap, subst, subst₃}
use mathlib.Core.Logic.{◌⊎◌, inl, inr}
use mathlib.Core.Bool.{Bool, true, false, cond, ◌||◌, false≢true}
use mathlib.Core.List.Memᴰ
use mathlib.Core.List.{List, [], ◌∷◌, ◌++◌, Memᴰ}
use mathlib.Core.Option.{some}
use lib.Dec.{eqb}
use lib.ListN.{length, replicate, get_or-replicate}
use borrow.Author.Tests.{eqb-true}
use Rattle.grammar.specs.Items.{Foot}
use Rattle.grammar.specs.ItemList.{Item, item}
use Rattle.grammar.specs.Chart.{Record, recorded, item_of, Earlier, earlier}
use Rattle.grammar.proofs.ListLaws.{in_map, map-in, stands-in}
use Rattle.grammar.proofs.StandsLaws.{none-some, some_same}
use Rattle.grammar.proofs.ItemTests.{among-mem}
use Rattle.chart_model.specs.Build.{places, foot_at, add_each}
use Rattle.chart_model.proofs.BuildLaws.{Has, map-wider, added-cases, add_each-none}
use Rattle.chart_model.proofs.Candidates.{in-places, places-in}
use Rattle.chart_model.proofs.FillModel.{InCell, IsCell, Grown, same, more}
use Rattle.records.specs.Room.{record_at, chart_in}
use Rattle.records.specs.Cells.{spans, cell_at, SpanFits, cover_in, with_cover, reaches, covered_in, noted_anew}
use Rattle.records.specs.Cover.{CoversIn, Coverer, present, Covering, Covered}
use Rattle.records.specs.Cover
use Rattle.records.proofs.TableLaws.{cell_below, cell_same}
use Rattle.records.proofs.CellsLaws.{cover-length, cover-same, cover-other}
use Rattle.records.proofs.RoomLaws.{chart-more}
use Rattle.records.proofs.AddLaws.{adds-old}

-- With more records after it a chart has the same items; and so has a room with a higher count.
pub has_more : {x : Item} (b d : List Record) → Has b x → Has (b ++ d) x
has_more b d = map-wider item_of b (b ++ d) (λ r m. Memᴰ.append_left d m)

chart-above : {x : Item} (bytes : List ℕ) (base d : ℕ) → Has (chart_in bytes base) x → Has (chart_in bytes (base + d)) x
chart-above bytes base zero h = rw add-zero h
chart-above {x} bytes base (suc d) h =
    let e : base + suc d ≡ base + d + 1 = omega arith in
    subst (λ (c : List Record). Has c x) (sym (ap (chart_in bytes) e ∙ chart-more bytes (base + d)))
    (has_more (chart_in bytes (base + d)) (record_at bytes (base + d) ∷ []) (chart-above bytes base d h))

pub chart-wider : (bytes : List ℕ) (base count : ℕ) → base ≤ count → (x : Item) → Has (chart_in bytes base) x → Has (chart_in bytes count) x
chart-wider bytes base count l x h =
    let e : base + (count - base) ≡ count = omega arith in
    subst (λ (k : ℕ). Has (chart_in bytes k) x) e (chart-above bytes base (count - base) h)

-- Adding keeps the items that are there, adds each item of its records, and adds nothing where all are there.
pub each-wider : {e : List Record} {x : Item} (room : ℕ) (rs c : List Record) → add_each room rs (some c) ≡ some e → Has c x → Has e x
each-wider {x = x} room [] c q h = subst (λ (l : List Record). Has l x) (some_same q) h
each-wider {e} {x} room (r ∷ rs) c q h =
    added-cases (λ s. add_each room rs s ≡ some e → Has e x) room r c
    (λ old p. each-wider room rs c p h)
    (λ new l p. each-wider room rs _ p (has_more c (r ∷ []) h))
    (λ new l p. absurd (none-some (sym (add_each-none room rs) ∙ p))) q

pub each_in : {e : List Record} {r : Record} (room : ℕ) (rs c : List Record) → add_each room rs (some c) ≡ some e → Memᴰ r rs
    → Has e (item_of r)
each_in room [] c q m = absurd (Memᴰ.not-nil m)
each_in {e} {r} room (s ∷ rs) c q m = elim (Memᴰ.cases_cons m) [
  | inl f ↦
      let here : Has (c ++ (s ∷ [])) (item_of s) = map-in item_of (Memᴰ.append_right c (Memᴰ.head refl)) in
      subst (λ (t : Record). Has e (item_of t)) (sym f)
      (added-cases (λ o. add_each room rs o ≡ some e → Has e (item_of s)) room s c
      (λ old p. each-wider room rs c p old)
      (λ new l p. each-wider room rs _ p here)
      (λ new l p. absurd (none-some (sym (add_each-none room rs) ∙ p))) q)
  | inr n ↦
      added-cases (λ o. add_each room rs o ≡ some e → Has e (item_of r)) room s c
      (λ old p. each_in room rs c p n)
      (λ new l p. each_in room rs _ p n)
      (λ new l p. absurd (none-some (sym (add_each-none room rs) ∙ p))) q
]

pub each-known : (room : ℕ) (rs c : List Record) → ((r : Record) → Memᴰ r rs → Has c (item_of r))
    → add_each room rs (some c) ≡ some c
each-known room [] c h = refl
each-known room (r ∷ rs) c h =
    ap (add_each room rs) (adds-old room r c (among-mem (h r (Memᴰ.head refl))))
    ∙ each-known room rs c (λ s m. h s (Memᴰ.tail m))

-- A cell's items and its positions.
earlier-has : {c : List Record} {m x : ℕ} {it : Item} → Earlier c m x it → Has c it
earlier-has (earlier l s) = map-in item_of (stands-in s)

pub place-has : {x : ℕ} (c : List Record) (A i j : ℕ) → Memᴰ x (places c A i j) → Has c (item A i j (foot_at c x))
place-has c A i j m = earlier-has (in-places c A i j m)

no-places : {A : Type 0} (l : List A) → ((x : A) → Memᴰ x l → ⊥) → l ≡ []
no-places [] h = refl
no-places (x ∷ l) h = absurd (h x (Memᴰ.head refl))

places-fewer : (b c : List Record) (A i j : ℕ) → ((x : Item) → Has b x → Has c x) → places c A i j ≡ [] → places b A i j ≡ []
places-fewer b c A i j wider e =
    no-places (places b A i j) λ x m.
    let (y, p, f) = places-in c A i j (wider _ (place-has b A i j m)) in Memᴰ.not-nil (subst (Memᴰ y) e p)

-- A chart that grew by records of one cell has what it had, and of the other cells no more.
pub grown-has : {P : ℕ → ℕ → ℕ → Type 0} {b c : List Record} → Grown P b c → (x : Item) → Has b x → Has c x
grown-has same x h = h
grown-has (more {b = e} r g i new) x h = has_more e (r ∷ []) (grown-has g x h)

of-cell : (A i j B p q : ℕ) (φ : Foot) (r : Record) → InCell (IsCell A i j) r → item B p q φ ≡ item_of r → IsCell A i j B p q
of-cell A i j B p q φ (recorded (item A' i' j' ψ) u x y z) (d, e, f) h = (ap left h ∙ d, ap from h ∙ e, ap to h ∙ f)
  where
    left : Item → ℕ
    left (item A i j φ) = A

    from : Item → ℕ
    from (item A i j φ) = i

    to : Item → ℕ
    to (item A i j φ) = j

pub grown-others : {A i j : ℕ} {b c : List Record} → Grown (IsCell A i j) b c → (B p q : ℕ) (φ : Foot) → (IsCell A i j B p q → ⊥)
    → Has c (item B p q φ) → Has b (item B p q φ)
grown-others same B p q φ other h = h
grown-others {A} {i} {j} (more {b = e} r g o new) B p q φ other h =
    let (s, m, f) = in_map item_of (e ++ (r ∷ [])) h in
    elim (Memᴰ.append_cases e m) [
      | inl n ↦ grown-others g B p q φ other (Memᴰ.cast f (map-in item_of n))
      | inr n ↦ absurd (other (of-cell A i j B p q φ r o (f ∙ ap item_of (Memᴰ.eq_of_singleton n))))
    ]

either_true : (x y : Bool) → (x || y) ≡ true → (x ≡ true) ⊎ (y ≡ true)
either_true true y e = inl refl
either_true false y e = inr e

module _ {n N A i j : ℕ} {b c : List Record} {cells : List ℕ} (t : Covering n N A i j b c cells) where
  -- The chart goes on to grow.
  pub covering-wider : {e : List Record} → ((x : Item) → Has c x → Has e x) → Covering n N A i j b e cells
  covering-wider {e} wider = record { long = t.long; sound = λ B p q s m d. still (t.sound B p q s m d); empty = t.empty }
    where
      still : {B p q m : ℕ} → Coverer n N A i j b c B p q m → Coverer n N A i j b e B p q m
      still (present d h) = present d (λ φ o. wider _ (h φ o))
      still (Cover.earlier s d h) = Cover.earlier s d h

  module _ (fits : SpanFits n N A i j) where
    -- A number in the table is a cell's, so that cell lies within the table.
    pub covering-below : {B p q : ℕ} → SpanFits n N B p q → 4 * cover_in cells (cell_at N B p q) ≤ length cells
    covering-below {B} {p} {q} s = go (cover_in cells (cell_at N B p q)) refl
      where
        below : {B p q m : ℕ} → Coverer n N A i j b c B p q m → m < spans n * N
        below (present d h) = subst (λ (k : ℕ). k < spans n * N) (sym d) (cell_below n N A i j fits.0 fits.1 fits.2)
        below (Cover.earlier {A'} {i'} {j'} s d h) =
            subst (λ (k : ℕ). k < spans n * N) (sym d) (cell_below n N A' i' j' s.0 s.1 s.2)

        go : (last : ℕ) → cover_in cells (cell_at N B p q) ≡ last → 4 * last ≤ length cells
        go zero e = omega arith
        go (suc m) e = omega (arith, below (t.sound B p q s m e), t.long)

    -- What the test finds covered is covered.
    module _ (wider : (x : Item) → Has b x → Has c x) where
      own-covers : {B p q m : ℕ} → Coverer n N A i j b c B p q m → m ≡ cell_at N A i j → CoversIn b c A i j B p q
      own-covers (present d h) e φ o = h φ o
      own-covers (Cover.earlier {A'} {i'} {j'} s d h) e φ o =
          let (x, y, z) = cell_same n N A' i' j' A i j s.0 s.1 s.2 fits.0 fits.1 fits.2 (sym d ∙ e) in
          wider (item A i j φ) (subst₃ (λ (A i j : ℕ). Has b (item A i j φ)) x y z (h φ o))

      by-another : {B p q m : ℕ} → Coverer n N A i j b c B p q m → cover_in cells m ≡ suc (cell_at N A i j) → CoversIn b c A i j B p q
      by-another (present d h) e φ o = h φ o
      by-another (Cover.earlier {A'} {i'} {j'} s d h) e φ o =
          let there = subst (λ (k : ℕ). cover_in cells k ≡ suc (cell_at N A i j)) d e in
          own-covers (t.sound A' i' j' s _ there) refl φ (h φ o)

      pub covered-sound : {B p q : ℕ} → SpanFits n N B p q → covered_in cells (cell_at N A i j) (cell_at N B p q) ≡ true
          → CoversIn b c A i j B p q
      covered-sound {B} {p} {q} s = go (cover_in cells (cell_at N B p q)) refl
        where
          go : (last : ℕ) → cover_in cells (cell_at N B p q) ≡ last → reaches cells (cell_at N A i j) last ≡ true
              → CoversIn b c A i j B p q
          go zero e h = absurd (false≢true h)
          go (suc m) e h = elim (either_true (eqb m (cell_at N A i j)) _ h) [
            | inl u ↦ own-covers (t.sound B p q s m e) (eqb-true _ _ u)
            | inr u ↦ by-another (t.sound B p q s m e) (eqb-true _ _ u)
          ]

      -- The cell is filled. Of the other cells nothing was added, and its own entry is 0, for it had no records.
      pub end-covered : ((B p q : ℕ) (φ : Foot) → (IsCell A i j B p q → ⊥) → Has c (item B p q φ) → Has b (item B p q φ))
          → places b A i j ≡ [] → Covered n N c cells
      end-covered others fresh =
          record { long = t.long; sound = sound; empty = λ B p q s e. t.empty B p q s (places-fewer b c B p q wider e) }
        where
          alone : (B p q : ℕ) → IsCell A i j B p q → places b B p q ≡ []
          alone B p q (x, y, z) = rw (x, y, z) fresh

          whose : (B p q m : ℕ) → (IsCell A i j B p q → ⊥) → Coverer n N A i j b c B p q m
              → (A : ℕ) × (i : ℕ) × (j : ℕ) × SpanFits n N A i j × (m ≡ cell_at N A i j) × CoversIn c c A i j B p q
          whose B p q m other (present d h) = (A, i, j, fits, d, λ φ o. h φ (others B p q φ other o))
          whose B p q m other (Cover.earlier {A'} {i'} {j'} s d h) = (A', i', j', s, d, λ φ o. wider _ (h φ (others B p q φ other o)))

          sound : (B p q : ℕ) → SpanFits n N B p q → (m : ℕ) → cover_in cells (cell_at N B p q) ≡ suc m
              → (A : ℕ) × (i : ℕ) × (j : ℕ) × SpanFits n N A i j × (m ≡ cell_at N A i j) × CoversIn c c A i j B p q
          sound B p q s m e =
              whose B p q m (λ d. let z = t.empty B p q s (alone B p q d) in absurd (omega (arith, z, e))) (t.sound B p q s m e)

  -- A cell whose feet were all taken over is noted. It has records, so its entry need not be 0.
  pub covering-note : {D k m : ℕ} → SpanFits n N D k m → CoversIn b c A i j D k m → (places b D k m ≡ [] → ⊥)
      → Covering n N A i j b c (with_cover cells (cell_at N D k m) (suc (cell_at N A i j)))
  covering-note {D} {k} {m} f over some-there =
      record { long = omega (arith, t.long, cover-length cells at own); sound = sound; empty = empty }
    where
      at : ℕ
      at = cell_at N D k m

      own : ℕ
      own = suc (cell_at N A i j)

      inside : 4 * at + 4 ≤ length cells
      inside = omega (arith, t.long, cell_below n N D k m f.0 f.1 f.2)

      one : (B p q : ℕ) → SpanFits n N B p q → cell_at N B p q ≡ at → IsCell D k m B p q
      one B p q s e = cell_same n N B p q D k m s.0 s.1 s.2 f.0 f.1 f.2 e

      sound : (B p q : ℕ) → SpanFits n N B p q → (x : ℕ) → cover_in (with_cover cells at own) (cell_at N B p q) ≡ suc x
          → Coverer n N A i j b c B p q x
      sound B p q s x e = elim (ℕ_discrete (cell_at N B p q) at) [
        | yes d ↦
            let (u, v, w) = one B p q s d in
            let there = sym (cover-same cells at own inside) ∙ ap (cover_in (with_cover cells at own)) (sym d) ∙ e in
            present (omega (arith, there)) (λ φ o. over φ (subst₃ (λ (B p q : ℕ). Has b (item B p q φ)) u v w o))
        | no d ↦ t.sound B p q s x (sym (cover-other cells at own (cell_at N B p q) d) ∙ e)
      ]

      empty : (B p q : ℕ) → SpanFits n N B p q → places b B p q ≡ [] → cover_in (with_cover cells at own) (cell_at N B p q) ≡ 0
      empty B p q s e = elim (ℕ_discrete (cell_at N B p q) at) [
        | yes d ↦
            let (u, v, w) = one B p q s d in
            absurd (some-there (subst₃ (λ (B p q : ℕ). places b B p q ≡ []) u v w e))
        | no d ↦ cover-other cells at own (cell_at N B p q) d ∙ t.empty B p q s e
      ]

  -- So is a cell that the test finds covered: its entry is not 0, so it has records.
  pub covering-anew : SpanFits n N A i j → ((x : Item) → Has b x → Has c x) → {D k m : ℕ} → SpanFits n N D k m
      → Covering n N A i j b c (noted_anew cells (cell_at N A i j) (cell_at N D k m))
  covering-anew fits wider {D} {k} {m} f = go (covered_in cells (cell_at N A i j) (cell_at N D k m)) refl
    where
      has-records : covered_in cells (cell_at N A i j) (cell_at N D k m) ≡ true → places b D k m ≡ [] → ⊥
      has-records e none = false≢true (sym (ap (reaches cells (cell_at N A i j)) (t.empty D k m f none)) ∙ e)

      go : (v : Bool) → covered_in cells (cell_at N A i j) (cell_at N D k m) ≡ v
          → Covering n N A i j b c (cond v (with_cover cells (cell_at N D k m) (suc (cell_at N A i j))) cells)
      go true e = covering-note f (covered-sound fits wider f e) (has-records e)
      go false e = t

-- A cell is begun; and before all cells the table has zeros.
pub start-covering : {n N : ℕ} {b : List Record} {cells : List ℕ} (A i j : ℕ) → Covered n N b cells → Covering n N A i j b b cells
start-covering A i j t =
    record {
      long = t.long;
      sound = λ B p q s m e. let (A', i', j', f, d, h) = t.sound B p q s m e in Cover.earlier f d h;
      empty = t.empty;
    }

pub covered_start : {n N : ℕ} {cells : List ℕ} → 4 * (spans n * N) ≤ length cells → cells ≡ replicate (length cells) 0
    → Covered n N [] cells
covered_start {n} {N} {cells} long zeros =
    record { long = long; sound = λ B p q s m e. absurd (omega (arith, at B p q s, e)); empty = λ B p q s e. at B p q s }
  where
    at : (B p q : ℕ) → SpanFits n N B p q → cover_in cells (cell_at N B p q) ≡ 0
    at B p q s =
        ap (λ (l : List ℕ). cover_in l (cell_at N B p q)) zeros
        ∙ get_or-replicate (length cells) (4 * cell_at N B p q + 3) 0 0 (omega (arith, long, cell_below n N B p q s.0 s.1 s.2))

-- A table as long and with the same covers, as where a range is entered.
pub covered-covers : {n N : ℕ} {b : List Record} {old new : List ℕ} → length new ≡ length old
    → ((cell : ℕ) → cover_in new cell ≡ cover_in old cell) → Covered n N b old → Covered n N b new
covered-covers {N = N} e agree t =
    record {
      long = omega (arith, t.long, e);
      sound = λ B p q s m d. t.sound B p q s m (sym (agree (cell_at N B p q)) ∙ d);
      empty = λ B p q s d. agree (cell_at N B p q) ∙ t.empty B p q s d;
    }
