-- A chart that stands in a room is read back as it is: a record at its 16 bytes, by induction along the records.
-- A room in which a record stands is the room with that record written into it.
use Prim.Native.Nat.{ℕ, suc, ◌+◌, ◌*◌, ◌≤◌}
use native.Mathlib.Omega.{arith}
use mathlib.Core.Path.{◌≡◌, refl, sym, ◌∙◌, ap, ap₂}
use mathlib.Core.List.{List, [], ◌∷◌, ◌++◌, map, append_assoc}
use lib.ListN.{length, drop, length-append}
use lib.Seq.{take_at, drop_at}
use Rattle.grammar.specs.Lists.{here, there}
use Rattle.grammar.specs.Items.{bare, foot}
use Rattle.grammar.specs.ItemList.{item}
use Rattle.grammar.specs.Chart.{Record, recorded, IsChart}
use Rattle.layout.specs.Card.{card_number, grammar_of}
use Rattle.layout.specs.Bytes.{counted}
use Rattle.layout.specs.Records.{record_bytes, chart_bytes, record_at, chart_in}
use Rattle.records.proofs.RoomLaws.{written, written-record, record-bytes-length}
use Rattle.reader.proofs.Feet.{Readable, foot_in, FeetReadable, chart-feet}

record-written : (bytes : List ℕ) (m : ℕ) (r : Record) → 16 * m + 16 ≤ length bytes → Readable (foot_in r)
    → record_at (written bytes m r) m ≡ r
record-written bytes m (recorded (item A i j bare) p x y z) h f = written-record bytes m 0 0 A i j bare p x y z h tt
record-written bytes m (recorded (item A i j (foot γ B q t)) p x y z) h (g, u, l) =
    written-record bytes m t (suc B) A i j (foot γ B q t) p x y z h (g, u, omega arith, l, omega arith)

module _ (before after : List ℕ) (m : ℕ) (r : Record) (e : length before ≡ 16 * m) where
  front : length (before ++ record_bytes r) ≡ 16 * m + 16
  front = omega (arith, length-append before (record_bytes r), record-bytes-length r)

  split : before ++ (record_bytes r ++ after) ≡ (before ++ record_bytes r) ++ after
  split = sym (append_assoc before (record_bytes r) after)

  same-room : written (before ++ (record_bytes r ++ after)) m r ≡ before ++ (record_bytes r ++ after)
  same-room =
      ap₂ (λ (b a : List ℕ). b ++ (record_bytes r ++ a)) (take_at before (record_bytes r ++ after) (16 * m) e)
      (ap (drop (16 * m + 16)) split ∙ drop_at (before ++ record_bytes r) after (16 * m + 16) front)

  record-back : Readable (foot_in r) → record_at (before ++ (record_bytes r ++ after)) m ≡ r
  record-back f =
      let bytes = before ++ (record_bytes r ++ after) in
      let long : 16 * m + 16 ≤ length bytes =
      omega (arith, front, ap length split, length-append (before ++ record_bytes r) after) in
      ap (λ (b : List ℕ). record_at b m) (sym same-room) ∙ record-written bytes m r long f

records-back : (before after : List ℕ) (m : ℕ) (c : List Record) → length before ≡ 16 * m → FeetReadable c
    → map (record_at (before ++ (chart_bytes c ++ after))) (counted m (length c)) ≡ c
records-back before after m [] e f = refl
records-back before after m (r ∷ c) e f =
    let others = chart_bytes c ++ after in
    let inner : before ++ (chart_bytes (r ∷ c) ++ after) ≡ before ++ (record_bytes r ++ others) =
    ap (λ (b : List ℕ). before ++ b) (append_assoc (record_bytes r) (chart_bytes c) after) in
    let long : length (before ++ record_bytes r) ≡ 16 * suc m = omega (arith, front before others m r e) in
    ap₂ ◌∷◌ (ap (λ (b : List ℕ). record_at b m) inner ∙ record-back before others m r e (f 0 r here))
    (ap (λ (b : List ℕ). map (record_at b) (counted (suc m) (length c))) (inner ∙ split before others m r e)
    ∙ records-back (before ++ record_bytes r) after (suc m) c long (λ k x s. f (suc k) x (there s)))

chart-back : (c : List Record) (after : List ℕ) → FeetReadable c → chart_in (chart_bytes c ++ after) (length c) ≡ c
chart-back c after f = records-back [] after 0 c refl f

-- So the room of a chart, which Read leaves with 0 and 25, is read back as that chart, whatever stands behind it.
pub chart-read-back : (card : List ℕ) → card_number card ≡ 0 → {at : ℕ → ℕ → Type 0} (c : List Record) (after : List ℕ)
    → IsChart (grammar_of card) at c → chart_in (chart_bytes c ++ after) (length c) ≡ c
chart-read-back card accepted c after chart = chart-back c after (chart-feet card accepted c chart.justified)
