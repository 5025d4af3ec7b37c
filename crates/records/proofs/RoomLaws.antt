-- The records in a room. `chart_in` is one record a position, each read from its own 16 bytes, so records change only where their
-- bytes do; and a record that was written is read back, since its bytes stand one after the other.
use Prim.Native.Nat.{ℕ, zero, suc, ◌+◌, ◌*◌, ◌≤◌, ◌<◌}
use native.Mathlib.Nat.{zero-add, add-zero, suc-add, add-suc, add_assoc}
use native.Mathlib.Numerals.{add-one}
use native.Mathlib.Omega.{arith}
use mathlib.Core.Path.{◌≡◌, refl, sym, ◌∙◌, ap, ap₂}
use mathlib.Core.Bool.{Bool, cond, false≢true}
use mathlib.Core.List.{List, [], ◌∷◌, ◌++◌, map, append_assoc, append-nil}
use mathlib.Core.Option.{some}
use lib.ListN.{length, get_or, get_elem?, take, drop, length-append, length-drop, get_or-append}
use lib.Seq.{get_or-take, take-take, take_at, drop_at, get_or-append-add, length-take-le}
use borrow.Author.Tests.{eq-eqb, ne_eqb}
use Rattle.grammar.specs.Items.{Foot, bare, foot}
use Rattle.grammar.specs.ItemList.{item, is_bare}
use Rattle.grammar.specs.Chart.{Record, recorded}
use Rattle.grammar.specs.Lists.{concat_map}
use Rattle.grammar.proofs.ListLaws.{length-concat_map}
use Rattle.grammar.proofs.StandsLaws.{none-some, some_same}
use Rattle.layout.specs.Bytes.{byte_at, number16_at, counted, low_byte, high_byte}
use Rattle.layout.specs.Records.{record_bytes, chart_bytes}
use Rattle.layout.proofs.CountedLaws.{table-length}
use Rattle.layout.proofs.Feet.{word-halves}
use Rattle.chart_model.specs.Build.{foot_in, foot_at}
use Rattle.records.specs.Room.{as_foot, foot_there, record_at, chart_in, FootFits, foot_fields, Writable, foot_number}
use Rattle.records.specs.Room.{numbered, numbered_chart, number_there}

-- A function over places that are counted: one more, at one place, and by another function that agrees there.
pub counted-more : (k n : ℕ) → counted k (suc n) ≡ counted k n ++ ((k + n) ∷ [])
counted-more k zero = rw add-zero
counted-more k (suc n) = rw (counted-more (suc k) n, suc-add, add-suc)

pub map-append : {A B : Type 0} (f : A → B) (l t : List A) → map f (l ++ t) ≡ map f l ++ map f t
map-append f [] t = refl
map-append f (x ∷ l) t = ap (◌∷◌ (f x)) (map-append f l t)

pub counted-at : {A : Type 0} (f : ℕ → A) (k n m : ℕ) → m < n → get_elem? (map f (counted k n)) m ≡ some (f (k + m))
counted-at f k zero m h = absurd (omega arith)
counted-at f k (suc n) zero h = rw add-zero
counted-at f k (suc n) (suc m) h = rw (counted-at f (suc k) n m (omega arith), suc-add, add-suc)

pub counted_same : {A : Type 0} (f g : ℕ → A) (k n : ℕ) → ((m : ℕ) → k ≤ m → m < k + n → f m ≡ g m)
    → map f (counted k n) ≡ map g (counted k n)
counted_same f g k zero h = refl
counted_same f g k (suc n) h =
    ap₂ ◌∷◌ (h k (omega arith) (omega arith)) (counted_same f g (suc k) n (λ m a b. h m (omega arith) (omega arith)))

pub counted-last : {A : Type 0} (f : ℕ → A) (n : ℕ) → map f (counted 0 (n + 1)) ≡ map f (counted 0 n) ++ (f n ∷ [])
counted-last f n =
    ap (λ (k : ℕ). map f (counted 0 k)) (add-one n) ∙ ap (map f) (counted-more 0 n) ∙ map-append f (counted 0 n) ((0 + n) ∷ [])
    ∙ ap (λ (k : ℕ). map f (counted 0 n) ++ (f k ∷ [])) (zero-add n)

-- The chart in a room: its length, one record more, one of its records, the foot of one.
pub chart-length : (bytes : List ℕ) (n : ℕ) → length (chart_in bytes n) ≡ n
chart-length bytes n = table-length (record_at bytes) 0 n

pub chart-more : (bytes : List ℕ) (n : ℕ) → chart_in bytes (n + 1) ≡ chart_in bytes n ++ (record_at bytes n ∷ [])
chart-more bytes n = counted-last (record_at bytes) n

pub chart-at : (bytes : List ℕ) (n m : ℕ) → m < n → get_elem? (chart_in bytes n) m ≡ some (record_at bytes m)
chart-at bytes n m h = counted-at (record_at bytes) 0 n m h ∙ ap (λ (k : ℕ). some (record_at bytes k)) (zero-add m)

pub foot-at : (bytes : List ℕ) (n m : ℕ) → m < n → foot_at (chart_in bytes n) m ≡ foot_there bytes m
foot-at bytes n m h = ap foot_in (chart-at bytes n m h)

-- Bytes that agree up to a place agree up to a lower one, and then so do the records below it.
pub take_less : (old new : List ℕ) (m n : ℕ) → m ≤ n → take n new ≡ take n old → take m new ≡ take m old
take_less old new m n h e = sym (take-take m n new h) ∙ ap (take m) e ∙ take-take m n old h

pub byte-kept : (old new : List ℕ) (n k : ℕ) → k < n → take n new ≡ take n old → byte_at new k ≡ byte_at old k
byte-kept old new n k h e = sym (get_or-take n new k 0 h) ∙ ap (λ (l : List ℕ). get_or l k 0) e ∙ get_or-take n old k 0 h

pub foot-kept : (old new : List ℕ) (n m : ℕ) → m < n → take (16 * n) new ≡ take (16 * n) old → foot_there new m ≡ foot_there old m
foot-kept old new n m h e =
    let at : (k : ℕ) → k < 16 * n → byte_at new k ≡ byte_at old k = λ k l. byte-kept old new (16 * n) k l e in
    rw (at (16 * m + 1) (omega arith), at (16 * m + 4) (omega arith), at (16 * m + 5) (omega arith), at (16 * m + 6) (omega arith))

pub record-kept : (old new : List ℕ) (n m : ℕ) → m < n → take (16 * n) new ≡ take (16 * n) old → record_at new m ≡ record_at old m
record-kept old new n m h e =
    let at : (k : ℕ) → k < 16 * n → byte_at new k ≡ byte_at old k = λ k l. byte-kept old new (16 * n) k l e in
    let word : (k : ℕ) → k + 1 < 16 * n → number16_at new k ≡ number16_at old k = λ k l. rw (at k (omega arith), at (k + 1) l) in
    cc (
      at (16 * m) (omega arith),
      at (16 * m + 2) (omega arith),
      at (16 * m + 3) (omega arith),
      foot-kept old new n m h e,
      at (16 * m + 7) (omega arith),
      word (16 * m + 8) (omega arith),
      word (16 * m + 10) (omega arith),
      word (16 * m + 12) (omega arith),
    )

pub chart-kept : (old new : List ℕ) (n : ℕ) → take (16 * n) new ≡ take (16 * n) old → chart_in new n ≡ chart_in old n
chart-kept old new n e =
    counted_same (record_at new) (record_at old) 0 n (λ m a b. record-kept old new n m (omega arith) e)

pub chart-kept-below : (old new : List ℕ) (m n : ℕ) → m ≤ n → take (16 * n) new ≡ take (16 * n) old → chart_in new m ≡ chart_in old m
chart-kept-below old new m n h e = chart-kept old new m (take_less old new (16 * m) (16 * n) (omega arith) e)

-- The bytes of a chart, and those of one whose records have numbers.
pub record-bytes-length : (r : Record) → length (record_bytes r) ≡ 16
record-bytes-length (recorded (item A i j bare) p x y z) = refl
record-bytes-length (recorded (item A i j (foot γ B q t)) p x y z) = refl

pub chart-bytes-length : (c : List Record) → length (chart_bytes c) ≡ 16 * length c
chart-bytes-length c = omega (arith, length-concat_map record_bytes 16 record-bytes-length c)

pub numbered-length : (n N : ℕ) (r : Record) → length (numbered n N r) ≡ 16
numbered-length n N (recorded (item A i j bare) p x y z) = refl
numbered-length n N (recorded (item A i j (foot γ B q t)) p x y z) = refl

pub numbered-chart-length : (n N : ℕ) (c : List Record) → length (numbered_chart n N c) ≡ 16 * length c
numbered-chart-length n N c = omega (arith, length-concat_map (numbered n N) 16 (numbered-length n N) c)

pub concat_map-last : {A B : Type 0} (f : A → List B) (l : List A) (x : A) → concat_map f (l ++ (x ∷ [])) ≡ concat_map f l ++ f x
concat_map-last f [] x = append-nil (f x)
concat_map-last f (y ∷ l) x = rw (concat_map-last f l x, append_assoc)

-- A room after 16 bytes were put at position n, as a record's.
abbrev pub placed : List ℕ → ℕ → List ℕ → List ℕ
placed old n bytes = take (16 * n) old ++ (bytes ++ drop (16 * n + 16) old)

abbrev pub written : List ℕ → ℕ → Record → List ℕ
written old n r = placed old n (record_bytes r)

-- The record that 16 bytes stand for.
pub read_word : (bytes : List ℕ) (at k v : ℕ) → byte_at bytes (at + k) ≡ low_byte v → byte_at bytes (at + (k + 1)) ≡ high_byte v
    → number16_at bytes (at + k) ≡ v
read_word bytes at k v low high = rw (low, add_assoc, high) (word-halves v)

read_back : (bytes : List ℕ) (n A γ i j B q t p x y z : ℕ) (rest : List ℕ)
    → ((k : ℕ) → byte_at bytes (16 * n + k)
    ≡ byte_at (A ∷ γ ∷ i ∷ j ∷ B ∷ q ∷ t ∷ p ∷ low_byte x ∷ high_byte x ∷ low_byte y ∷ high_byte y ∷ low_byte z ∷ high_byte z ∷ rest) k)
    → record_at bytes n ≡ recorded (item A i j (as_foot γ B q t)) p x y z
read_back bytes n A γ i j B q t p x y z rest h =
    let first : byte_at bytes (16 * n) ≡ A = ap (byte_at bytes) (sym (add-zero (16 * n))) ∙ h 0 in
    let word = read_word bytes (16 * n) in
    rw (first, h 1, h 2, h 3, h 4, h 5, h 6, h 7, word 8 x (h 8) (h 9), word 10 y (h 10) (h 11), word 12 z (h 12) (h 13))

module _ (old : List ℕ) (n : ℕ) (bytes : List ℕ) (long : length bytes ≡ 16) (fits : 16 * n + 16 ≤ length old) where
  head-length : length (take (16 * n) old) ≡ 16 * n
  head-length = length-take-le (16 * n) old (omega arith)

  pub placed-length : length (placed old n bytes) ≡ length old
  placed-length = simp (length-append, length-drop, head-length, long) (omega arith)

  pub placed-kept : take (16 * n) (placed old n bytes) ≡ take (16 * n) old
  placed-kept = take_at (take (16 * n) old) _ (16 * n) head-length

  front : length (take (16 * n) old ++ bytes) ≡ 16 * (n + 1)
  front = omega (arith, length-append (take (16 * n) old) bytes, head-length, long)

  pub placed-taken : take (16 * (n + 1)) (placed old n bytes) ≡ take (16 * n) old ++ bytes
  placed-taken =
      ap (take (16 * (n + 1))) (sym (append_assoc (take (16 * n) old) bytes (drop (16 * n + 16) old)))
      ∙ take_at (take (16 * n) old ++ bytes) (drop (16 * n + 16) old) (16 * (n + 1)) front

  pub placed-rest : drop (16 * (n + 1)) (placed old n bytes) ≡ drop (16 * (n + 1)) old
  placed-rest =
      let e : 16 * n + 16 ≡ 16 * (n + 1) = omega arith in
      ap (drop (16 * (n + 1))) (sym (append_assoc (take (16 * n) old) bytes (drop (16 * n + 16) old)))
      ∙ drop_at (take (16 * n) old ++ bytes) (drop (16 * n + 16) old) (16 * (n + 1)) front
      ∙ ap (λ (k : ℕ). drop k old) e

  placed-byte : (k : ℕ) → byte_at (placed old n bytes) (16 * n + k) ≡ byte_at (bytes ++ drop (16 * n + 16) old) k
  placed-byte k =
      ap (λ (m : ℕ). byte_at (placed old n bytes) (m + k)) (sym head-length)
      ∙ get_or-append-add (take (16 * n) old) (bytes ++ drop (16 * n + 16) old) k 0

-- It is read back, whatever its last two bytes are.
placed-record : (old : List ℕ) (n w N A i j : ℕ) (φ : Foot) (p x y z a b : ℕ) → 16 * n + 16 ≤ length old → FootFits w N φ
    → let r = recorded (item A i j φ) p x y z in record_at (placed old n (take 14 (record_bytes r) ++ (a ∷ b ∷ []))) n ≡ r
placed-record old n w N A i j bare p x y z a b h f =
    let bytes = take 14 (record_bytes (recorded (item A i j bare) p x y z)) ++ (a ∷ b ∷ []) in
    read_back (placed old n bytes) n A 0 i j 255 0 0 p x y z (a ∷ b ∷ drop (16 * n + 16) old) (placed-byte old n bytes refl h)
placed-record old n w N A i j (foot γ B q t) p x y z a b h (g, u, c, l, m) =
    let bytes = take 14 (record_bytes (recorded (item A i j (foot γ B q t)) p x y z)) ++ (a ∷ b ∷ []) in
    read_back (placed old n bytes) n A γ i j B q t p x y z (a ∷ b ∷ drop (16 * n + 16) old) (placed-byte old n bytes refl h)
    ∙ ap (λ (v : Bool). recorded (item A i j (cond v bare (foot γ B q t))) p x y z) (ne_eqb γ 0 (λ e. omega arith))

pub numbered-record : (old : List ℕ) (n w N A i j : ℕ) (φ : Foot) (p x y z : ℕ) → 16 * n + 16 ≤ length old → FootFits w N φ
    → let r = recorded (item A i j φ) p x y z in record_at (placed old n (numbered w N r)) n ≡ r
numbered-record old n w N A i j φ p x y z h f =
    placed-record old n w N A i j φ p x y z (low_byte (foot_number w N φ)) (high_byte (foot_number w N φ)) h f

last-zeros : (r : Record) → record_bytes r ≡ take 14 (record_bytes r) ++ (0 ∷ 0 ∷ [])
last-zeros (recorded (item A i j bare) p x y z) = refl
last-zeros (recorded (item A i j (foot γ B q t)) p x y z) = refl

pub written-record : (old : List ℕ) (n w N A i j : ℕ) (φ : Foot) (p x y z : ℕ) → 16 * n + 16 ≤ length old → FootFits w N φ
    → let r = recorded (item A i j φ) p x y z in record_at (written old n r) n ≡ r
written-record old n w N A i j φ p x y z h f =
    let r = recorded (item A i j φ) p x y z in
    ap (λ (l : List ℕ). record_at (placed old n l) n) (last-zeros r) ∙ placed-record old n w N A i j φ p x y z 0 0 h f

-- A byte of a list whose parts have 16 bytes each.
part-byte : {A : Type 0} (f : A → List ℕ) → ((x : A) → length (f x) ≡ 16) → (l : List A) (x : A) (m k : ℕ) → get_elem? l m ≡ some x → k < 16
    → byte_at (concat_map f l) (16 * m + k) ≡ byte_at (f x) k
part-byte f long [] x m k e h = absurd (none-some e)
part-byte {A} f long (y ∷ l) x zero k e h =
    ap (byte_at (f y ++ concat_map f l)) (zero-add k) ∙ get_or-append (f y) (concat_map f l) 0 k (omega (arith, long y))
    ∙ ap (λ (z : A). byte_at (f z) k) (some_same e)
part-byte f long (y ∷ l) x (suc m) k e h =
    let s : 16 * suc m + k ≡ length (f y) + (16 * m + k) = omega (arith, long y) in
    ap (byte_at (f y ++ concat_map f l)) s ∙ get_or-append-add (f y) (concat_map f l) (16 * m + k) 0 ∙ part-byte f long l x m k e h

-- In a room whose records have numbers: a record's bytes, the number of its foot, and its foot as it may be written.
module _ (n N : ℕ) (chart : List ℕ) (count : ℕ) (exact : take (16 * count) chart ≡ numbered_chart n N (chart_in chart count)) where
  numbered-byte : (m k : ℕ) → m < count → k < 16 → byte_at chart (16 * m + k) ≡ byte_at (numbered n N (record_at chart m)) k
  numbered-byte m k h l =
      sym (get_or-take (16 * count) chart (16 * m + k) 0 (omega arith))
      ∙ ap (λ (b : List ℕ). byte_at b (16 * m + k)) exact
      ∙ part-byte (numbered n N) (numbered-length n N) (chart_in chart count) (record_at chart m) m k (chart-at chart count m h) l

  pub number-there : (m : ℕ) → m < count → number_there chart m ≡ foot_number n N (foot_there chart m)
  number-there m h =
      read_word chart (16 * m) 14 (foot_number n N (foot_there chart m)) (numbered-byte m 14 h (omega arith) ∙ low (record_at chart m))
      (numbered-byte m 15 h (omega arith) ∙ high (record_at chart m))
    where
      low : (r : Record) → byte_at (numbered n N r) 14 ≡ low_byte (foot_number n N (foot_in (some r)))
      low (recorded (item A i j bare) p x y z) = refl
      low (recorded (item A i j (foot γ B q t)) p x y z) = refl

      high : (r : Record) → byte_at (numbered n N r) 15 ≡ high_byte (foot_number n N (foot_in (some r)))
      high (recorded (item A i j bare) p x y z) = refl
      high (recorded (item A i j (foot γ B q t)) p x y z) = refl

  pub writable-there : (m : ℕ) → m < count → Writable (foot_fields chart m)
  writable-there m h e =
      let (b, p, q) = parts (record_at chart m) (rw (eq-eqb (byte_at chart (16 * m + 1)) 0 e)) in
      (numbered-byte m 4 h (omega arith) ∙ b, numbered-byte m 5 h (omega arith) ∙ p, numbered-byte m 6 h (omega arith) ∙ q)
    where
      parts : (r : Record) → foot_in (some r) ≡ bare
          → (byte_at (numbered n N r) 4 ≡ 255) × (byte_at (numbered n N r) 5 ≡ 0) × (byte_at (numbered n N r) 6 ≡ 0)
      parts (recorded (item A i j bare) p x y z) e = (refl, refl, refl)
      parts (recorded (item A i j (foot γ B q t)) p x y z) e = absurd (false≢true (ap is_bare e))
