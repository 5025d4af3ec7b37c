-- A chart's numbers are cleared one record after the other. What stood before a record and what stands after it stays as it is, so the
-- bytes of the records are those of the finished chart.
use Prim.Native.Nat.{ℕ, zero, suc, ◌+◌, ◌*◌}
use native.Mathlib.Nat.{zero-add, suc-add}
use native.Mathlib.Numerals.{add-one}
use mathlib.Core.Path.{◌≡◌, refl, sym, ◌∙◌, ap}
use mathlib.Core.List.{List, [], ◌∷◌, ◌++◌, append_assoc}
use lib.ListN.{length, take, drop, set, take-append-drop}
use lib.Seq.{take_at, drop_at}
use Rattle.grammar.specs.Items.{bare, foot}
use Rattle.grammar.specs.ItemList.{item}
use Rattle.grammar.specs.Chart.{Record, recorded}
use Rattle.records.specs.Room.{record_bytes, chart_bytes, record_at, chart_in, numbered, numbered_chart, numbers_cleared}
use Rattle.records.proofs.RoomLaws.{chart-length, chart-more, chart-bytes-length, numbered-chart-length, concat_map-last}

pub cleared_more : (m : ℕ) (bytes here : List ℕ) → here ≡ numbers_cleared m bytes
    → set (set here (16 * m + 14) 0) (16 * m + 15) 0 ≡ numbers_cleared (m + 1) bytes
cleared_more m bytes here e = rw (e, add-one)

-- A record's two last bytes, with what stands before it and after it.
set_past : (before l : List ℕ) (k : ℕ) → set (before ++ l) (length before + k) 0 ≡ before ++ set l k 0
set_past [] l k = rw zero-add
set_past (b ∷ before) l k = rw (suc-add, set_past before l k)

record-cleared : (n N : ℕ) (before rest : List ℕ) (r : Record) {at : ℕ} → length before ≡ at
    → set (set (before ++ (numbered n N r ++ rest)) (at + 14) 0) (at + 15) 0 ≡ before ++ (record_bytes r ++ rest)
record-cleared n N before rest r e =
    rw (← e) (ap (λ (l : List ℕ). set l (length before + 15) 0) (set_past before (numbered n N r ++ rest) 14)
    ∙ set_past before (set (numbered n N r ++ rest) 14 0) 15 ∙ ap (λ (l : List ℕ). before ++ l) (zeros r))
  where
    zeros : (r : Record) → set (set (numbered n N r ++ rest) 14 0) 15 0 ≡ record_bytes r ++ rest
    zeros (recorded (item A i j bare) p x y z) = refl
    zeros (recorded (item A i j (foot γ B q t)) p x y z) = refl

-- One record more: the bytes before it, its own, and the rest.
module _ (n N : ℕ) (bytes : List ℕ) (m : ℕ) (e : take (16 * suc m) bytes ≡ numbered_chart n N (chart_in bytes (suc m))) where
  abbrev chart : List Record
  chart = chart_in bytes m

  abbrev rest : List ℕ
  rest = drop (16 * suc m) bytes

  more : chart_in bytes (suc m) ≡ chart ++ (record_at bytes m ∷ [])
  more = ap (chart_in bytes) (sym (add-one m)) ∙ chart-more bytes m

  split : bytes ≡ numbered_chart n N chart ++ (numbered n N (record_at bytes m) ++ rest)
  split =
      sym (take-append-drop (16 * suc m) bytes)
      ∙ ap (λ (l : List ℕ). l ++ rest) (e ∙ (ap (numbered_chart n N) more ∙ concat_map-last (numbered n N) chart (record_at bytes m)))
      ∙ append_assoc (numbered_chart n N chart) (numbered n N (record_at bytes m)) rest

  long : length (numbered_chart n N chart) ≡ 16 * m
  long = numbered-chart-length n N chart ∙ ap (λ (k : ℕ). 16 * k) (chart-length bytes m)

  first : take (16 * m) bytes ≡ numbered_chart n N chart
  first = ap (take (16 * m)) split ∙ take_at (numbered_chart n N chart) (numbered n N (record_at bytes m) ++ rest) (16 * m) long

  last : drop (16 * m) bytes ≡ numbered n N (record_at bytes m) ++ rest
  last = ap (drop (16 * m)) split ∙ drop_at (numbered_chart n N chart) (numbered n N (record_at bytes m) ++ rest) (16 * m) long

  one-cleared : numbers_cleared m bytes ≡ chart_bytes chart ++ drop (16 * m) bytes
      → numbers_cleared (suc m) bytes ≡ chart_bytes (chart_in bytes (suc m)) ++ rest
  one-cleared s =
      ap (λ (l : List ℕ). set (set l (16 * m + 14) 0) (16 * m + 15) 0) (s ∙ ap (λ (l : List ℕ). chart_bytes chart ++ l) last)
      ∙ record-cleared n N (chart_bytes chart) rest (record_at bytes m)
      (chart-bytes-length chart ∙ ap (λ (k : ℕ). 16 * k) (chart-length bytes m))
      ∙ sym (append_assoc (chart_bytes chart) (record_bytes (record_at bytes m)) rest)
      ∙ ap (λ (l : List ℕ). l ++ rest) (sym (ap chart_bytes more ∙ concat_map-last record_bytes chart (record_at bytes m)))

-- The bytes of a chart whose records have numbers, once these are cleared: those of the finished chart.
pub cleared-chart : (n N : ℕ) (bytes : List ℕ) (count : ℕ) → take (16 * count) bytes ≡ numbered_chart n N (chart_in bytes count)
    → numbers_cleared count bytes ≡ chart_bytes (chart_in bytes count) ++ drop (16 * count) bytes
cleared-chart n N bytes zero e = refl
cleared-chart n N bytes (suc m) e = one-cleared n N bytes m e (cleared-chart n N bytes m (first n N bytes m e))
