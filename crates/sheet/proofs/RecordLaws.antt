-- The records of a line's pairs, byte by byte, and the records of one line more.
use Prim.Native.Nat.{ℕ, ◌+◌, ◌*◌, ◌≤◌}
use native.Mathlib.Omega.{arith}
use mathlib.Core.Path.{◌≡◌, refl, sym, ◌∙◌, ap}
use mathlib.Core.List.{List, [], ◌∷◌, ◌++◌, map, append_assoc, append-nil}
use lib.ListN.{length, take, drop, length-map}
use lib.Seq.{take_at}
use borrow.Author.Tests.{le-ltb}
use mathlib.Core.Logic.{∥∥₁_elim}
use Rattle.std.proofs.Props.{props}
use Rattle.grammar.specs.Plan.{PlanStep}
use Rattle.grammar.specs.Pairs.{Pair, pair, place_in, pairs_of}
use Rattle.grammar.proofs.ListLaws.{length-concat_map}
use Rattle.layout.specs.Card.{grammar_of}
use Rattle.layout.specs.Steps.{steps_of, pairs_bytes}
use Rattle.layout.specs.Answers.{PairsAnswer, plan_pairs, pairs_within}
use Rattle.layout.specs.Written.{Wrote}
use Rattle.layout.proofs.Lengths.{pair-length, pairs-bytes-length}
use Rattle.layout.proofs.Packing.{passing-pairs-few}
use Rattle.check_pairs.specs.Checked.{Checked}
use Rattle.check_pairs.specs.Paired.{PairsOf}
use Rattle.std.specs.Prelude.{Result}
use Rattle.refusals.specs.declared.Refusal.{Refusal}
use Rattle.refusals.specs.Number.{number_told, count_in}
use Rattle.sheet.specs.Sheet.{SheetRecord, sheet_record, records_from, sheet_record_bytes, sheet_bytes}
use Rattle.sheet.specs.Placed.{placed}
use Rattle.sheet.specs.declared.sheet_records.Records.{Records}
use Rattle.sheet.specs.Reading.{AddsRecords}

pub placed-pairs : (k : ℕ) (pairs : List Pair) → placed k (pairs_bytes pairs) ≡ sheet_bytes (map (sheet_record k) pairs)
placed-pairs k [] = refl
placed-pairs k (pair a b ∷ pairs) = ap (λ (l : List ℕ). k ∷ place_in a ∷ place_in b ∷ l) (placed-pairs k pairs)

record-length : (r : SheetRecord) → length (sheet_record_bytes r) ≡ 3
record-length (sheet_record k p) = omega (arith, pair-length p)

pub sheet-bytes-length : (records : List SheetRecord) → length (sheet_bytes records) ≡ 3 * length records
sheet-bytes-length records = omega (arith, length-concat_map sheet_record_bytes 3 record-length records)

pub sheet-bytes-join : (xs ys : List SheetRecord) → sheet_bytes (xs ++ ys) ≡ sheet_bytes xs ++ sheet_bytes ys
sheet-bytes-join [] ys = refl
sheet-bytes-join (x ∷ xs) ys =
    ap (λ (l : List ℕ). sheet_record_bytes x ++ l) (sheet-bytes-join xs ys)
    ∙ sym (append_assoc (sheet_record_bytes x) (sheet_bytes xs) (sheet_bytes ys))

-- One plan more: its records are those of the line after all others.
pub records-one-more : (card : List ℕ) (plans : List (List PlanStep)) (plan : List PlanStep) (k : ℕ)
    → records_from card k (plans ++ (plan ∷ []))
    ≡ records_from card k plans ++ map (sheet_record (k + length plans)) (pairs_of (grammar_of card) plan)
records-one-more card [] plan k =
    let z : k + 0 ≡ k = omega arith in
    append-nil (map (sheet_record k) (pairs_of (grammar_of card) plan)) ∙ rw z
records-one-more card (first ∷ plans) plan k =
    let own = map (sheet_record k) (pairs_of (grammar_of card) first) in
    let others = records_from card (k + 1) plans in
    let last : ℕ → List SheetRecord = λ n. map (sheet_record n) (pairs_of (grammar_of card) plan) in
    let z : k + 1 + length plans ≡ k + length (first ∷ plans) = omega arith in
    ap (λ (l : List SheetRecord). own ++ l) (records-one-more card plans plan (k + 1))
    ∙ sym (append_assoc own others (last (k + 1 + length plans)))
    ∙ ap (λ (n : ℕ). (own ++ others) ++ last n) z

-- What Pairs leaves in a room of 22 bytes: all pairs of a plan that passes.
module _ {card plan before after : List ℕ} {r : Result ℕ Refusal} (checked : ∥ Checked card plan ∥₁) (p : PairsOf card plan before after r)
    (l : length before ≡ 22) where
  abbrev pairs : List Pair
  pairs = plan_pairs card (steps_of plan)

  pub pairs-few : length pairs ≤ 11
  pairs-few = ∥∥₁_elim checked (hlevel props) (λ c. passing-pairs-few card c.0 plan c.1)

  all-within : pairs_within pairs (length before) ≡ record { number = 0; pairs = pairs }
  all-within = rw (le-ltb (length before) (2 * length pairs) (omega (arith, pairs-few)))

  pub no-refusal : number_told r ≡ 0
  no-refusal = p.number ∙ ap (λ (a : PairsAnswer). a.number) all-within

  pub count-pairs : count_in r ≡ length pairs
  count-pairs = p.count ∙ ap (λ (a : PairsAnswer). length a.pairs) all-within

  pairs-taken : take (2 * (count_in r)) after ≡ pairs_bytes pairs
  pairs-taken =
      ap (take (2 * (count_in r))) p.room
      ∙ ap (λ (a : PairsAnswer). take (2 * (count_in r)) (pairs_bytes a.pairs ++ drop (2 * length a.pairs) before)) all-within
      ∙ take_at (pairs_bytes pairs) (drop (2 * length pairs) before) (2 * (count_in r)) (omega (arith, pairs-bytes-length pairs, count-pairs))

  pub taken-few : length (take (2 * (count_in r)) after) ≡ 2 * (count_in r)
  taken-few = omega (arith, ap length pairs-taken, pairs-bytes-length pairs, count-pairs)

  pub adds-records : {k : ℕ} {old new : Records}
      → Wrote old.room (3 * old.count) (placed k (take (2 * (count_in r)) after)) new.room (3 * new.count) → AddsRecords card plan k old new
  adds-records {k} {old} {new} w =
      let bytes : placed k (take (2 * (count_in r)) after) ≡ sheet_bytes (map (sheet_record k) pairs) =
      ap (placed k) pairs-taken ∙ placed-pairs k pairs in
      let w' = rw bytes at w in
      record {
        total = omega (arith, w'.ends, sheet-bytes-length (map (sheet_record k) pairs), length-map pairs (sheet_record k));
        few = pairs-few;
        wrote = w';
      }
