-- The records of all lines handed out: 33 where the output room is too short, and else a copy.
use Prim.Native.Nat.{ℕ, ◌*◌, ◌≤◌, ◌<◌}
use native.Mathlib.Omega.{arith}
use mathlib.Core.Path.{◌≡◌, refl, sym, ◌∙◌, ap}
use mathlib.Core.List.{List, ◌++◌}
use lib.ListN.{length, drop}
use borrow.Author.Tests.{lt-ltb, le-ltb}
use Rattle.sheet.specs.Sheet.{SheetRecord, sheet_bytes, SheetAnswer, refused_at, records_within, output_after}
use Rattle.sheet.specs.Reading.{Handed}
use Rattle.std.specs.Prelude.{Result, Ok, Err}
use Rattle.refusals.specs.declared.Refusal.TheVariants.{OutputRoom}
use Rattle.sheet.specs.declared.Refused.{Refused}
use Rattle.sheet.specs.Answered.{refused, answer_number, answer_line, answer_count}
use Rattle.sheet.proofs.RecordLaws.{sheet-bytes-length}

-- The answer is a, and the output room as a says.
handed : (records : List SheetRecord) (before after : List ℕ) (r : Result ℕ Refused) (a : SheetAnswer) → records_within records (length before) ≡ a
    → answer_number r ≡ a.number → answer_line r ≡ a.line → answer_count r ≡ length a.records → after ≡ output_after a.records before
    → Handed records before after r
handed records before after r a e n l c o =
    record {
      number = n ∙ sym (ap (λ (x : SheetAnswer). x.number) e);
      line = l ∙ sym (ap (λ (x : SheetAnswer). x.line) e);
      count = c ∙ sym (ap (λ (x : SheetAnswer). length x.records) e);
      output = o ∙ sym (ap (λ (x : SheetAnswer). output_after x.records before) e);
    }

module _ (records : List SheetRecord) (bytes before : List ℕ) (is : bytes ≡ sheet_bytes records) where
  bytes-length : length bytes ≡ 3 * length records
  bytes-length = ap length is ∙ sheet-bytes-length records

  pub hand-short : length before < length bytes → Handed records before before (Err (refused OutputRoom 0))
  hand-short h =
      handed records before before (Err (refused OutputRoom 0)) (refused_at 33 0)
      (rw (lt-ltb (length before) (3 * length records) (omega (arith, bytes-length)))) refl refl refl refl

  pub hand-all : {after : List ℕ} {count : ℕ} → length bytes ≤ length before → count ≡ length records
      → after ≡ bytes ++ drop (length bytes) before → Handed records before after (Ok count)
  hand-all {after} {count} h c o =
      handed records before after (Ok count) (record { number = 0; line = 0; records = records })
      (rw (le-ltb (length before) (3 * length records) (omega (arith, bytes-length)))) refl refl c
      (o ∙ ap (λ (x : List ℕ). x ++ drop (length bytes) before) is
      ∙ ap (λ (n : ℕ). sheet_bytes records ++ drop n before) bytes-length)
