-- The number, the line and the count of records for each case of a sheet's answer: 0 and no line where it is accepted, and no records where
-- it is not.
use Rattle.std.specs.Prelude.{ℕ, Result, Ok, Err}
use Rattle.refusals.specs.declared.Refusal.{Refusal}
use Rattle.refusals.specs.Number.{number_of}
use Rattle.sheet.specs.declared.Refused.{Refused}

abbrev pub refused : Refusal → ℕ → Refused
refused refusal line = record { refusal = refusal; line = line }

abbrev pub answer_number : {A : Type 0} → Result A Refused → ℕ
answer_number (Ok x) = 0
answer_number (Err r) = number_of r.refusal

abbrev pub answer_line : {A : Type 0} → Result A Refused → ℕ
answer_line (Ok x) = 0
answer_line (Err r) = r.line

abbrev pub answer_count : Result ℕ Refused → ℕ
answer_count (Ok count) = count
answer_count (Err r) = 0
