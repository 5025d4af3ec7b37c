-- The numbers that documents 01 and 02 give to refusals, and to an answer that may be one.
use Rattle.std.specs.Prelude.{ℕ, Result, Ok, Err}
use Rattle.refusals.specs.declared.Refusal.{Refusal}
use Rattle.refusals.specs.declared.Refusal.TheVariants.{Mark, Counts, Lengths, Entry, Production, DeadName}
use Rattle.refusals.specs.declared.Refusal.TheVariants.{NoWords, StrayByte, ManyWords, UnknownWord, NoReading}
use Rattle.refusals.specs.declared.Refusal.TheVariants.{ChartRoom, PlanRoom, OutputRoom, NotItsPlan, NoSuchWord, ManyLines}

abbrev pub number_of : Refusal → ℕ
number_of Mark = 11
number_of Counts = 12
number_of Lengths = 13
number_of Entry = 14
number_of Production = 16
number_of NoWords = 21
number_of StrayByte = 22
number_of ManyWords = 23
number_of UnknownWord = 24
number_of NoReading = 25
number_of ChartRoom = 31
number_of PlanRoom = 32
number_of OutputRoom = 33
number_of NotItsPlan = 34
number_of NoSuchWord = 35
number_of ManyLines = 41
number_of DeadName = 42

-- Of an answer: 0 where nothing is refused.
abbrev pub number_told : {A : Type 0} → Result A Refusal → ℕ
number_told (Ok x) = 0
number_told (Err refusal) = number_of refusal

-- And how many things an answer that counts them hands out: none where it is a refusal.
abbrev pub count_in : Result ℕ Refusal → ℕ
count_in (Ok count) = count
count_in (Err refusal) = 0
