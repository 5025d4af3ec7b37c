-- Laws of the numbers: none is 0, so an answer's number says whether it is a refusal.
use Rattle.std.proofs.Common.{◌<◌, ◌≡◌, Result, Ok, Err}
use native.Mathlib.Omega.{arith}
use Rattle.std.specs.Prelude.{IsOk, refl}
use Rattle.refusals.specs.declared.Refusal.{Refusal}
use Rattle.refusals.specs.declared.Refusal.TheVariants.{Mark, Counts, Lengths, Entry, Production, DeadName}
use Rattle.refusals.specs.declared.Refusal.TheVariants.{NoWords, StrayByte, ManyWords, UnknownWord, NoReading}
use Rattle.refusals.specs.declared.Refusal.TheVariants.{ChartRoom, PlanRoom, OutputRoom, NotItsPlan, NoSuchWord, ManyLines}
use Rattle.refusals.specs.Number.{number_of, number_told}

-- Two digits.
pub numbered : (refusal : Refusal) → (10 < number_of refusal) × (number_of refusal < 100)
numbered Mark = omega arith
numbered Counts = omega arith
numbered Lengths = omega arith
numbered Entry = omega arith
numbered Production = omega arith
numbered NoWords = omega arith
numbered StrayByte = omega arith
numbered ManyWords = omega arith
numbered UnknownWord = omega arith
numbered NoReading = omega arith
numbered ChartRoom = omega arith
numbered PlanRoom = omega arith
numbered OutputRoom = omega arith
numbered NotItsPlan = omega arith
numbered NoSuchWord = omega arith
numbered ManyLines = omega arith
numbered DeadName = omega arith

-- And where it is 0, there is none.
pub no-refusal : {A : Type 0} (r : Result A Refusal) → number_told r ≡ 0 → IsOk r
no-refusal (Ok x) e = refl
no-refusal (Err refusal) e = absurd (omega (arith, e, (numbered refusal).0))
