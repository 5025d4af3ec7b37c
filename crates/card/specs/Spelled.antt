-- Document 01's answer for each case of what Name finds.
use Rattle.std.specs.Prelude.{Result, Ok, Err}
use Rattle.layout.specs.Answers.{NameAnswer}
use Rattle.refusals.specs.declared.Refusal.{Refusal}
use Rattle.refusals.specs.Number.{number_of}
use Rattle.card.specs.declared.Spelling.{Spelling}

abbrev pub answer_in : Result Spelling Refusal → NameAnswer
answer_in (Ok s) = record { number = 0; offset = s.offset; size = s.size }
answer_in (Err refusal) = record { number = number_of refusal; offset = 0; size = 0 }
