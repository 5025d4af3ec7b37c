use Rattle.std.proofs.Common.{◌≡◌, true, rules, tests}
use Rattle.std.specs.Char.{is_ascii_digit}
use Rattle.octets.proofs.LetterLaws.{letters-passed, digit-letter}
use Rattle.octets.proofs.past_digits.Goals as goal

pub returns : goal.returns
returns c = letters-passed (λ b h. let digit : is_ascii_digit b ≡ true = search (rules, tests) in digit-letter b digit) c.past.ensures
