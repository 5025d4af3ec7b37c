use Rattle.std.proofs.Common.{◌≡◌, true, rules, tests}
use Rattle.std.specs.Char.{is_ascii_lowercase}
use Rattle.octets.proofs.LetterLaws.{letters-passed}
use Rattle.octets.proofs.past_small.Goals as goal

pub returns : goal.returns
returns c = letters-passed (λ b h. let small : is_ascii_lowercase b ≡ true = search (rules, tests) in rw small) c.past.ensures
