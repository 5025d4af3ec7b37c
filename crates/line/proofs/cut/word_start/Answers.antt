use Rattle.std.proofs.Common.{rules, tests}
use Rattle.line.proofs.WordLaws.{starts-past}
use Rattle.line.proofs.cut.word_start.Goals as goal

pub returns : goal.returns
returns c = starts-past (λ b r p. search (rules, tests)) c.past.ensures
