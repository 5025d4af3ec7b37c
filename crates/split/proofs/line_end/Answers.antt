use Rattle.std.proofs.Common.{rules, tests}
use Rattle.split.proofs.LineLaws.{line-ends}
use Rattle.split.proofs.line_end.Goals as goal

pub returns : goal.returns
returns c = line-ends c.requires (λ b r p. search (rules, tests)) c.past.ensures
