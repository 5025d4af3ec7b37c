-- A letter that is none of a to z, the digits behind it, and a to z behind these.
use mathlib.Core.Path.{sym, ◌∙◌}
use Rattle.octets.proofs.LetterLaws.{letters-more, letters-join}
use Rattle.octets.proofs.past_letters.Goals as goal

pub loop-end-preserved : goal.loop-end-preserved
loop-end-preserved c =
    let one = letters-more c.loop-end.invariant c.loop-end-test.true (sym c.is_letter.ensures ∙ c.if-is_letter.true) in
    letters-join (letters-join one c.past_digits.ensures) c.past_small-end-in-loop-end.ensures
