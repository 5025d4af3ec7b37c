-- `View::entry_fits`: the length byte, the spelling and the padding are tested in turn, the last two as parts of the card.
-- The laws of `entry-parts` take those parts to the definition's; a length within its limits keeps them inside the entry.
use mathlib.Core.Path.{sym, ◌∙◌}
use Rattle.card.proofs.Laws.{entry-padding}
use Rattle.card.proofs.header.View.entry_fits.Goals as goal

pub returns-then-all_letters : goal.returns-then-all_letters
returns-then-all_letters c =
    let a = c.args in
    c.all_zero.ensures
    ∙ entry-padding a.self.bytes.now a.v c.entry_at-at.result c.from-n.result c.entry_at-at.ensures c.from-n.ensures
    (sym c.within.ensures ∙ c.if-not-within.false) (sym c.all_letters.ensures ∙ c.if-all_letters.true)
