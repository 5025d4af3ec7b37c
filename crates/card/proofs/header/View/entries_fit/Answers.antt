-- `View::entries_fit`: every entry passed by the loop fits.
-- So at the end all below the count do, and a return on the way shows one that does not.
use mathlib.Core.Path.{sym, ◌∙◌}
use native.Mathlib.Omega.{arith}
use borrow.Author.Count.{below_none, below_more}
use Rattle.layout.specs.Card.{word_count, entry_fits}
use Rattle.layout.proofs.TestLaws.{all-below, some_below_lem}
use Rattle.card.proofs.header.View.entries_fit.Goals as goal

pub loop-v-init : goal.loop-v-init
loop-v-init c = below_none _

pub returns-then-not-entry_fits : goal.returns-then-not-entry_fits
returns-then-not-entry_fits c =
    let card = c.args.self.bytes.now in
    some_below_lem (word_count card) (entry_fits card) c.loop-v.v (omega arith)
    (sym c.entry_fits.ensures ∙ c.if-not-entry_fits.true)

pub loop-v-preserved : goal.loop-v-preserved
loop-v-preserved c = below_more _ _ c.loop-v.invariant (sym c.entry_fits.ensures ∙ c.if-not-entry_fits.false)

pub returns : goal.returns
returns c =
    let card = c.args.self.bytes.now in
    all-below (word_count card) (entry_fits card) λ k lt. c.loop-v.invariant k (omega arith)
