-- `productions::check`: every production passed by the loop fits, and its names are in the two sets.
-- So at the end the sets decide, and a return on the way shows a production that does not fit.
use mathlib.Core.Path.{sym}
use Prim.Native.Nat.{◌<◌}
use native.Mathlib.Omega.{arith}
use mathlib.Core.Path.{◌≡◌, ◌∙◌}
use Rattle.layout.proofs.Accepting.{counts-within}
use Rattle.card.proofs.FieldLaws.{fields-small}
use Rattle.card.proofs.NameLaws.{gathered_none, gathered-more, gathered-all, one-unfit}
use Rattle.card.proofs.productions.check.Goals.{Else-not-production_fits}
use Rattle.card.proofs.productions.check.Goals as goal

pub loop-m-init : goal.loop-m-init
loop-m-init c = gathered_none _

pub returns-then-not-production_fits : goal.returns-then-not-production_fits
returns-then-not-production_fits c =
    one-unfit c.loop-m.m (omega arith) c.production_at.ensures c.at-f.ensures
    (sym c.production_fits.ensures ∙ c.if-not-production_fits.true)

-- Its names are small enough for a set.
small : (c : Else-not-production_fits) → let f = c.at-f.result in
    (f.a < 32) × ((f.kind ≡ 0 → ⊥) → (f.b < 32) × (f.c < 32))
small c =
    let card = c.args.view.bytes.now in
    fields-small card (counts-within card c.requires.0).few_nonterminals c.at-f.result
    (sym c.production_fits.ensures ∙ c.if-not-production_fits.false)

pub with-names-requires : goal.with-names-requires
with-names-requires c = small c

pub loop-m-preserved : goal.loop-m-preserved
loop-m-preserved c = gathered-more c.loop-m.m c.loop-m.invariant c.production_at.ensures c.at-f.ensures
    (sym c.production_fits.ensures ∙ c.if-not-production_fits.false) c.with-names.ensures

pub returns : goal.returns
returns c = gathered-all c.loop-m.invariant (omega (arith, c.args.view.counts_productions))
