-- `cell::fill_items` meets its contract. The loop's invariant: what the productions of the set below y add has been added and fits, the table
-- of cells is right, and the productions from y on are left. Those that are not in the set add nothing.
use Prim.Native.Nat.{◌+◌, ◌-◌, ◌<◌}
use native.Mathlib.Omega.{arith}
use mathlib.Core.Path.{◌≡◌}
use Rattle.layout.specs.Card.{max_productions, production_count, grammar_of}
use Rattle.places.specs.Places.{word_test}
use Rattle.bits.specs.Bits.{Least}
use Rattle.bits.proofs.BitSets.{walk_start, walk_from, walk-has, walk-next}
use Rattle.records.specs.Filling.{begun_with}
use Rattle.sets.proofs.CardRules.{rules-length, rule-there, few-rules}
use Rattle.steps.proofs.StepCover.{Advancing, advanced-as, advance-start, advance-filling, advance-to, advance-turn, advance-over, advance-rest}
use Rattle.chart.specs.Cell.{rule_adds}
use Rattle.chart.proofs.CardFits.{few-length}
use Rattle.chart.proofs.CellLaws.{by_number, chosen-next, chosen-passed, chosen-after, bit-within, all-chosen, given-kept, past-known}
use Rattle.chart.proofs.cell.fill_items.Goals.{In-Some}
use Rattle.chart.proofs.cell.fill_items.Goals as goal

-- A turn's production, and none of those on the way to it.
module _ (c : In-Some) where
  least : Least c.loop-p.p-iterator.rest c.in-Some.p
  least = c.in-Some.ensures.steps.0

  within : c.in-Some.p < production_count c.args.input.card.bytes.now
  within =
      let card = c.args.input.card.bytes.now in
      omega (arith, bit-within c.in-Some.p c.requires.2 (walk-has c.loop-p.invariant.2 least), rules-length card (production_count card))

  below : c.in-Some.p < max_productions
  below = omega (arith, within, few-rules c.args.input.card.bytes.now c.args.input.card.accepted)

  passed : let a = c.args in
      let loop = c.loop-p in
      Advancing a.cell (by_number a.input.card.bytes.now a.input.words.now.places a.cell a.set) 0 max_productions a.chart.now a.marks.now
      a.cells.now a.cell.base loop.chart loop.marks loop.cells c.in-Some.p loop.total
  passed =
      let a = c.args in
      let loop = c.loop-p in
      advance-to {F = by_number a.input.card.bytes.now a.input.words.now.places a.cell a.set} loop.invariant.1 c.in-Some.p
      (walk_from loop.invariant.2 least) (omega (arith, below))
      (chosen-passed a.set (grammar_of a.input.card.bytes.now) (word_test a.input.words.now.places) (begun_with a.cell a.chart.now) a.cell.left
      a.cell.from (a.cell.to - a.cell.from) loop.p-iterator.rest loop.invariant.0 loop.invariant.2 c.in-Some.p least)

  -- What the call in a turn adds.
  adds-as : let a = c.args in
      let b = begun_with a.cell c.loop-p.chart in
      rule_adds a.input.card.bytes.now a.input.words.now.places a.cell c.in-Some.p b ≡ by_number a.input.card.bytes.now a.input.words.now.places a.cell a.set b c.in-Some.p
  adds-as =
      let a = c.args in
      let loop = c.loop-p in
      chosen-next a.set (grammar_of a.input.card.bytes.now) (word_test a.input.words.now.places) (begun_with a.cell loop.chart) a.cell.left
      a.cell.from (a.cell.to - a.cell.from) loop.p-iterator.rest loop.invariant.0 loop.invariant.2 c.in-Some.p least
      (rule-there a.input.card.bytes.now (production_count a.input.card.bytes.now) c.in-Some.p within)

pub loop-p-init : goal.loop-p-init
loop-p-init c =
    let all : c.into_iter-p-iterator.result.rest ≡ c.args.set = cc in
    (0, advance-start c.requires.0, rw all (walk_start c.args.set 0 (λ q l. absurd (omega arith))))

pub by_rule_over-requires : goal.by_rule_over-requires
by_rule_over-requires c =
    let t = (goal.at.by_rule_over-requires c).In-Some in
    let a = c.args in
    let inv = c.loop-p.invariant.1 in
    let F = by_number a.input.card.bytes.now a.input.words.now.places a.cell a.set in (
      advance-filling {F = F} inv c.requires.0,
      given-kept {F = F} inv c.requires.0 c.requires.1,
      record { counted = within t; past = past-known a.input.card.bytes.now a.input.words.now.places c.requires.0 c.requires.2 (within t) (passed t) },
    )

pub returns-in_err-total : goal.returns-in_err-total
returns-in_err-total c =
    let t = (goal.at.returns-in_err-total c).In-Some in
    let a = c.args in
    rw c.from_residual.ensures
    (advanced-as (all-chosen (grammar_of a.input.card.bytes.now) c.requires.2 max_productions (few-length a.input.card.bytes.now c.args.input.card.accepted))
    (advance-over {F = by_number a.input.card.bytes.now a.input.words.now.places a.cell a.set} (passed t) c.requires.0 (below t)
    (advanced-as (adds-as t) c.in_err-total.ensures)))

pub loop-p-preserved : goal.loop-p-preserved
loop-p-preserved c =
    let t = (goal.at.loop-p-preserved c).In-Some in
    let a = c.args in (
      c.in-Some.p + 1,
      advance-turn {F = by_number a.input.card.bytes.now a.input.words.now.places a.cell a.set} (passed t) c.requires.0 (below t)
          (advanced-as (adds-as t) c.in_ok-total.ensures),
      walk-next c.loop-p.invariant.2 (least t) c.in-Some.ensures.steps.1,
    )

pub returns : goal.returns
returns c =
    let a = c.args in
    let loop = c.loop-p in
    advanced-as (all-chosen (grammar_of a.input.card.bytes.now) c.requires.2 max_productions (few-length a.input.card.bytes.now c.args.input.card.accepted))
    (advance-rest {F = by_number a.input.card.bytes.now a.input.words.now.places a.cell a.set} loop.invariant.1
    (λ q l h. chosen-after a.set (grammar_of a.input.card.bytes.now) (word_test a.input.words.now.places) (begun_with a.cell a.chart.now)
    a.cell.left a.cell.from (a.cell.to - a.cell.from) loop.p-iterator.rest loop.invariant.0 loop.invariant.2 q c.in-None.ensures.steps.0 l))
