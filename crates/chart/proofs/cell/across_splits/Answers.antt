-- `cell::across_splits` meets its contract. The loop's invariant: what the rule adds at the splits below y has been added and fits, the table of
-- cells is right, and the splits from y on are left. At a split that is passed over all its items are there.
use Prim.Native.Nat.{ℕ, suc, ◌+◌, ◌<◌}
use native.Mathlib.Omega.{arith}
use mathlib.Core.Path.{◌≡◌, ap}
use Rattle.grammar.specs.Rewriting.{Rule}
use Rattle.card.specs.Productions.{rule_from}
use Rattle.chart_model.specs.Build.{by_rule}
use Rattle.bits.specs.Bits.{bit_of, Least}
use Rattle.bits.proofs.BitSets.{bit-zero-unless, walk_start, walk_from, walk-has, walk-passed, walk-next, walk_end}
use Rattle.records.specs.Room.{chart_in}
use Rattle.records.specs.Filling.{begun_with}
use Rattle.sets.proofs.CardRules.{few-rules}
use Rattle.steps.proofs.StepCover.{Known, Advancing, advanced-as, advance-start, advance-wider, advance-filling}
use Rattle.steps.proofs.StepCover.{advance-past, advance-turn, advance-over, advance-rest-known}
use Rattle.chart.proofs.CardFits.{production-fits}
use Rattle.chart.proofs.CellLaws.{at_split, left_out}
use Rattle.chart.proofs.cell.across_splits.Goals.{After-splits_of-splits, In-Some}
use Rattle.chart.proofs.cell.across_splits.Goals as goal

-- Its splits lie inside the span, and at the others all its items are there.
module _ (c : After-splits_of-splits) where
  inside : (k : ℕ) → bit_of k c.splits_of-splits.result ≡ 1 → (c.args.cell.from < k) × (k < c.args.cell.to)
  inside k o = c.requires.1.splits.inside k (c.splits_of-splits.ensures.only k o)

  known : let a = c.args in
      (k : ℕ) → a.cell.from < k → k < a.cell.to → bit_of k c.splits_of-splits.result ≡ 0
      → Known (chart_in a.chart.now a.count) (at_split a.card.bytes.now a.cell a.p (begun_with a.cell a.chart.now) k)
  known = left_out c.args.card.bytes.now c.requires.1 c.requires.2 c.like_before-like.ensures c.splits_of-splits.ensures

-- The split of a turn.
module _ (c : In-Some) where
  least : Least c.loop-k.k-iterator.rest c.in-Some.k
  least = c.in-Some.ensures.steps.0

  within : (c.args.cell.from < c.in-Some.k) × (c.in-Some.k < c.args.cell.to)
  within = inside (goal.at.In-Some c).After-splits_of-splits c.in-Some.k (walk-has c.loop-k.invariant.2 least)

  passed : let a = c.args in
      let loop = c.loop-k in
      Advancing a.cell (at_split a.card.bytes.now a.cell a.p) (suc a.cell.from) a.cell.to a.chart.now a.marks.now
      a.cells.now a.count loop.chart loop.marks loop.cells c.in-Some.k loop.total
  passed =
      let inv = c.loop-k.invariant in
      let F = at_split c.args.card.bytes.now c.args.cell c.args.p in
      advance-past {F = F} inv.1 c.in-Some.k (walk_from inv.2 least) (omega (arith, within))
      (λ q l h r m. advance-wider {F = F} inv.1 _
      (known (goal.at.In-Some c).After-splits_of-splits q (omega (arith, inv.1.looped.begun)) (omega (arith, within)) (walk-passed inv.2 least q l h) r m))

  -- The call of a turn adds what the rule adds there.
  adds-as : let a = c.args in
      let b = begun_with a.cell c.loop-k.chart in
      by_rule b a.cell.left a.cell.from c.in-Some.k a.cell.to a.p (rule_from c.production-rule.result)
      ≡ at_split a.card.bytes.now a.cell a.p b c.in-Some.k
  adds-as =
      let a = c.args in
      ap (λ (r : Rule). by_rule (begun_with a.cell c.loop-k.chart) a.cell.left a.cell.from c.in-Some.k
      a.cell.to a.p r) c.production-rule.ensures

pub production-rule-requires : goal.production-rule-requires
production-rule-requires c = c.requires.2.counted

pub like_before-like-requires : goal.like_before-like-requires
like_before-like-requires c = c.requires.2.counted

pub splits_of-splits-requires : goal.splits_of-splits-requires
splits_of-splits-requires c = (
  omega (arith, few-rules c.args.card.bytes.now c.args.card.accepted, c.requires.2.counted),
  c.requires.1.long,
  λ k o. omega (arith, c.requires.0.works.words_fit, c.requires.0.inside.2, (c.requires.1.splits.inside k o).1),
)

pub loop-k-init : goal.loop-k-init
loop-k-init c =
    let all : c.into_iter-k-iterator.result.rest ≡ c.splits_of-splits.result = cc in (
      suc c.args.cell.from,
      advance-start c.requires.0,
      rw all (walk_start c.splits_of-splits.result (suc c.args.cell.from)
          (λ q l. bit-zero-unless q c.splits_of-splits.result
          (λ o. absurd (omega (arith, inside (goal.at.loop-k-init c).After-splits_of-splits q o))))),
    )

pub overflow_cast-p : goal.overflow_cast-p
overflow_cast-p c = omega (arith, few-rules c.args.card.bytes.now c.args.card.accepted, c.requires.2.counted)

pub by_production-requires : goal.by_production-requires
by_production-requires c =
    let t = (goal.at.by_production-requires c).In-Some in
    let a = c.args in (
      advance-filling {F = at_split a.card.bytes.now a.cell a.p} c.loop-k.invariant.1 c.requires.0,
      rw c.production-rule.ensures
          (production-fits a.card.bytes.now c.args.card.accepted a.p c.requires.2.counted c.requires.1.names),
      (within t).0,
      (within t).1,
    )

pub returns-in_err-total : goal.returns-in_err-total
returns-in_err-total c =
    let t = (goal.at.returns-in_err-total c).In-Some in
    let a = c.args in
    rw c.from_residual.ensures
    (advance-over {F = at_split a.card.bytes.now a.cell a.p} (passed t) c.requires.0 (within t).1 (advanced-as (adds-as t) c.in_err-total.ensures))

pub loop-k-preserved : goal.loop-k-preserved
loop-k-preserved c =
    let t = (goal.at.loop-k-preserved c).In-Some in
    let a = c.args in (
      c.in-Some.k + 1,
      advance-turn {F = at_split a.card.bytes.now a.cell a.p} (passed t) c.requires.0 (within t).1 (advanced-as (adds-as t) c.in_ok-total.ensures),
      walk-next c.loop-k.invariant.2 (least t) c.in-Some.ensures.steps.1,
    )

pub returns : goal.returns
returns c =
    let inv = c.loop-k.invariant in
    let a = c.args in
    let F = at_split a.card.bytes.now a.cell a.p in
    advance-rest-known {F = F} inv.1
    (λ q l h r m. advance-wider {F = F} inv.1 _
    (known (goal.at.returns c).After-splits_of-splits q (omega (arith, inv.1.looped.begun)) h (walk_end inv.2 c.in-None.ensures.steps.0 q l) r m))
