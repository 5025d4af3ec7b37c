-- The invariant: what is counted and the pairs of the rest of the plan are all pairs. A step has a pair exactly if it gives.
use Prim.Native.Nat.{◌+◌}
use native.Mathlib.Numerals.{add-one}
use native.Mathlib.Omega.{arith}
use mathlib.Core.Path.{◌∙◌, ap}
use Rattle.grammar.specs.Matching.{one_give}
use Rattle.check_pairs.proofs.MatchLaws.{gives-here, all-pairs, no-pairs}
use Rattle.check_pairs.proofs.plan.Passed.gives.Goals as goal

pub overflow_add-count : goal.overflow_add-count
overflow_add-count c = omega (arith, c.loop-k.invariant.0, c.one_give-count.ensures.1)

pub loop-k-preserved : goal.loop-k-preserved
loop-k-preserved c =
    let a = c.args in
    let l = c.loop-k in
    let g = c.one_give-count.ensures in
    let e = g.0 ∙ ap one_give c.step_in-action.ensures.acts in (
      omega (arith, l.invariant.0, g.1),
      omega (arith, l.invariant.1, gives-here a.self.card.bytes.now a.self.plan.now a.self.checked l.k (omega arith) (l.k + 1) (add-one l.k)),
    )

pub returns : goal.returns
returns c =
    let a = c.args in
    let l = c.loop-k in
    let none = no-pairs a.self.card.bytes.now a.self.plan.now a.self.checked l.k c.loop-k-test.false in
    record {
      pairs = omega (arith, l.invariant.1, none) ∙ all-pairs a.self.card.bytes.now a.self.plan.now a.self.checked;
      few = omega (arith, l.invariant.0, c.loop-k.auto.k-end);
    }
