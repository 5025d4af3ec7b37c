-- `meet` meets its contract. The loop's invariant: what meets is known of each split that is not left.
use Prim.Native.Nat.{ℕ, ◌+◌, ◌*◌, ◌≤◌, ◌<◌}
use native.Mathlib.Omega.{arith}
use mathlib.Core.Path.{◌≡◌, ap₂}
use lib.Bits.{bit_and}
use lib.ListN.{length, get_or, set}
use Rattle.records.specs.Cells.{span_at}
use Rattle.sets.specs.Places.{bounds, splits_at, spans_at, first_at, second_at}
use Rattle.sets.proofs.MeetLaws.{Begun, splits-are, split-inside, begun, met-more, met-end}
use Rattle.sets.proofs.meet.Goals.{After-rows-rows, In-Some}
use Rattle.sets.proofs.meet.Goals as goal

-- The table as the loop begins.
first-table : (c : After-rows-rows) → let s = c.args.span in
    let sets = c.args.sets.now in
    let r = c.rows-rows.result in
    let splits = bit_and (get_or sets (r + 2 * s.from) 0) (get_or sets (r + 2 * s.to + 1) 0) in
    Begun s.words s.from s.to splits sets (set sets splits_at splits)
first-table c = let s = c.args.span in begun c.requires (splits-are s.words s.from s.to c.args.sets.now c.rows-rows.ensures)

-- The split of a turn.
inside : (c : In-Some) → (c.args.span.from < c.in-Some.k) × (c.in-Some.k < c.args.span.to)
inside c =
    let s = c.args.span in
    split-inside c.requires (splits-are s.words s.from s.to c.args.sets.now c.rows-rows.ensures) c.in-Some.k (c.loop-k.invariant.left c.in-Some.k c.in-Some.ensures.steps.0.has)

pub before-requires : goal.before-requires
before-requires c = inside (goal.at.before-requires c).In-Some

pub after-requires : goal.after-requires
after-requires c = inside (goal.at.after-requires c).In-Some

pub loop-k-preserved : goal.loop-k-preserved
loop-k-preserved c =
    let s = c.args.span in
    let t = c.in-Some in
    let k = inside (goal.at.loop-k-preserved c).In-Some in
    let same = c.loop-k.invariant.only.0 in
    let only = (first-table (goal.at.loop-k-preserved c).After-rows-rows).only.0 in
    let small : t.k < bounds = omega (arith, k.1, s.inside, s.few) in
    let meeting-there : spans_at ≤ length c.loop-k.sets = omega (arith, same, only, c.requires.long) in
    let b = c.before-in-loop-k.ensures in
    let a = c.after.ensures in
    let first : c.place.result ≡ first_at s.from t.k = omega (arith, c.place.ensures.at, ap₂ span_at b.from b.to) in
    let second : c.place-in-loop-k.result + 1 ≡ second_at t.k s.to =
    omega (arith, c.place-in-loop-k.ensures.at, ap₂ span_at a.from a.to) in
    met-more c.loop-k.invariant t.ensures.steps.1 small meeting-there
    (ap₂ (λ (x y : ℕ). bit_and (get_or c.loop-k.sets x 0) (get_or c.loop-k.sets y 0)) first second)

pub returns : goal.returns
returns c = met-end (first-table (goal.at.returns c).After-rows-rows) c.args.span.inside c.in-None.ensures.steps.0 c.loop-k.invariant
