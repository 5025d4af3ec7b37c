-- The search for the start decides: its position has all that unfolding asks, and the plan is what unfolding writes. Where there is no start,
-- the plan room stays as it was.
use Rattle.std.specs.Prelude.{ℕ, ◌*◌, ◌-◌, ◌≡◌, Some, None, List}
use Rattle.std.proofs.Common.{arith}
use mathlib.Core.Path.{refl}
use Rattle.unfold.specs.Unfold.{Plans, Found}
use Rattle.reader.specs.Ended.{PlanOf}
use Rattle.reader.proofs.read.plan_of.Goals as goal

planned : {card chart old new : List ℕ} {n count m s : ℕ} → Found chart count n (Some m) → Plans card chart m old new → s ≡ 2 * n - 1
    → PlanOf card chart n count old new (record { words = n; items = count; steps = Some s })
planned {count = count} {m = m} found plan steps = record { start = Some m; searched = found; answer = rw steps; plan = λ at held. plan at count held found.place.0 }

pub returns : goal.returns
returns c = planned c.in-Some.ensures c.unfold.ensures (omega arith)

pub returns-in_default : goal.returns-in_default
returns-in_default c = record { start = None; searched = rw c.in_default.is at c.find_start.ensures; answer = refl; plan = λ at held. refl }
