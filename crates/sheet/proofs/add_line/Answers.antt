-- `add_line` meets its contract: a refusal is Read's own; a reading has its plan in the room, which passes Check, and its records are added.
use Prim.Native.Nat.{◌*◌, ◌≤◌}
use native.Mathlib.Omega.{arith}
use mathlib.Core.Path.{◌≡◌, refl, sym, ap}
use lib.ListN.{length}
use Rattle.std.proofs.lemmas.List.{length-take}
use Rattle.reader.specs.Read.{plan_number, steps_in}
use Rattle.reader.proofs.PlanRead.{taken-length, taken-passes}
use Rattle.sheet.proofs.AddLaws.{adds-read}
use Rattle.sheet.proofs.add_line.Goals.{In_ok-steps}
use Rattle.sheet.proofs.add_line.Goals as goal

-- There is a plan, of so many steps.
planned : (c : In_ok-steps) → plan_number c.in_ok-reading.reading.steps ≡ 0
planned c = ap plan_number c.in_ok-steps.ensures.ok_part

counted : (c : In_ok-steps) → c.in_ok-steps.steps ≡ steps_in c.in_ok-reading.reading.steps
counted c = sym (ap steps_in c.in_ok-steps.ensures.ok_part)

-- The bytes of the plan lie in its room.
inside : (c : In_ok-steps) → 4 * c.in_ok-steps.steps ≤ length c.read_line.new.plan
inside c =
    let taken = taken-length c.in_ok-reading.ensures (planned c) in
    rw (counted c) (omega (arith, taken, length-take (4 * steps_in c.in_ok-reading.reading.steps) c.read_line.new.plan))

pub overflow_mul-plan : goal.overflow_mul-plan
overflow_mul-plan c = omega (arith, inside (goal.at.overflow_mul-plan c).In_ok-steps, c.read_line.auto.plan)

pub slice_bounds-plan-end : goal.slice_bounds-plan-end
slice_bounds-plan-end c = inside (goal.at.slice_bounds-plan-end c).In_ok-steps

pub slice_bounds-passed-end : goal.slice_bounds-passed-end
slice_bounds-passed-end c =
    let w = (goal.at.slice_bounds-passed-end c).In_ok-steps in
    rw (counted w) (taken-length c.in_ok-reading.ensures (planned w))

pub invariant_of-passed : goal.invariant_of-passed
invariant_of-passed c =
    let w = (goal.at.invariant_of-passed c).In_ok-steps in
    record { checked = ∣ (c.args.line.now, rw (counted w) (taken-passes c.in_ok-reading.ensures (planned w))) ∣₁ }

pub returns : goal.returns
returns c =
    let w = (goal.at.returns c).In_ok-steps in
    adds-read c.in_ok-reading.ensures refl (planned w) (rw (counted w) at c.add.ensures)
