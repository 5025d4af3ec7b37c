-- The plan that Read leaves in its room: its bytes are as many as the answer says, and they pass Check.
use Prim.Native.Nat.{ℕ, ◌*◌}
use native.Mathlib.Omega.{arith}
use mathlib.Core.Path.{◌≡◌, sym, ◌∙◌, ap, subst}
use mathlib.Core.Bool.{Bool}
use mathlib.Core.List.{List}
use lib.ListN.{length, take, drop}
use lib.Seq.{take_at}
use borrow.Author.Tests.{eq-eqb}
use Rattle.layout.specs.Steps.{plan_bytes, plan_steps}
use Rattle.layout.specs.Answers.{input_number, words_in, ReadAnswer, check_number, PlanAfter, PlanWritten}
use Rattle.layout.proofs.Lengths.{plan-bytes-length}
use Rattle.layout.proofs.Reading.{read_whole}
use Rattle.std.specs.Prelude.{Result}
use Rattle.refusals.specs.declared.Refusal.{Refusal}
use Rattle.reader.specs.declared.read.Reading.{Reading}
use Rattle.reader.specs.Read.{answer_from, read_number, Reads}

module _ {card line old_chart old_plan new_chart new_plan : List ℕ} {r : Result Reading Refusal} (x : Reads card line old_chart old_plan new_chart new_plan r)
    (z : read_number r ≡ 0) where
  pub planned : PlanWritten card line old_plan new_plan
  planned = subst (λ (b : Bool). PlanAfter card line b old_plan new_plan) (eq-eqb (read_number r) 0 z) x.plan

  whole : (input_number card line ≡ 0) × ((answer_from r).steps ≡ plan_steps (words_in line))
  whole =
      let (i, e) = read_whole card line (length old_chart) (length old_plan) (sym (ap (λ (a : ReadAnswer). a.number) x.answer) ∙ z) in
      (i, ap (λ (a : ReadAnswer). a.steps) (x.answer ∙ e))

  pub read-accepted : input_number card line ≡ 0
  read-accepted = whole.0

  pub steps-planned : (answer_from r).steps ≡ length planned.plan
  steps-planned = whole.1 ∙ sym planned.is_plan.steps

  pub plan-taken : take (4 * (answer_from r).steps) new_plan ≡ plan_bytes planned.plan
  plan-taken =
      let plan = planned.plan in
      ap (take (4 * (answer_from r).steps)) planned.written
      ∙ take_at (plan_bytes plan) (drop (4 * length plan) old_plan) (4 * (answer_from r).steps) (omega (arith, plan-bytes-length plan, steps-planned))

  pub taken-length : 4 * (answer_from r).steps ≡ length (take (4 * (answer_from r).steps) new_plan)
  taken-length = omega (arith, plan-bytes-length planned.plan, steps-planned, ap length plan-taken)

  pub taken-passes : check_number card line (take (4 * (answer_from r).steps) new_plan) ≡ 0
  taken-passes = subst (λ (bytes : List ℕ). check_number card line bytes ≡ 0) (sym plan-taken) planned.is_plan.passes
