-- How many bytes steps and pairs take, and the bytes of steps one after the other.
use Prim.Native.Nat.{◌*◌}
use native.Mathlib.Omega.{arith}
use mathlib.Core.Path.{◌≡◌, refl, sym}
use mathlib.Core.List.{List, [], ◌∷◌, ◌++◌, append_assoc}
use lib.ListN.{length}
use Rattle.grammar.specs.Plan.{PlanStep, plan_step}
use Rattle.grammar.specs.Pairs.{Pair, pair}
use Rattle.grammar.proofs.ListLaws.{length-concat_map}
use Rattle.layout.specs.Steps.{step_bytes, plan_bytes, pair_bytes, pairs_bytes}

step-length : (st : PlanStep) → length (step_bytes st) ≡ 4
step-length (plan_step p i k j) = refl

pub plan-bytes-length : (plan : List PlanStep) → length (plan_bytes plan) ≡ 4 * length plan
plan-bytes-length plan = omega (arith, length-concat_map step_bytes 4 step-length plan)

pub pair-length : (p : Pair) → length (pair_bytes p) ≡ 2
pair-length (pair given taken) = refl

pub pairs-bytes-length : (pairs : List Pair) → length (pairs_bytes pairs) ≡ 2 * length pairs
pairs-bytes-length pairs = omega (arith, length-concat_map pair_bytes 2 pair-length pairs)

pub plan-join : (steps others : List PlanStep) → plan_bytes (steps ++ others) ≡ plan_bytes steps ++ plan_bytes others
plan-join [] others = refl
plan-join (st ∷ steps) others = rw (plan-join steps others) (sym (append_assoc (step_bytes st) (plan_bytes steps) (plan_bytes others)))
