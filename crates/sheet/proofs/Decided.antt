-- A sheet's answer and the bytes that it writes are decided by the card, the sheet and the rooms as they were: a line has one plan, so
-- lines that are read have one list of plans, and with it every part of the answer is the same. Which chart is left is free.
use Prim.Native.Nat.{ℕ}
use mathlib.Core.Path.{◌≡◌, refl, sym, ◌∙◌, ap, ap₂}
use mathlib.Core.List.{List, ◌∷◌}
use lib.ListN.{length}
use Rattle.grammar.specs.Plan.{PlanStep}
use Rattle.layout.proofs.Planning.{one-plan}
use Rattle.sheet.specs.Sheet.{SheetAnswer, sheet_answer, output_after}
use Rattle.sheet.specs.Promise.{EachRead, none, more, Sheet}

pub each-once : {card : List ℕ} {lines : List (List ℕ)} {plans plans' : List (List PlanStep)} → EachRead card lines plans
    → EachRead card lines plans' → plans ≡ plans'
each-once none none = refl
each-once (more a rest) (more b rest') = ap₂ ◌∷◌ (one-plan a.is_plan b.is_plan) (each-once rest rest')

pub sheet-decided : {card sheet old_chart old_output new_chart new_chart' new_output new_output' : List ℕ}
    {number number' line line' count count' : ℕ} → Sheet card sheet old_chart old_output new_chart new_output number line count
    → Sheet card sheet old_chart old_output new_chart' new_output' number' line' count'
    → (number ≡ number') × (line ≡ line') × (count ≡ count') × (new_output ≡ new_output')
sheet-decided {card} {sheet} {old_chart} {old_output} a b =
    let answer : sheet_answer card sheet (length old_chart) (length old_output) a.plans
    ≡ sheet_answer card sheet (length old_chart) (length old_output) b.plans =
    ap (sheet_answer card sheet (length old_chart) (length old_output)) (each-once a.each b.each) in (
      a.number_is ∙ ap (λ (x : SheetAnswer). x.number) answer ∙ sym b.number_is,
      a.line_is ∙ ap (λ (x : SheetAnswer). x.line) answer ∙ sym b.line_is,
      a.count_is ∙ ap (λ (x : SheetAnswer). length x.records) answer ∙ sym b.count_is,
      a.output ∙ ap (λ (x : SheetAnswer). output_after x.records old_output) answer ∙ sym b.output,
    )
