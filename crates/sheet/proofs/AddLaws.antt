-- One line of a sheet: what Read promises with the reader's own plan room, and the records of the plan that stands there.
use Prim.Native.Nat.{ℕ, ◌+◌, ◌*◌, ◌≤◌}
use mathlib.Core.Path.{◌≡◌, sym, ◌∙◌, ap, subst}
use mathlib.Core.List.{List, map}
use lib.ListN.{length, take}
use Rattle.grammar.specs.Pairs.{Pair, pairs_of}
use Rattle.layout.specs.Card.{grammar_of}
use Rattle.layout.specs.Steps.{steps_of}
use Rattle.layout.specs.Written.{Wrote}
use Rattle.layout.specs.Answers.{ReadAnswer, read_answer, chart_state, ChartAfter, plan_pairs}
use Rattle.layout.proofs.Checking.{steps-bytes}
use Rattle.reader.specs.Read.{answer_from, Reads}
use Rattle.reader.specs.Read as read
use Rattle.std.specs.Prelude.{Result}
use Rattle.refusals.specs.declared.Refusal.{Refusal}
use Rattle.reader.specs.declared.read.Reading.{Reading}
use Rattle.reader.proofs.PlanRead.{planned, plan-taken}
use Rattle.sheet.specs.Sheet.{own_plan_room, read_number, sheet_record, sheet_bytes}
use Rattle.sheet.specs.declared.sheet_records.Records.{Records}
use Rattle.sheet.specs.Reading.{AddsRecords, Adds}

module _ {card line old_chart old_plan new_chart new_plan : List ℕ} {a : Result Reading Refusal} (x : Reads card line old_chart old_plan new_chart new_plan a)
    (own : length old_plan ≡ own_plan_room) where
  number_is : (read.read_number a) ≡ read_number card (length old_chart) line
  number_is = ap (λ (r : ReadAnswer). r.number) x.answer ∙ ap (λ (n : ℕ). (read_answer card line (length old_chart) n).number) own

  chart-is : ChartAfter card line (chart_state (read_number card (length old_chart) line)) old_chart new_chart
  chart-is = subst (λ (n : ℕ). ChartAfter card line (chart_state n) old_chart new_chart) number_is x.chart

  -- A reading, with the records of its plan.
  module _ (z : (read.read_number a) ≡ 0) where
    pairs-are : plan_pairs card (steps_of (take (4 * (answer_from a).steps) new_plan)) ≡ pairs_of (grammar_of card) (planned x z).plan
    pairs-are = ap (λ (bytes : List ℕ). plan_pairs card (steps_of bytes)) (plan-taken x z) ∙ ap (plan_pairs card) (steps-bytes (planned x z).plan)

    pub adds-read : {k : ℕ} {old new : Records} → AddsRecords card (take (4 * (answer_from a).steps) new_plan) k old new
        → Adds card line k old_chart new_chart old new 0
    adds-read {k} {old} {new} w =
        record {
          number = sym z ∙ number_is;
          chart = chart-is;
          read =
              λ _. record {
                plan = (planned x z).plan;
                read = record { derivation = x.read z; is_plan = (planned x z).is_plan };
                total = w.total ∙ ap (λ (l : List Pair). old.count + length l) pairs-are;
                few = subst (λ (l : List Pair). length l ≤ 11) pairs-are w.few;
                wrote =
                    subst (λ (l : List Pair). Wrote old.room (3 * old.count) (sheet_bytes (map (sheet_record k) l)) new.room (3 * new.count))
                    pairs-are w.wrote;
              };
        }
