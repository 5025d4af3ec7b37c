-- A chart that was built is read back from its room: it counts the derivable items, and has the item of the start exactly where it is derivable.
-- And since it has first steps, the plan that goes down from there by the recorded steps is the first of all.
use Prim.Native.Nat.{ℕ, ◌*◌, ◌≤◌}
use native.Mathlib.Omega.{arith}
use mathlib.Core.Path.{◌≡◌, sym, ◌∙◌, ap, ap₂, subst}
use mathlib.Core.Bool.{Bool, true, false, cond}
use mathlib.Core.List.{List, []}
use lib.ListN.{length, drop, length-append}
use Rattle.grammar.specs.Input.{Holds}
use Rattle.grammar.specs.Items.{bare}
use Rattle.grammar.specs.ItemList.{item}
use Rattle.grammar.specs.Plan.{PlanStep}
use Rattle.grammar.specs.FirstPlan.{FirstPlan}
use Rattle.grammar.specs.Chart.{Record, IsChart, item_of}
use Rattle.grammar.specs.Ways.{FirstSteps}
use Rattle.grammar.proofs.ItemListExact.{items-sound, items-complete, among-true, among-mem}
use Rattle.grammar.proofs.Unfolding.{justified-derived}
use Rattle.grammar.proofs.WaysPlans.{first-plan}
use Rattle.layout.specs.Card.{card_number, grammar_of}
use Rattle.layout.specs.Records.{chart_bytes, record_at, chart_in, capacity}
use Rattle.layout.specs.Answers.{words_in, line_test, derivable, start_found, whole, ChartAfter}
use Rattle.layout.proofs.CardLaws.{card-one-sided}
use Rattle.layout.proofs.Reading.{line-below}
use Rattle.layout.proofs.TestLaws.{unless-true}
use Rattle.layout.proofs.Charts.{chart-count}
use Rattle.std.specs.Prelude.{Some}
use Rattle.chart.specs.Built.{BuiltRoom}
use Rattle.records.proofs.RoomLaws.{chart-bytes-length}
use Rattle.chart.proofs.BuiltLaws.{built-count, built-fits}
use Rattle.unfold.specs.Unfold.{Held, RecordedWay, Found}
use Rattle.std.specs.Prelude.{Some, None}
use Rattle.unfold.proofs.Starting.{stands-among}
use Rattle.layout.proofs.CountedLaws.{table-stands, stands-below, stands-there}
use Rattle.reader.proofs.ReadBack.{chart-read-back}

module _ (card line old new : List ℕ) (count : ℕ) (accepted : card_number card ≡ 0)
    (built : BuiltRoom card (line_test card line) (words_in line) (Some count) old new) where
  abbrev chart : List Record
  chart = built.room.0

  is-chart : IsChart (grammar_of card) (Holds (line_test card line)) chart
  is-chart = built.room.1

  -- The room as Read promises it, where which chart is free.
  pub room_after : ChartAfter card line whole old new
  room_after = (chart, is-chart, built.room.3)

  counts-records : count ≡ length chart
  counts-records = built-count card (line_test card line) (words_in line) built ∙ sym (chart-count card line chart is-chart)

  room-read : chart_in new count ≡ chart
  room-read =
      ap₂ chart_in built.room.3 counts-records ∙ chart-read-back card accepted chart (drop (16 * length chart) old) is-chart

  read-chart : IsChart (grammar_of card) (Holds (line_test card line)) (chart_in new count)
  read-chart = subst (IsChart (grammar_of card) (Holds (line_test card line))) (sym room-read) is-chart

  read_first : FirstSteps (grammar_of card) (Holds (line_test card line)) (chart_in new count)
  read_first = subst (FirstSteps (grammar_of card) (Holds (line_test card line))) (sym room-read) built.room.2

  pub held : Held card (line_test card line) new count
  held =
      record {
        there =
            omega (
              arith,
              ap length built.room.3,
              length-append (chart_bytes chart) (drop (16 * length chart) old),
              chart-bytes-length chart,
              counts-records,
            );
        justified = read-chart.justified;
      }

  pub counts-items : count ≡ length (derivable card line)
  counts-items = built-count card (line_test card line) (words_in line) built

  pub items-fit : length (derivable card line) ≤ capacity (length old)
  items-fit = built-fits card (line_test card line) (words_in line) built

  pub start-there : (m : ℕ) → Found new count (words_in line) (Some m) → start_found card line ≡ true
  start-there m f =
      let n = words_in line in
      let d = justified-derived (grammar_of card) (Holds (line_test card line)) (chart_in new count) read-chart.justified
      (table-stands (record_at new) f.place.0) f.place.1 in
      among-mem (items-complete (grammar_of card) (line_test card line) n (line-below card line) 0 0 n bare d)

  pub start_first : (m : ℕ) {plan : List PlanStep} → Found new count (words_in line) (Some m)
      → RecordedWay card (line_test card line) new count m [] plan
      → FirstPlan (grammar_of card) (Holds (line_test card line)) (words_in line) plan
  start_first m f w =
      first-plan (grammar_of card) (Holds (line_test card line)) (chart_in new count) (card-one-sided card) read-chart read_first
      (table-stands (record_at new) f.place.0) f.place.1 w

  start-refuted : Found new count (words_in line) None → start_found card line ≡ true → ⊥
  start-refuted missing e =
      let n = words_in line in
      let d = items-sound (grammar_of card) (line_test card line) n 0 0 n bare (among-true (item 0 0 n bare) (derivable card line) e) in
      let (m, r, there, eq) = read-chart.complete 0 0 n bare d in
      let stands = stands-among new count n m (stands-below (record_at new) count m there)
      (ap item_of (sym (stands-there (record_at new) count m there)) ∙ eq) in
      let number : ◌≡◌ {A = ℕ} 25 0 = missing.number ∙ ap (λ (t : Bool). cond t 0 25) stands in
      absurd (omega arith)

  pub start-missing : Found new count (words_in line) None → start_found card line ≡ false
  start-missing missing = unless-true (start_found card line) λ e. absurd (start-refuted missing e)
