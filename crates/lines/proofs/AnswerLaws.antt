-- The text of a line that is read: what stands in the plan room is a leftmost derivation, which Pairs takes, and its steps and pairs are
-- printed one after the other.
use Prim.Native.Nat.{ℕ, ◌*◌, ◌≤◌}
use native.Mathlib.Omega.{arith}
use mathlib.Core.Path.{◌≡◌, refl, sym, ◌∙◌, ap, subst}
use mathlib.Core.Bool.{Bool}
use mathlib.Core.List.{List, [], ◌∷◌, ◌++◌}
use lib.ListN.{length, take, drop}
use lib.Seq.{take_at}
use borrow.Author.Tests.{eq-eqb}
use Rattle.std.specs.Prelude.{Some, Result, Ok, Err}
use Rattle.std.specs.Result.{result_unwrap_or}
use Rattle.grammar.specs.Lists.{concat_map}
use Rattle.grammar.specs.Plan.{PlanStep, plan_step}
use Rattle.grammar.specs.Pairs.{place_in, Pair, pair, pairs_of}
use Rattle.layout.specs.Card.{grammar_of}
use Rattle.layout.specs.Steps.{plan_bytes, pairs_bytes}
use Rattle.layout.specs.Answers.{input_number, ReadAnswer, read_answer, plan_pairs, PairsAnswer, pairs_answer, pairs_after, Derives}
use Rattle.layout.proofs.Lengths.{pairs-bytes-length}
use Rattle.layout.proofs.Checking.{steps-bytes, check-complete}
use Rattle.layout.proofs.Packing.{read_fits, passing-pairs, pairs-fit}
use Rattle.check_pairs.specs.Paired.{Pairs}
use Rattle.refusals.specs.declared.Refusal.{Refusal}
use Rattle.refusals.specs.Number.{count_in}
use Rattle.reader.specs.Read.{plan_number, steps_in, answer_from, read_number, Reads}
use Rattle.reader.specs.declared.read.Reading.{Reading}
use Rattle.reader.proofs.PlanRead.{planned, read-accepted, plan-taken, taken-length}
use Rattle.lines_text.specs.Text.{step_line, step_lines, pair_line, pair_lines, read_line, Appends}
use Rattle.lines_text.proofs.Appending.{appends-then}
use Rattle.lines.specs.Answer.{step_text, pair_text, line_answer, plan_text, TextIf, LineText, Answers}

-- Lines for bytes are lines for steps and pairs.
step_lines_lem : (plan : List PlanStep) → step_lines (plan_bytes plan) ≡ concat_map step_text plan
step_lines_lem [] = refl
step_lines_lem (plan_step p i k j ∷ plan) = ap (λ (l : List ℕ). step_line p i k j ++ l) (step_lines_lem plan)

pair-lines : (pairs : List Pair) → pair_lines (pairs_bytes pairs) ≡ concat_map pair_text pairs
pair-lines [] = refl
pair-lines (pair a b ∷ pairs) = ap (λ (l : List ℕ). pair_line (place_in a) (place_in b) ++ l) (pair-lines pairs)

-- The pairs of a leftmost derivation: all of them fit the room.
module _ (card line : List ℕ) (plan : List PlanStep) (e : input_number card line ≡ 0) (d : Derives card line plan) where
  pairs-in : (room : ℕ) → 2 * length (pairs_of (grammar_of card) plan) ≤ room
      → (pairs_answer card line (plan_bytes plan) room).pairs ≡ pairs_of (grammar_of card) plan
  pairs-in room h =
      let s = ap (plan_pairs card) (steps-bytes plan) in
      ap (λ (r : PairsAnswer). r.pairs)
      (passing-pairs card line (plan_bytes plan) room (check-complete card line plan e d) (omega (arith, ap length s)))
      ∙ s

  pairs-few : length (pairs_of (grammar_of card) plan) ≤ 47
  pairs-few =
      let pairs = pairs_of (grammar_of card) plan in
      omega (arith, (pairs-fit card line (plan_bytes plan) (2 * length pairs)).count, ap length (pairs-in (2 * length pairs) (omega arith)))

  pub plan-text : plan_text card line (plan_bytes plan) ≡ concat_map step_text plan ++ concat_map pair_text (pairs_of (grammar_of card) plan)
  plan-text =
      let few = pairs-few in
      let pairs = pairs_of (grammar_of card) plan in
      ap (λ (l : List ℕ). l ++ pair_lines (pairs_bytes (pairs_answer card line (plan_bytes plan) 94).pairs)) (step_lines_lem plan)
      ∙ ap (λ (l : List ℕ). concat_map step_text plan ++ l)
      (ap (λ (l : List Pair). pair_lines (pairs_bytes l)) (pairs-in 94 (omega arith)) ∙ pair-lines pairs)

-- The code's count of pairs, none where Pairs refuses.
counted : (r : Result ℕ Refusal) → result_unwrap_or r 0 ≡ count_in r
counted (Ok count) = refl
counted (Err refusal) = refl

-- What Pairs leaves in its room of 94 bytes.
module _ {card line plan before after : List ℕ} {r : Result ℕ Refusal} {count : ℕ} (p : Pairs card line plan before after r)
    (l : length before ≡ 94) (c : count ≡ result_unwrap_or r 0) where
  abbrev pairs : List Pair
  pairs = (pairs_answer card line plan 94).pairs

  count-is : count ≡ length pairs
  count-is = c ∙ counted r ∙ p.count ∙ ap (λ (n : ℕ). length (pairs_answer card line plan n).pairs) l

  pub count-few : count ≤ 47
  count-few = omega (arith, count-is, (pairs-fit card line plan 94).count)

  pub pairs-taken : take (2 * count) after ≡ pairs_bytes pairs
  pairs-taken =
      ap (take (2 * count)) (p.room ∙ ap (λ (n : ℕ). pairs_after (pairs_answer card line plan n).pairs before) l)
      ∙ take_at (pairs_bytes pairs) (drop (2 * length pairs) before) (2 * count) (omega (arith, pairs-bytes-length pairs, count-is))

  pub pairs-length : 2 * count ≡ length (take (2 * count) after)
  pairs-length = omega (arith, count-is, pairs-bytes-length pairs, ap length pairs-taken)

-- Read's answer with the program's rooms.
module _ {card line old_chart old_plan new_chart new_plan : List ℕ} {r : Result Reading Refusal}
    (x : Reads card line old_chart old_plan new_chart new_plan r) (lc : length old_chart ≡ 64000) (lp : length old_plan ≡ 188) where
  answer-is : answer_from r ≡ line_answer card line
  answer-is =
      x.answer ∙ ap (λ (n : ℕ). read_answer card line n (length old_plan)) lc ∙ ap (λ (n : ℕ). read_answer card line 64000 n) lp

  number_is : read_number r ≡ (line_answer card line).number
  number_is = ap (λ (a : ReadAnswer). a.number) answer-is

-- A reading, whose plan has so many steps.
module _ {card line old_chart old_plan new_chart new_plan : List ℕ} {r : Reading} {steps : ℕ}
    (x : Reads card line old_chart old_plan new_chart new_plan (Ok r)) (s : r.steps ≡ Some steps) where
  is_read : read_number (Ok r) ≡ 0
  is_read = ap plan_number s

  steps-are : steps_in r.steps ≡ steps
  steps-are = ap steps_in s

  pub plan-length : 4 * steps ≡ length (take (4 * steps) new_plan)
  plan-length = rw (sym steps-are) (taken-length x is_read)

  module _ (lc : length old_chart ≡ 64000) (lp : length old_plan ≡ 188) where
    pub steps-few : steps ≤ 47
    steps-few = omega (arith, steps-are, ap (λ (a : ReadAnswer). a.steps) (answer-is x lc lp), (read_fits card line 64000 188).steps)

    shows-plan : LineText card line (read_line r.words r.items ++ plan_text card line (take (4 * steps) new_plan))
    shows-plan =
        let a = line_answer card line in
        let w = planned x is_read in
        subst (λ (b : Bool). TextIf b card line (read_line r.words r.items ++ plan_text card line (take (4 * steps) new_plan)))
        (sym (eq-eqb a.number 0 (sym (number_is x lc lp) ∙ is_read))) (
          w.plan,
          w.is_plan,
          ap (λ (a : ReadAnswer). read_line a.words a.items ++ plan_text card line (take (4 * steps) new_plan)) (answer-is x lc lp)
              ∙ ap (λ (l : List ℕ). read_line a.words a.items ++ l)
              (ap (λ (n : ℕ). plan_text card line (take (4 * n) new_plan)) (sym steps-are) ∙ ap (plan_text card line) (plan-taken x is_read)
              ∙ plan-text card line w.plan (read-accepted x is_read) w.is_plan.first.derives),
        )

    pub read_answer_lem : {old mid new : List ℕ} {at m after : ℕ} → Appends old at (read_line r.words r.items) mid m
        → Appends mid m (plan_text card line (take (4 * steps) new_plan)) new after → Answers card line old at new after
    read_answer_lem a b =
        record {
          text = read_line r.words r.items ++ plan_text card line (take (4 * steps) new_plan);
          shows = shows-plan;
          appends = appends-then a b;
        }
