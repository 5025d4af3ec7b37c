-- A line's text takes at most 32 bytes for each byte of the line and for its end. A refusal has 29. A reading of n words has 47 for its
-- counts, 12 for each of its 2n − 1 steps and 11 for each of its pairs, of which there are at most (n − 1) / 2: less than 64n; and a line of
-- n words has at least 2n − 1 bytes.
use Prim.Native.Nat.{ℕ, suc, ◌+◌, ◌*◌, ◌≤◌, ◌<◌}
use native.Mathlib.Omega.{arith}
use mathlib.Core.Path.{◌≡◌, refl, ap}
use mathlib.Core.Bool.{Bool, true, false}
use mathlib.Core.List.{List, [], ◌∷◌, ◌++◌}
use lib.Dec.{eqb}
use lib.ListN.{length, length-append}
use borrow.Author.Tests.{eqb-true}
use Rattle.grammar.specs.Lists.{concat_map, Stands, here, there}
use Rattle.grammar.specs.Rewriting.{Rule}
use Rattle.grammar.specs.Plan.{PlanStep, plan_step}
use Rattle.grammar.specs.Pairs.{Stretch, place_in, Pair, pair, pairs_of}
use Rattle.grammar.proofs.PlanBounds.{StepsWithin, no_step, one_step, yields_within}
use Rattle.grammar.proofs.PairsInside.{pairs-inside}
use Rattle.grammar.proofs.PairsCount.{pairs-half}
use Rattle.layout.specs.Card.{production_count, production, grammar_of}
use Rattle.layout.specs.Answers.{input_number, Derives}
use Rattle.layout.proofs.CountedLaws.{table-length}
use Rattle.layout.proofs.Accepting.{accepted-line, accepted-counts}
use Rattle.layout.proofs.CardLaws.{card-one-sided}
use Rattle.layout.proofs.Checking.{derives-length}
use Rattle.layout.proofs.Reading.{read_whole}
use Rattle.layout.proofs.WordsLength.{words-length}
use Rattle.lines_text.specs.Text.{read_line}
use Rattle.lines_text.proofs.Rows.{read_short, refused-short, step-two, pair-two}
use Rattle.lines.specs.Answer.{step_text, pair_text, line_answer, TextIf, LineText}

steps-length : {g : List Rule} {n : ℕ} {plan : List PlanStep} → length g < 100 → n < 100 → StepsWithin g n plan
    → length (concat_map step_text plan) ≤ 12 * length plan
steps-length few short no_step = omega arith
steps-length few short (one_step {p} {i} {k} {j} {plan} b y) =
    omega (
      arith,
      length-append (step_text (plan_step p i k j)) (concat_map step_text plan),
      step-two p i k j (omega (arith, b)) (omega (arith, b)) (omega (arith, b)) (omega (arith, b)),
      steps-length few short y,
    )

pairs-length : (pairs : List Pair)
    → ((m : ℕ) (given taken : Stretch) → Stands pairs m (pair given taken) → (place_in given < 100) × (place_in taken < 100))
    → length (concat_map pair_text pairs) ≤ 11 * length pairs
pairs-length [] h = omega arith
pairs-length (pair given taken ∷ pairs) h =
    let (a, b) = h 0 given taken here in
    omega (
      arith,
      length-append (pair_text (pair given taken)) (concat_map pair_text pairs),
      pair-two (place_in given) (place_in taken) a b,
      pairs-length pairs (λ m x y s. h (suc m) x y (there s)),
    )

rules-count : (card : List ℕ) → length (grammar_of card) ≡ production_count card
rules-count card = table-length (production card) 0 (production_count card)

-- A reading, with the counts w and c of words and items.
reading-length : (card line : List ℕ) (plan : List PlanStep) (w c : ℕ) → input_number card line ≡ 0 → Derives card line plan
    → length (read_line w c ++ (concat_map step_text plan ++ concat_map pair_text (pairs_of (grammar_of card) plan))) ≤ 32 * (length line + 1)
reading-length card line plan w c e d =
    let pairs = pairs_of (grammar_of card) plan in
    let steps = concat_map step_text plan in
    let a = accepted-line card line e in
    let most = a.most_words in
    let few : length (grammar_of card) < 100 = omega (arith, (accepted-counts card a.card_accepted).few_productions, rules-count card) in
    omega (
      arith,
      length-append (read_line w c) (steps ++ concat_map pair_text pairs),
      length-append steps (concat_map pair_text pairs),
      read_short w c,
      steps-length few (omega arith) (yields_within d),
      pairs-length pairs (λ m given taken s. let (x, y) = pairs-inside d s in (omega arith, omega arith)),
      derives-length card line d,
      pairs-half (card-one-sided card) d,
      words-length line,
      a.some_words,
    )

pub text-length : (card line text : List ℕ) → LineText card line text → length text ≤ 32 * (length line + 1)
text-length card line text t = by_number (eqb (line_answer card line).number 0) refl t
  where
    by_number : (b : Bool) → eqb (line_answer card line).number 0 ≡ b → TextIf b card line text → length text ≤ 32 * (length line + 1)
    by_number true e (plan, is_plan, is) =
        let a = line_answer card line in
        omega (
          arith,
          ap length is,
          reading-length card line plan a.words a.items (read_whole card line 64000 188 (eqb-true a.number 0 e)).0
              is_plan.first.derives,
        )
    by_number false e is = omega (arith, ap length is, refused-short (line_answer card line).number)
