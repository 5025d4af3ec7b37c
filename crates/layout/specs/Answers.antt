-- Document 01, "Refusals by who can cause them" and the answers of the five calls: each a function of the inputs alone, the order of
-- refusals in one place, and what every lent room holds afterwards. Free, and named so: which chart, in what order of its items and
-- with which recorded steps. Nothing of the plan is free (document 02, Paper 5).
use Rattle.std.specs.Prelude.{ℕ, ◌+◌, ◌*◌, ◌^◌, ◌≤◌, ◌≡◌, Bool, true, false, cond, ◌||◌, List, [], ◌∷◌, ◌++◌, eqb, ltb, length, drop, replicate}
use Rattle.std.proofs.Math.Option.{Option, none, some}
use Rattle.grammar.specs.Rewriting.{Derivation}
use Rattle.grammar.specs.Input.{Holds}
use Rattle.grammar.specs.Items.{bare}
use Rattle.grammar.specs.ItemList.{Item, item, items, among}
use Rattle.grammar.specs.Plan.{PlanStep, LeftmostDerivation, passes}
use Rattle.grammar.specs.FirstPlan.{FirstPlan}
use Rattle.grammar.specs.Pairs.{Pair, pairs_of}
use Rattle.grammar.specs.Chart.{Record, IsChart}
use Rattle.layout.specs.Refusals.{Refusal, unless, first_refusal}
use Rattle.layout.specs.Card.{grammar_of, card_refusals, word_count, entry_at, spelling, spelling_length}
use Rattle.layout.specs.Line.{words_of, spelled_at, Spelled, line_refusals}
use Rattle.layout.specs.Records.{chart_bytes, record_length, capacity}
use Rattle.layout.specs.Steps.{plan_bytes, steps_of, plan_steps, plan_room, pairs_bytes}

-- Card refusals come before the line's.
abbrev pub input_refusals : List ℕ → List ℕ → List Refusal
input_refusals card line = card_refusals card ++ line_refusals card line

abbrev pub input_number : List ℕ → List ℕ → ℕ
input_number card line = first_refusal (input_refusals card line)

-- An accepted line as the theory reads it: how many words, which numbers at which place, and the derivable items.
abbrev pub words_in : List ℕ → ℕ
words_in line = length (words_of line)

abbrev pub line_test : List ℕ → List ℕ → ℕ → ℕ → Bool
line_test card line = spelled_at card (words_of line)

abbrev pub derivable : List ℕ → List ℕ → List Item
derivable card line = items (grammar_of card) (line_test card line) (words_in line)

-- Read.
pub record ReadAnswer : Type 0 where
  pub number : ℕ
  pub words : ℕ
  pub items : ℕ
  pub steps : ℕ

abbrev pub refusal : ℕ → ReadAnswer
refusal number = record { number = number; words = 0; items = 0; steps = 0 }

-- Is the item of the start over the whole line derivable? Then the line is read, and else there is no reading.
abbrev pub found : Bool → ℕ → ℕ → ReadAnswer
found true n count = record { number = 0; words = n; items = count; steps = plan_steps n }
found false n count = record { number = 25; words = n; items = count; steps = 0 }

-- With every item at hand: 31 where they outnumber what the room holds, and only then what was found.
abbrev pub outnumber : List Item → ℕ → Bool
outnumber all chart_room = ltb (capacity chart_room) (length all)

abbrev pub chart_answer : ℕ → ℕ → List Item → ReadAnswer
chart_answer n chart_room all =
    cond (outnumber all chart_room) (refusal 31) (found (among (item 0 0 n bare) all) n (length all))

abbrev pub read_answer : List ℕ → List ℕ → ℕ → ℕ → ReadAnswer
read_answer card line chart_room room =
    cond (eqb (input_number card line) 0)
    (cond (ltb room (plan_room (words_in line))) (refusal 32)
    (chart_answer (words_in line) chart_room (derivable card line)))
    (refusal (input_number card line))

-- Room enough: the condition of neither 31 nor 32 holds.
pub record RoomEnough (card line : List ℕ) (chart_room room : ℕ) : Type 0 where
  pub plan_fits : plan_room (words_in line) ≤ room
  pub chart_fits : length (derivable card line) ≤ capacity chart_room

-- Is the item of the start over the whole line derivable?
abbrev pub start_found : List ℕ → List ℕ → Bool
start_found card line = among (item 0 0 (words_in line) bare) (derivable card line)

-- The steps are a leftmost derivation of the line under the card.
abbrev pub Derives : List ℕ → List ℕ → List PlanStep → Type 0
Derives card line plan = LeftmostDerivation (grammar_of card) (Holds (line_test card line)) (words_in line) plan

-- Document 02, Paper 2: the line has a derivation under the card, which ends in a list of words whose spellings are the line's.
pub record HasDerivation (card line : List ℕ) : Type 0 where
  pub words : List ℕ
  pub spelled : Spelled card words (words_of line)
  pub derivation : Derivation (grammar_of card) words

-- The chart room after Read: the whole chart with 0 and 25, zeros with 31, and untouched with any other number.
pub data ChartState : Type 0 where
  whole : ChartState
  zeroed : ChartState
  untouched : ChartState

abbrev pub chart_state : ℕ → ChartState
chart_state number = cond (eqb number 0 || eqb number 25) whole (cond (eqb number 31) zeroed untouched)

-- For any test of the words at their places; which chart is free.
abbrev pub ChartRoom : List ℕ → (ℕ → ℕ → Bool) → ChartState → List ℕ → List ℕ → Type 0
ChartRoom card at whole before after =
    (c : List Record) × IsChart (grammar_of card) (Holds at) c × (after ≡ chart_bytes c ++ drop (record_length * length c) before)
ChartRoom card at zeroed before after = after ≡ replicate (length before) 0
ChartRoom card at untouched before after = after ≡ before

abbrev pub ChartAfter : List ℕ → List ℕ → ChartState → List ℕ → List ℕ → Type 0
ChartAfter card line state before after = ChartRoom card (line_test card line) state before after

-- Check.
abbrev pub plan_passes : List ℕ → List ℕ → Option (List PlanStep) → Bool
plan_passes card line none = false
plan_passes card line (some plan) = passes (grammar_of card) (line_test card line) (words_in line) plan

abbrev pub check_number : List ℕ → List ℕ → List ℕ → ℕ
check_number card line plan = first_refusal (input_refusals card line ++ (unless (plan_passes card line (steps_of plan)) 34 ∷ []))

-- The plan of the line: the first of all leftmost derivations of it, of 2n − 1 steps, which passes Check under the same card and line.
-- proofs/Planning.antt: a line has no two, and has one where it has a derivation.
pub record PlanFor (card line : List ℕ) (plan : List PlanStep) : Type 0 where
  pub first : FirstPlan (grammar_of card) (Holds (line_test card line)) (words_in line) plan
  pub steps : length plan ≡ plan_steps (words_in line)
  pub passes : check_number card line (plan_bytes plan) ≡ 0

-- The plan room after Read. Where the line was read: its plan, and past it what was there. Otherwise the room is untouched.
pub record PlanWritten (card line before after : List ℕ) : Type 0 where
  pub plan : List PlanStep
  pub is_plan : PlanFor card line plan
  pub written : after ≡ plan_bytes plan ++ drop (4 * length plan) before

abbrev pub PlanAfter : List ℕ → List ℕ → Bool → List ℕ → List ℕ → Type 0
PlanAfter card line true before after = PlanWritten card line before after
PlanAfter card line false before after = after ≡ before

-- Pairs: the pairs of a plan that passes, and 33 where the room is too short for them.
pub record PairsAnswer : Type 0 where
  pub number : ℕ
  pub pairs : List Pair

abbrev pub plan_pairs : List ℕ → Option (List PlanStep) → List Pair
plan_pairs card none = []
plan_pairs card (some plan) = pairs_of (grammar_of card) plan

abbrev pub pairs_within : List Pair → ℕ → PairsAnswer
pairs_within pairs room =
    cond (ltb room (2 * length pairs)) (record { number = 33; pairs = [] }) (record { number = 0; pairs = pairs })

abbrev pub pairs_answer : List ℕ → List ℕ → List ℕ → ℕ → PairsAnswer
pairs_answer card line plan room =
    cond (eqb (check_number card line plan) 0) (pairs_within (plan_pairs card (steps_of plan)) room)
    (record { number = check_number card line plan; pairs = [] })

-- The pair room afterwards: the pairs, and then what was there.
abbrev pub pairs_after : List Pair → List ℕ → List ℕ
pairs_after pairs before = pairs_bytes pairs ++ drop (2 * length pairs) before

-- Name: the place and length of the spelling in the card, both 0 on a refusal; and the spelling, empty on a refusal.
pub record NameAnswer : Type 0 where
  pub number : ℕ
  pub offset : ℕ
  pub size : ℕ

abbrev pub name_number : List ℕ → ℕ → ℕ
name_number card word = first_refusal (card_refusals card ++ (unless (ltb word (word_count card)) 35 ∷ []))

abbrev pub name_answer : List ℕ → ℕ → NameAnswer
name_answer card word =
    cond (eqb (name_number card word) 0)
    (record { number = 0; offset = entry_at card word + 1; size = spelling_length card word })
    (record { number = name_number card word; offset = 0; size = 0 })

abbrev pub name_part : List ℕ → ℕ → List ℕ
name_part card word = cond (eqb (name_number card word) 0) (spelling card word) []

-- Several answers as one 64-bit number, 16 bits each from the low end.
abbrev pub pack : ℕ → ℕ → ℕ → ℕ → ℕ
pack a b c d = a + b * 2 ^ 16 + c * 2 ^ 32 + d * 2 ^ 48

abbrev pub read_packed : ReadAnswer → ℕ
read_packed r = pack r.number r.words r.items r.steps

abbrev pub pairs_packed : PairsAnswer → ℕ
pairs_packed r = pack r.number (length r.pairs) 0 0

abbrev pub name_packed : NameAnswer → ℕ
name_packed r = pack r.number r.offset r.size 0
