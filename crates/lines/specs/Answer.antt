-- What the program prints for a line and for lines. Free, and named so: which leftmost derivation of a line that is read.
use Rattle.std.specs.Prelude.{ℕ, ◌+◌, ◌*◌, ◌≡◌, ◌≤◌, Bool, true, false, List, [], ◌∷◌, ◌++◌, eqb, length, take}
use Rattle.std.specs.declared.option.Option.{Option}
use Rattle.std.specs.Io.KnownBytes.{Appends as AppendsKnown}
use Rattle.grammar.specs.Lists.{concat_map}
use Rattle.grammar.specs.Plan.{PlanStep, plan_step}
use Rattle.grammar.specs.Pairs.{place_in, Pair, pair, pairs_of}
use Rattle.layout.specs.Card.{grammar_of}
use Rattle.layout.specs.Steps.{pairs_bytes}
use Rattle.layout.specs.Answers.{ReadAnswer, read_answer, pairs_answer, PlanFor}
use Rattle.split.specs.Lines.{lines_of}
use Rattle.lines_text.specs.Text.{read_line, refused_line, step_line, step_lines, pair_line, pair_lines, Appends}
use Rattle.lines.specs.declared.Printed.{Printed}

-- Read's answer with room for 4,000 items and for the steps of 24 words.
abbrev pub line_answer : List ℕ → List ℕ → ReadAnswer
line_answer card line = read_answer card line 64000 188

-- A line for each step, and for each pair.
abbrev pub step_text : PlanStep → List ℕ
step_text (plan_step p i k j) = step_line p i k j

abbrev pub pair_text : Pair → List ℕ
pair_text (pair given taken) = pair_line (place_in given) (place_in taken)

-- A line that is read: words and items, the steps of its plan, its pairs. A refused line: the number.
abbrev pub TextIf : Bool → List ℕ → List ℕ → List ℕ → Type 0
TextIf true card line text =
    (plan : List PlanStep) × PlanFor card line plan
    × (text ≡ read_line (line_answer card line).words (line_answer card line).items
    ++ (concat_map step_text plan ++ concat_map pair_text (pairs_of (grammar_of card) plan)))
TextIf false card line text = text ≡ refused_line (line_answer card line).number

abbrev pub LineText : List ℕ → List ℕ → List ℕ → Type 0
LineText card line text = TextIf (eqb (line_answer card line).number 0) card line text

-- The texts of several lines, one after the other.
pub data Texts (card : List ℕ) : List (List ℕ) → List ℕ → Type 0 where
  none : Texts card [] []
  more : {line : List ℕ} {lines : List (List ℕ)} (text : List ℕ) {rest : List ℕ}
      → LineText card line text → Texts card lines rest → Texts card (line ∷ lines) (text ++ rest)

-- The text of a plan's bytes: its steps, and then what Pairs answers for them.
abbrev pub plan_text : List ℕ → List ℕ → List ℕ → List ℕ
plan_text card line plan = step_lines plan ++ pair_lines (pairs_bytes (pairs_answer card line plan 94).pairs)

-- The bytes of a buffer in use have grown by the text of a line.
pub record Answers (card line old : List ℕ) (at : ℕ) (new : List ℕ) (after : ℕ) : Type 0 where
  pub text : List ℕ
  pub shows : LineText card line text
  pub appends : Appends old at text new after

-- Room for the text of so many bytes of input: no line's text takes more than 32 bytes for each byte of the line and for its end, and
-- what a line takes while it is written is less than 8192.
abbrev pub text_room : ℕ → ℕ
text_room bytes = 32 * (bytes + 1) + 8192

-- A room's first n bytes: there are so many.
abbrev pub IsPrefixLen : ℕ → List ℕ → Type 0
IsPrefixLen n xs = (n ≤ length xs) × (n ≡ length (take n xs))

-- Every line of the input was answered, in order: the buffer's first r bytes are their texts.
pub record AnswersAll (card input new : List ℕ) (r : ℕ) : Type 0 where
  pub texts : Texts card (lines_of input) (take r new)
  pub counts : IsPrefixLen r new

-- The rooms of card and input: at most 4,096 bytes of the file are loaded, and the first 60,000 of standard input are the whole of it.
abbrev pub most_card : ℕ
most_card = 4096

abbrev pub most_input : ℕ
most_input = 60000

-- What a run handed to its one write, with the three rooms as it left them: the text of every line of the input that was taken in, in
-- order, under the card that was taken in.
pub record Prints (card input text : List ℕ) (r : Printed) : Type 0 where
  pub card_taken : IsPrefixLen r.card card
  pub input_taken : IsPrefixLen r.input input
  pub text_taken : IsPrefixLen r.text text
  pub text_handed : Texts (take r.card card) (lines_of (take r.input input)) (take r.text text)

-- What a writer is known to have, before and after it was handed a text of which it took so many bytes.
pub record Handed (old new : Option (List ℕ)) (text : List ℕ) (written : ℕ) : Type 0 where
  pub within : written ≤ length text
  pub grown : AppendsKnown old new (take written text)
