-- Worked examples, computed from the bytes: sheets of document 01's tomato lines, and of rows with a number, and the answers that document 02
-- gives for them.
use Prim.Native.Nat.{ℕ}
use mathlib.Core.Path.{◌≡◌, refl}
use mathlib.Core.List.{List, [], ◌∷◌, ◌++◌}
use mathlib.Core.Option.{Option, none, some}
use lib.ListN.{replicate}
use Rattle.grammar.specs.Plan.{PlanStep}
use Rattle.layout.specs.Card.{header_length}
use Rattle.layout.specs.Steps.{steps_of}
use Rattle.layout.specs.Tomato.{tomato_card, coir_takes_mild, coir_wool_takes_mild_rich, coir_wool_takes_rich_mild, plan_one, plan_two}
use Rattle.layout.specs.Rows.{rows_card, coir14_takes_mild, coir14_takes_extra_mild, plan_numbered, plan_both}
use Rattle.split.specs.Lines.{newline}
use Rattle.sheet.specs.Sheet.{SheetAnswer, refused_at, sheet_answer, sheet_bytes, pack_sheet}

-- A line and its end.
abbrev ended : List ℕ → List ℕ
ended line = line ++ (newline ∷ [])

abbrev steps : Option (List PlanStep) → List PlanStep
steps none = []
steps (some plan) = plan

-- With the plans of the two lines that have pairs.
abbrev answered : List ℕ → ℕ → SheetAnswer
answered sheet room = sheet_answer tomato_card sheet 64000 room (steps (steps_of plan_one) ∷ steps (steps_of plan_two) ∷ [])

abbrev two_orders : List ℕ
two_orders = ended coir_takes_mild ++ coir_wool_takes_mild_rich

-- The same under the card of rows with a number.
abbrev numbered : List ℕ → ℕ → SheetAnswer
numbered sheet room = sheet_answer rows_card sheet 64000 room (steps (steps_of plan_numbered) ∷ steps (steps_of plan_both) ∷ [])

record Examples : Type 0 where
  -- two orders: three records of three bytes, with room for them and one byte short
  written : sheet_bytes (answered two_orders 9).records ≡ 0 ∷ 0 ∷ 2 ∷ 1 ∷ 0 ∷ 3 ∷ 1 ∷ 1 ∷ 4 ∷ []
  accepted : (answered two_orders 9).number ≡ 0
  short : answered two_orders 8 ≡ refused_at 33 0
  -- "coir 14 takes mild", "coir 14 takes extra mild": a record has the last word of each side
  rows : sheet_bytes (numbered (ended coir14_takes_mild ++ coir14_takes_extra_mild) 6).records ≡ 0 ∷ 1 ∷ 3 ∷ 1 ∷ 1 ∷ 4 ∷ []
  -- the last line with its end is the same sheet
  same : answered (ended two_orders) 9 ≡ answered two_orders 9
  -- an empty line in the middle; a line without a reading after one that is read, before one that would fail too; 33 comes after it
  empty : answered (ended (ended coir_takes_mild) ++ coir_takes_mild) 9 ≡ refused_at 21 1
  unread : answered (ended coir_takes_mild ++ (ended coir_wool_takes_rich_mild ++ ended [])) 0 ≡ refused_at 25 1
  -- no bytes, one line end, 64 and 65 of them, and a card of no bytes
  no_bytes : sheet_answer tomato_card [] 0 0 [] ≡ record { number = 0; line = 0; records = [] }
  one_end : answered (newline ∷ []) 0 ≡ refused_at 21 0
  most : answered (replicate 64 newline) 0 ≡ refused_at 21 0
  too_many : answered (replicate 65 newline) 0 ≡ refused_at 41 0
  no_card : sheet_answer [] (replicate 65 newline) 0 0 [] ≡ refused_at 11 0
  -- 704 records, at line 0
  packed : pack_sheet 0 0 704 ≡ 11811160064

examples : Examples
unfolding header_length
examples =
    record {
      written = refl;
      accepted = refl;
      short = refl;
      rows = refl;
      same = refl;
      empty = refl;
      unread = refl;
      no_bytes = refl;
      one_end = refl;
      most = refl;
      too_many = refl;
      no_card = refl;
      packed = refl;
    }
