-- What holds between two cells, and what filling cells promises.
use Rattle.std.specs.Prelude.{ℕ, ◌+◌, ◌-◌, ◌*◌, ◌≤◌, ◌<◌, ◌≡◌, false, List, [], ◌++◌, length, take, drop, get_or}
use Rattle.std.specs.Prelude.{Option as Answer, Some, None, IfSome}
use Rattle.std.proofs.Math.Option.{Option, none, some}
use Rattle.grammar.specs.Rewriting.{Rule}
use Rattle.grammar.specs.Items.{Foot}
use Rattle.grammar.specs.Chart.{Record}
use Rattle.layout.specs.Card.{max_nonterminals, nonterminal_count, grammar_of}
use Rattle.layout.specs.Line.{most_words}
use Rattle.places.specs.Places.{word_test}
use Rattle.chart_model.specs.Build.{places as positions, fill_cell}
use Rattle.records.specs.Room.{chart_in, FootFits, FeetFit, numbered_chart, mark_of}
use Rattle.records.specs.Cells.{spans, cell_at, SpanFits, Indexed}
use Rattle.records.specs.Cover.{Covered}
use Rattle.records.specs.Filling.{begun_with}
use Rattle.records.specs.declared.record.OpenCell.{OpenCell}
use Rattle.records.specs.declared.span.Span.{Span}
use Rattle.sets.specs.Classes.{Classified, OfWords}
use Rattle.sets.specs.Spans.{Sorted, Met, Meets}
use Rattle.chart.specs.declared.build.Sizes.{Sizes}
use Rattle.chart.specs.Cell.{CellGiven, SetFor}

-- Between two cells: the room and the tables agree, and no foot is marked.
pub record Between (g : List Rule) (n N room : ℕ) (chart marks cells sets : List ℕ) (count : ℕ) : Type 0 where
  pub words_fit : n ≤ most_words
  pub symbols_fit : N ≤ max_nonterminals
  pub room_small : room ≤ 65535
  pub room_there : 16 * room ≤ length chart
  pub marks_there : spans n * N < length marks
  pub count_fits : count ≤ room
  pub exact : take (16 * count) chart ≡ numbered_chart n N (chart_in chart count)
  pub feet : FeetFit n N (chart_in chart count)
  pub clear : (φ : Foot) → FootFits n N φ → mark_of n N marks φ ≡ false
  pub indexed : Indexed n N (chart_in chart count) cells
  pub covered : Covered n N (chart_in chart count) cells
  pub classified : Classified g sets
  pub sorted : Sorted g n (chart_in chart count) sets

-- The records in a room by what the code answers: how many they are, or that an item did not fit.
abbrev pub held : List ℕ → Answer ℕ → Option (List Record)
held room None = none
held room (Some count) = some (chart_in room count)

-- Cells were filled: the room holds what the model has, the bytes past it are as they were, and the tables agree again.
pub record Filled (g : List Rule) (n N room : ℕ) (s : Option (List Record)) (old new marks cells sets : List ℕ) (after : Answer ℕ)
    : Type 0 where
  pub same_room : length new ≡ length old
  pub model : held new after ≡ s
  pub rest : IfSome after (λ count. drop (16 * count) new ≡ drop (16 * count) old)
  pub ready : IfSome after (λ count. Between g n N room new marks cells sets count)

-- The same for a line and a card of such sizes.
pub record Ready (card : List ℕ) (sizes : Sizes) (chart marks cells sets : List ℕ) (count : ℕ) : Type 0 where
  pub names : sizes.symbols ≡ nonterminal_count card
  pub between : Between (grammar_of card) sizes.words sizes.symbols sizes.room chart marks cells sets count

abbrev pub FilledTo : List ℕ → Sizes → Option (List Record) → List ℕ → List ℕ → List ℕ → List ℕ → List ℕ → Answer ℕ → Type 0
FilledTo card sizes s old new marks cells sets after =
    Filled (grammar_of card) sizes.words sizes.symbols sizes.room s old new marks cells sets after

-- A cell is opened: the struct says which, and that it was begun with the records that stand.
pub record OpenedAt (sizes : Sizes) (A : ℕ) (span : Span) (begun : ℕ) (cell : OpenCell) : Type 0 where
  pub words : cell.words ≡ sizes.words
  pub symbols : cell.symbols ≡ sizes.symbols
  pub room : cell.room ≡ sizes.room
  pub base : cell.base ≡ begun
  pub left : cell.left ≡ A
  pub from : cell.from ≡ span.from
  pub to : cell.to ≡ span.to
  pub number : cell.number ≡ cell_at sizes.symbols A span.from span.to

-- A cell that is to be filled: between two cells, with no records of its own yet, and a set that has every production that can add to it.
pub record Fillable (card places : List ℕ) (cell : OpenCell) (chart marks cells sets : List ℕ) (set : ℕ) : Type 0 where
  pub between : Between (grammar_of card) cell.words cell.symbols cell.room chart marks cells sets cell.base
  pub inside : SpanFits cell.words cell.symbols cell.left cell.from cell.to
  pub numbered : cell.number ≡ cell_at cell.symbols cell.left cell.from cell.to
  pub fresh : positions (begun_with cell chart) cell.left cell.from cell.to ≡ []
  pub given : CellGiven card sets cell chart
  pub set_for : SetFor card places cell chart set

abbrev pub filled_cell : List ℕ → List ℕ → OpenCell → List ℕ → Option (List Record)
filled_cell card places cell chart =
    fill_cell cell.room (grammar_of card) (word_test places) (cell.to - cell.from) cell.from cell.left (some (begun_with cell chart))

-- What is found for a span: the productions for the words of its one place, or what meets at its splits.
pub record SpanSet (places : List ℕ) (i j : ℕ) (sets : List ℕ) (set : ℕ) : Type 0 where
  pub of_words : j ≡ i + 1 → OfWords sets (get_or places i 0) set
  pub of_splits : Meets sets i j set
  pub met : Met sets i j

-- All spans are closed: the room holds the model's chart, its records with the numbers of their feet, and then what was there; or an
-- item did not fit.
pub record Closed (n N room : ℕ) (s : Option (List Record)) (old new : List ℕ) (after : Answer ℕ) : Type 0 where
  pub same_room : length new ≡ length old
  pub model : held new after ≡ s
  pub charted : IfSome after (λ count. (count ≤ room) × (new ≡ numbered_chart n N (chart_in new count) ++ drop (16 * count) old))
