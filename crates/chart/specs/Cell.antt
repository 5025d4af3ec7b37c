-- One cell: what its functions ask, and the records that they may add.
use Rattle.std.specs.Prelude.{ℕ, zero, suc, ◌+◌, ◌-◌, ◌/◌, ◌≤◌, ◌<◌, ◌≡◌, Bool, false, cond, ◌&&◌, eqb, length, get_or}
use Rattle.std.specs.Prelude.{Option as Answer, Some, None}
use mathlib.Core.List.{List, [], Memᴰ}
use Rattle.std.proofs.Math.Option.{some}
use Rattle.std.proofs.Math.ListN.{get_elem?}
use Rattle.grammar.specs.Rewriting.{Rule, Lexical, Spine}
use Rattle.grammar.specs.ItemList.{is_bare}
use Rattle.grammar.specs.Chart.{Record, item_of}
use Rattle.layout.specs.Card.{nonterminal_count, production, production_count, grammar_of}
use Rattle.places.specs.Places.{word_test}
use Rattle.chart_model.specs.Build.{across_splits, by_rule_over, by_production, candidates}
use Rattle.bits.specs.Bits.{bit_of, holds_bit}
use Rattle.records.specs.Room.{chart_in, foot_there, number_there}
use Rattle.records.specs.Cover.{HasItem}
use Rattle.records.specs.Filling.{begun_with}
use Rattle.records.specs.declared.record.OpenCell.{OpenCell}
use Rattle.records.specs.declared.cells.Range.{Range}
use Rattle.sets.specs.Places.{spans_at}
use Rattle.sets.specs.Spans.{Splits}

-- The candidates of production p at all splits of the open cell; in the cell, of whatever length; and those of all productions. b is the
-- chart when the cell was begun.
abbrev pub splits_add : List ℕ → OpenCell → ℕ → List Record → List Record
splits_add card cell p b = across_splits b cell.left cell.from cell.to p (production card p)

abbrev pub rule_adds : List ℕ → List ℕ → OpenCell → ℕ → List Record → List Record
rule_adds card places cell p b =
    by_rule_over (word_test places) b cell.left cell.from (cell.to - cell.from) p (production card p)

abbrev pub cell_adds : List ℕ → List ℕ → OpenCell → List Record → List Record
cell_adds card places cell b = candidates (grammar_of card) (word_test places) b cell.left cell.from (cell.to - cell.from)

-- A card whose nonterminals the open cell counts, and what meets at the splits of its span.
pub record CellGiven (card sets : List ℕ) (cell : OpenCell) (chart : List ℕ) : Type 0 where
  pub names : cell.symbols ≡ nonterminal_count card
  pub long : spans_at ≤ length sets
  pub splits : Splits (grammar_of card) (begun_with cell chart) cell.from cell.to sets

-- One production, after all before it: every candidate of theirs has its item among the records.
pub record Turn (card : List ℕ) (cell : OpenCell) (chart : List ℕ) (count p : ℕ) : Type 0 where
  pub counted : p < production_count card
  pub past : (q : ℕ) (e : Record) → q < p → Memᴰ e (splits_add card cell q (begun_with cell chart))
      → HasItem (chart_in chart count) (item_of e)

-- A production that is not in the set adds nothing to a cell; and the set has no bit past the last production.
pub record CellSet (g : List Rule) (at : ℕ → ℕ → Bool) (b : List Record) (A i len set : ℕ) : Type 0 where
  pub idle : (p : ℕ) (r : Rule) → get_elem? g p ≡ some r → bit_of p set ≡ 0 → by_rule_over at b A i len p r ≡ []
  pub no_more : (p : ℕ) → length g ≤ p → bit_of p set ≡ 0

abbrev pub SetFor : List ℕ → List ℕ → OpenCell → List ℕ → ℕ → Type 0
SetFor card places cell chart set =
    CellSet (grammar_of card) (word_test places) (begun_with cell chart) cell.left cell.from (cell.to - cell.from) set

-- The records of production p in a cell, if the set has it.
abbrev pub chosen : ℕ → List Rule → (ℕ → ℕ → Bool) → List Record → ℕ → ℕ → ℕ → ℕ → List Record
chosen set g at b A i len p = cond (holds_bit p set) (by_production g at b A i len p) []

-- One of a set of words, at whatever place; and whether a rule is a word production of A for one of them.
abbrev pub one_of : ℕ → ℕ → ℕ → Bool
one_of words i w = holds_bit w words

abbrev pub is_word_of : ℕ → ℕ → Rule → Bool
is_word_of A words (Lexical A' w) = eqb A' A && holds_bit w words
is_word_of A words (Spine A' a before D after) = false

-- A cell is finished: no mark is left of its records from base on, other marks are as they were, and its range is known.
abbrev pub bare_from : List ℕ → ℕ → ℕ → Answer ℕ
bare_from chart base zero = None
bare_from chart base (suc m) = cond (is_bare (foot_there chart (base + m))) (Some (base + m)) (bare_from chart base m)

pub record Finished (chart : List ℕ) (base count : ℕ) (old new : List ℕ) (r : Range) : Type 0 where
  pub same_length : length new ≡ length old
  pub range : r ≡ record { from = base; to = count; bare = bare_from chart base (count - base) }
  pub cleared : (m : ℕ) → base ≤ m → m < count → get_or new (number_there chart m / 8) 0 ≡ 0
  pub shrunk : (s : ℕ) → get_or old s 0 ≡ 0 → get_or new s 0 ≡ 0
  pub others : (s : ℕ) → ((m : ℕ) → base ≤ m → m < count → number_there chart m / 8 ≡ s → ⊥) → get_or new s 0 ≡ get_or old s 0
