-- Where each set stands in the table of sets of productions.
use Rattle.std.specs.Prelude.{ℕ, ◌+◌, ◌*◌, ◌≤◌, ◌≡◌, ◌⊎◌, List, length, get_or}
use Rattle.layout.specs.Card.{max_nonterminals, max_words}
use Rattle.layout.specs.Line.{most_words}
use Rattle.records.specs.Cells.{spans, span_at}

-- By the card alone: for each nonterminal A the productions of A, at A; those whose first element is a side A, or a dependent A; those whose
-- second is; and then the word productions of each word.
abbrev pub first_side_at : ℕ → ℕ
first_side_at A = max_nonterminals + A

abbrev pub first_dependent_at : ℕ → ℕ
first_dependent_at A = 2 * max_nonterminals + A

abbrev pub second_side_at : ℕ → ℕ
second_side_at A = 3 * max_nonterminals + A

abbrev pub second_dependent_at : ℕ → ℕ
second_dependent_at A = 4 * max_nonterminals + A

abbrev pub word_at : ℕ → ℕ
word_at w = 5 * max_nonterminals + w

abbrev pub class_count : ℕ
class_count = 5 * max_nonterminals + max_words

-- Of the span in hand: for each bound of the line's words, at which a span starts, is split or ends, the productions that have both elements
-- there; and the set of splits where some have.
abbrev pub bounds : ℕ
bounds = most_words + 1

abbrev pub meeting_at : ℕ → ℕ
meeting_at k = class_count + k

abbrev pub splits_at : ℕ
splits_at = class_count + bounds

-- Of every span: the productions whose first element is there, and those whose second is. Then two sets of bounds for each bound: the row of
-- i has the end of every span from i whose first set is not empty, and the column of j the start of every span to j whose second set is not.
abbrev pub spans_at : ℕ
spans_at = class_count + bounds + 1

abbrev pub first_at : ℕ → ℕ → ℕ
first_at i k = spans_at + 2 * span_at i k

abbrev pub second_at : ℕ → ℕ → ℕ
second_at k j = spans_at + (2 * span_at k j + 1)

abbrev pub row_at : ℕ → ℕ → ℕ
row_at n i = spans_at + (2 * spans n + 2 * i)

abbrev pub column_at : ℕ → ℕ → ℕ
column_at n j = spans_at + (2 * spans n + 2 * j + 1)

-- The sets of n words.
abbrev pub set_count : ℕ → ℕ
set_count n = spans_at + (2 * spans n + 2 * (n + 1))

-- Two tables that differ in one part at most: in the sets by the card; in those of the span in hand; in those of the spans.
abbrev pub OnlyClasses : List ℕ → List ℕ → Type 0
OnlyClasses old new = (length new ≡ length old) × ((s : ℕ) → class_count ≤ s → get_or new s 0 ≡ get_or old s 0)

abbrev pub OnlyMeeting : List ℕ → List ℕ → Type 0
OnlyMeeting old new = (length new ≡ length old) × ((s : ℕ) → (s + 1 ≤ class_count) ⊎ (spans_at ≤ s) → get_or new s 0 ≡ get_or old s 0)

abbrev pub OnlySpans : List ℕ → List ℕ → Type 0
OnlySpans old new = (length new ≡ length old) × ((s : ℕ) → s + 1 ≤ spans_at → get_or new s 0 ≡ get_or old s 0)
