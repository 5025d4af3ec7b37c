-- Document 01, "The card", and the nursery's refusals 11 to 14 and 16 in "Refusals by who can cause them"; document 02, Paper 4, adds 42.
-- (15 no longer occurs: document 02, Paper 2, lets entries be spelled alike.)
use Rattle.std.specs.Prelude.{ℕ, ◌+◌, ◌*◌, Bool, cond, ◌&&◌, List, [], ◌∷◌, map, eqb, leb, ltb, length, take, drop}
use Rattle.grammar.specs.Rewriting.{Rule, Lexical, Spine, Take, Keep, Give}
use Rattle.grammar.specs.Names.{no_dead_name}
use Rattle.layout.specs.Bytes.{byte_at, number16_at, is_letter, same_bytes, all_bytes, all_below, counted}
use Rattle.layout.specs.Refusals.{Refusal, unless, first_refusal}

-- The limits of the four counts.
abbrev pub max_nonterminals : ℕ
max_nonterminals = 16

abbrev pub max_words : ℕ
max_words = 32

abbrev pub max_indices : ℕ
max_indices = 8

abbrev pub max_productions : ℕ
max_productions = 64

-- The header: the mark "LIG1", four counts, two offsets. So many bytes every header has.
abbrev pub mark : List ℕ
mark = 0x4C ∷ 0x49 ∷ 0x47 ∷ 0x31 ∷ []

abbrev pub least_header : ℕ
least_header = 12

-- And no header has more than so many.
abbrev pub most_header : ℕ
most_header = 16

abbrev pub nonterminal_count : List ℕ → ℕ
nonterminal_count card = byte_at card 4

abbrev pub word_count : List ℕ → ℕ
word_count card = byte_at card 5

abbrev pub index_count : List ℕ → ℕ
index_count card = byte_at card 6

abbrev pub production_count : List ℕ → ℕ
production_count card = byte_at card 7

-- Where things stand on a card: everything goes by the length of its header. Proofs know of that length only what
-- proofs/ViewLaws.antt says, so that a card with another header is a change of this definition and of those laws.
unfoldable pub header_length : List ℕ → ℕ
header_length card = least_header

abbrev pub entry_length : ℕ
entry_length = 12

abbrev pub production_length : ℕ
production_length = 6

abbrev pub word_table : List ℕ → ℕ
word_table card = header_length card

abbrev pub entry_at : List ℕ → ℕ → ℕ
entry_at card v = word_table card + entry_length * v

abbrev pub production_table : List ℕ → ℕ
production_table card = entry_at card (word_count card)

abbrev pub production_at : List ℕ → ℕ → ℕ
production_at card m = production_table card + production_length * m

abbrev pub card_length : List ℕ → ℕ
card_length card = production_at card (production_count card)

-- The length of the largest card.
abbrev pub most_card_bytes : ℕ
most_card_bytes = 780

-- A word entry: a length byte, the spelling, and zeros up to 12 bytes.
abbrev pub most_letters : ℕ
most_letters = 11

abbrev pub entry_of : List ℕ → ℕ → List ℕ
entry_of card v = take entry_length (drop (entry_at card v) card)

abbrev pub spelling_length : List ℕ → ℕ → ℕ
spelling_length card v = byte_at card (entry_at card v)

abbrev pub spelling : List ℕ → ℕ → List ℕ
spelling card v = take (spelling_length card v) (drop (entry_at card v + 1) card)

abbrev pub padding : List ℕ → ℕ → List ℕ
padding card v = drop (1 + spelling_length card v) (entry_of card v)

-- A production: six bytes, kind, A, B, C, g and 0.
-- The table of kinds; a card that has passed its checks has no kind above 6.
abbrev pub rule_of : ℕ → ℕ → ℕ → ℕ → ℕ → Rule
rule_of kind A B C g =
    cond (eqb kind 0) (Lexical A B)
    (cond (eqb kind 1) (Spine A (Take g) (B ∷ []) C [])
    (cond (eqb kind 2) (Spine A (Take g) [] B (C ∷ []))
    (cond (eqb kind 3) (Spine A Keep (B ∷ []) C [])
    (cond (eqb kind 4) (Spine A Keep [] B (C ∷ []))
    (cond (eqb kind 5) (Spine A (Give g) (B ∷ []) C [])
    (Spine A (Give g) [] B (C ∷ [])))))))

abbrev pub production : List ℕ → ℕ → Rule
production card m = let at = production_at card m in
    rule_of (byte_at card at) (byte_at card (at + 1)) (byte_at card (at + 2)) (byte_at card (at + 3)) (byte_at card (at + 4))

abbrev pub grammar_of : List ℕ → List Rule
grammar_of card = map (production card) (counted 0 (production_count card))

-- What refusal 11 asks: 12 bytes, and the mark.
abbrev pub mark_fits : List ℕ → Bool
mark_fits card = leb least_header (length card) && same_bytes (take 4 card) mark

-- 12: the counts within their limits.
abbrev pub within : ℕ → ℕ → ℕ → Bool
within low high x = leb low x && leb x high

abbrev pub counts_fit : List ℕ → Bool
counts_fit card =
    within 1 max_nonterminals (nonterminal_count card)
    && (within 1 max_words (word_count card)
    && (within 0 max_indices (index_count card) && within 1 max_productions (production_count card)))

-- 13: the offsets and the length.
abbrev pub lengths_fit : List ℕ → Bool
lengths_fit card =
    eqb (number16_at card 8) (word_table card)
    && (eqb (number16_at card 10) (production_table card) && eqb (length card) (card_length card))

-- 14: each word entry's layout.
abbrev pub entry_fits : List ℕ → ℕ → Bool
entry_fits card v =
    within 1 most_letters (spelling_length card v) && (all_bytes is_letter (spelling card v) && all_bytes (eqb 0) (padding card v))

abbrev pub entries_fit : List ℕ → Bool
entries_fit card = all_below (word_count card) (entry_fits card)

-- 16: each production by its kind.
abbrev pub word_production_fits : List ℕ → ℕ → ℕ → ℕ → ℕ → Bool
word_production_fits card A B C g =
    ltb A (nonterminal_count card) && (ltb B (word_count card) && (eqb C 0 && eqb g 0))

abbrev pub pair_fits : List ℕ → ℕ → ℕ → ℕ → Bool → Bool
pair_fits card A B C index =
    ltb A (nonterminal_count card) && (ltb B (nonterminal_count card) && (ltb C (nonterminal_count card) && index))

-- An index where one is due, and 0 where none is: kinds 3 and 4 keep the stack.
abbrev pub index_fits : List ℕ → ℕ → ℕ → Bool
index_fits card kind g = cond (within 3 4 kind) (eqb g 0) (within 1 (index_count card) g)

abbrev pub kind_fits : List ℕ → ℕ → ℕ → ℕ → ℕ → ℕ → Bool
kind_fits card kind A B C g =
    leb kind 6 && cond (eqb kind 0) (word_production_fits card A B C g) (pair_fits card A B C (index_fits card kind g))

abbrev pub production_fits : List ℕ → ℕ → Bool
production_fits card m = let at = production_at card m in
    kind_fits card (byte_at card at) (byte_at card (at + 1)) (byte_at card (at + 2)) (byte_at card (at + 3)) (byte_at card (at + 4))
    && eqb (byte_at card (at + 5)) 0

abbrev pub productions_fit : List ℕ → Bool
productions_fit card = all_below (production_count card) (production_fits card)

-- 42: no nonterminal stands on the right of a production and on the left of none.
abbrev pub names_live : List ℕ → Bool
names_live card = no_dead_name (grammar_of card)

-- The refusals in their order, each over the whole card; the number is 0 where the card is accepted.
abbrev pub card_refusals : List ℕ → List Refusal
card_refusals card =
    unless (mark_fits card) 11
    ∷ unless (counts_fit card) 12
    ∷ unless (lengths_fit card) 13
    ∷ unless (entries_fit card) 14
    ∷ unless (productions_fit card) 16
    ∷ unless (names_live card) 42
    ∷ []

abbrev pub card_number : List ℕ → ℕ
card_number card = first_refusal (card_refusals card)
