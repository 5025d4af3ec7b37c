-- What an accepted card and an accepted line tell: every condition of their refusals holds, in words that proofs can use.
-- Read off the two lists of refusals by one law each time; the lists are taken apart here and nowhere else.
use Prim.Native.Nat.{ℕ, ◌+◌, ◌≤◌, ◌<◌}
use native.Mathlib.Omega.{arith}
use mathlib.Core.Path.{◌≡◌, refl}
use mathlib.Core.Bool.{true}
use mathlib.Core.List.{List, [], ◌∷◌, ◌++◌}
use lib.Dec.{eqb, ltb}
use lib.ListN.{length}
use borrow.Author.Tests.{leb-true, ltb-true, eqb-true}
use Rattle.grammar.specs.Lists.{here, there}
use Rattle.layout.specs.Bytes.{number16_at, all_bytes}
use Rattle.layout.specs.Refusals.{unless, first_refusal}
use Rattle.layout.specs.Card.{nonterminal_count, word_count, index_count, production_count, word_table, production_table, card_length}
use Rattle.layout.specs.Card.{header_length, most_card_bytes, entry_at, entry_length}
use Rattle.layout.specs.Card.{max_nonterminals, max_words, max_indices, max_productions, within, card_refusals, card_number}
use Rattle.layout.specs.Card.{mark_fits, counts_fit, lengths_fit, entries_fit, productions_fit, names_live}
use Rattle.layout.specs.Line.{words_of, is_line_byte, all_known, line_refusals, line_number, most_words}
use Rattle.layout.specs.Answers.{input_refusals, input_number, words_in, plan_passes, check_number, name_number}
use Rattle.layout.specs.Steps.{steps_of}
use Rattle.layout.proofs.TestLaws.{both, limits}
use Rattle.layout.proofs.RefusalLaws.{zero-holds, both-accept, before-accepts, before-refuses, first-most, first-other}

-- An accepted card.
pub record AcceptedCard (card : List ℕ) : Type 0 where
  pub marked : mark_fits card ≡ true
  pub counted : counts_fit card ≡ true
  pub measured : lengths_fit card ≡ true
  pub fit : entries_fit card ≡ true
  pub table : productions_fit card ≡ true
  pub live : names_live card ≡ true

pub accepted-card : (card : List ℕ) → card_number card ≡ 0 → AcceptedCard card
accepted-card card z =
    let l = card_refusals card in
    record {
      marked = zero-holds l refl z here;
      counted = zero-holds l refl z (there here);
      measured = zero-holds l refl z (there (there here));
      fit = zero-holds l refl z (there (there (there here)));
      table = zero-holds l refl z (there (there (there (there here))));
      live = zero-holds l refl z (there (there (there (there (there here)))));
    }

-- Its counts, and its length.
pub record CountsWithin (card : List ℕ) : Type 0 where
  pub some_nonterminals : 1 ≤ nonterminal_count card
  pub few_nonterminals : nonterminal_count card ≤ max_nonterminals
  pub some_entries : 1 ≤ word_count card
  pub few_words : word_count card ≤ max_words
  pub few_indices : index_count card ≤ max_indices
  pub some_productions : 1 ≤ production_count card
  pub few_productions : production_count card ≤ max_productions

pub counts-within : (card : List ℕ) → counts_fit card ≡ true → CountsWithin card
counts-within card e =
    let (n, e₁) = both (within 1 max_nonterminals (nonterminal_count card)) _ e in
    let (w, e₂) = both (within 1 max_words (word_count card)) _ e₁ in
    let (x, p) = both (within 0 max_indices (index_count card)) (within 1 max_productions (production_count card)) e₂ in
    let nonterminals = limits 1 max_nonterminals (nonterminal_count card) n in
    let words = limits 1 max_words (word_count card) w in
    let indices = limits 0 max_indices (index_count card) x in
    let productions = limits 1 max_productions (production_count card) p in
    record {
      some_nonterminals = nonterminals.0;
      few_nonterminals = nonterminals.1;
      some_entries = words.0;
      few_words = words.1;
      few_indices = indices.1;
      some_productions = productions.0;
      few_productions = productions.1;
    }

pub accepted-counts : (card : List ℕ) → card_number card ≡ 0 → CountsWithin card
accepted-counts card z = counts-within card (accepted-card card z).counted

pub length-fits : (card : List ℕ) → lengths_fit card ≡ true → length card ≡ card_length card
length-fits card e =
    let (_, e₁) = both (eqb (number16_at card 8) (word_table card)) _ e in
    let (_, e₂) = both (eqb (number16_at card 10) (production_table card)) (eqb (length card) (card_length card)) e₁ in
    eqb-true (length card) (card_length card) e₂

pub accepted-length : (card : List ℕ) → card_number card ≡ 0 → length card ≡ card_length card
accepted-length card z = length-fits card (accepted-card card z).measured

-- At most 780 bytes, since each count has its limit.
pub accepted-most : (card : List ℕ) → card_number card ≡ 0 → length card ≤ most_card_bytes
unfolding header_length
accepted-most card z =
    let few = accepted-counts card z in omega (arith, accepted-length card z, few.few_words, few.few_productions)

-- Its entries and productions lie within it.
pub entry-inside : (card : List ℕ) (v : ℕ) → card_number card ≡ 0 → v < word_count card → entry_at card v + entry_length ≤ length card
entry-inside card v z h = omega (arith, accepted-length card z)

-- A card and a line: the card's number where it is refused, and else the line's.
pub input-of-card : (card line : List ℕ) → (card_number card ≡ 0 → ⊥) → input_number card line ≡ card_number card
input-of-card card line ne = before-refuses (card_refusals card) (line_refusals card line) ne

pub input-of-line : (card line : List ℕ) → card_number card ≡ 0 → input_number card line ≡ line_number card line
input-of-line card line z = before-accepts (card_refusals card) (line_refusals card line) refl z

-- An accepted line of an accepted card.
pub record AcceptedLine (card line : List ℕ) : Type 0 where
  pub card_accepted : card_number card ≡ 0
  pub bytes_fit : all_bytes is_line_byte line ≡ true
  pub some_words : 1 ≤ words_in line
  pub most_words : words_in line ≤ most_words
  pub known : all_known card (words_of line) ≡ true

pub accepted-line : (card line : List ℕ) → input_number card line ≡ 0 → AcceptedLine card line
accepted-line card line z =
    let l = line_refusals card line in
    let (c, e) = both-accept (card_refusals card) l z refl in
    record {
      card_accepted = c;
      bytes_fit = zero-holds l refl e here;
      some_words = leb-true 1 (words_in line) (zero-holds l refl e (there here));
      most_words = leb-true (words_in line) most_words (zero-holds l refl e (there (there here)));
      known = zero-holds l refl e (there (there (there here)));
    }

-- A refusal has two digits.
abbrev pub most_number : ℕ
most_number = 99

pub input-small : (card line : List ℕ) → input_number card line ≤ most_number
input-small card line = omega (arith, first-most (input_refusals card line))

-- None of card and line is 25.
pub input-other : (card line : List ℕ) → input_number card line ≡ 25 → ⊥
input-other card line e = first-other 24 (input_refusals card line) refl e

-- 15 no longer occurs: no list of refusals has it, with Check's and Name's own after them.
pub card-never-15 : (card : List ℕ) → card_number card ≡ 15 → ⊥
card-never-15 card e = first-other 14 (card_refusals card) refl e

pub input-never-15 : (card line : List ℕ) → input_number card line ≡ 15 → ⊥
input-never-15 card line e = first-other 14 (input_refusals card line) refl e

pub check-never-15 : (card line plan : List ℕ) → check_number card line plan ≡ 15 → ⊥
check-never-15 card line plan e =
    first-other 14 (input_refusals card line ++ (unless (plan_passes card line (steps_of plan)) 34 ∷ [])) refl e

pub name-never-15 : (card : List ℕ) (word : ℕ) → name_number card word ≡ 15 → ⊥
name-never-15 card word e = first-other 14 (card_refusals card ++ (unless (ltb word (word_count card)) 35 ∷ [])) refl e

-- Check's own condition comes last.
pub check-of-input : (card line plan : List ℕ) → (input_number card line ≡ 0 → ⊥) → check_number card line plan ≡ input_number card line
check-of-input card line plan ne =
    before-refuses (input_refusals card line) (unless (plan_passes card line (steps_of plan)) 34 ∷ []) ne

pub check-of-plan : (card line plan : List ℕ) → input_number card line ≡ 0
    → check_number card line plan ≡ first_refusal (unless (plan_passes card line (steps_of plan)) 34 ∷ [])
check-of-plan card line plan z =
    before-accepts (input_refusals card line) (unless (plan_passes card line (steps_of plan)) 34 ∷ []) refl z

pub check-accepts : (card line plan : List ℕ) → check_number card line plan ≡ 0
    → (input_number card line ≡ 0) × (plan_passes card line (steps_of plan) ≡ true)
check-accepts card line plan z =
    let l = unless (plan_passes card line (steps_of plan)) 34 ∷ [] in
    let (e, f) = both-accept (input_refusals card line) l z refl in
    (e, zero-holds l refl f here)

pub check-small : (card line plan : List ℕ) → check_number card line plan ≤ most_number
check-small card line plan =
    omega (arith, first-most (input_refusals card line ++ (unless (plan_passes card line (steps_of plan)) 34 ∷ [])))

-- And so does Name's.
pub name-of-card : (card : List ℕ) (word : ℕ) → (card_number card ≡ 0 → ⊥) → name_number card word ≡ card_number card
name-of-card card word ne = before-refuses (card_refusals card) (unless (ltb word (word_count card)) 35 ∷ []) ne

pub name-of-word : (card : List ℕ) (word : ℕ) → card_number card ≡ 0
    → name_number card word ≡ first_refusal (unless (ltb word (word_count card)) 35 ∷ [])
name-of-word card word z = before-accepts (card_refusals card) (unless (ltb word (word_count card)) 35 ∷ []) refl z

pub name-accepts : (card : List ℕ) (word : ℕ) → name_number card word ≡ 0 → (card_number card ≡ 0) × (word < word_count card)
name-accepts card word z =
    let l = unless (ltb word (word_count card)) 35 ∷ [] in
    let (e, f) = both-accept (card_refusals card) l z refl in
    (e, ltb-true word (word_count card) (zero-holds l refl f here))
