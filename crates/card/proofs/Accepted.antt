-- Laws behind the card's calls: what a view says of a card's header, and over plain bytes and numbers what Name answers and what a known word
-- tells.
use Prim.Native.Nat.{ℕ, ◌+◌, ◌*◌, ◌<◌, ◌≤◌}
use native.Mathlib.Omega.{arith}
use mathlib.Core.Path.{◌≡◌, refl, sym, ◌∙◌}
use mathlib.Core.Bool.{false, ◌&&◌}
use mathlib.Core.List.{List, [], ◌∷◌}
use borrow.Author.Tests.{ne_eqb, lt-ltb, lt-leb}
use lib.Dec.{ltb}
use lib.ListN.{length}
use Rattle.layout.specs.Card.{least_header, word_count, entry_at, entry_length, spelling_length}
use Rattle.layout.specs.Card.{max_nonterminals, max_words, max_indices, max_productions, most_letters, within}
use Rattle.layout.specs.Card.{mark_fits, counts_fit, entry_fits, card_number}
use Rattle.layout.specs.Refusals.{unless}
use Rattle.layout.specs.Answers.{name_number, name_answer, name_part}
use Rattle.layout.proofs.TestLaws.{both, limits, below_all}
use Rattle.layout.proofs.RefusalLaws.{accepts, holding, decides-first}
use Rattle.layout.proofs.Accepting.{accepted-card, accepted-counts, entry-inside, name-of-card, name-of-word, name-accepts}
use Rattle.card.specs.declared.header.View.{View}

-- The mark, where there are too few bytes for it.
pub no_header : (card : List ℕ) → length card < least_header → false ≡ mark_fits card
no_header card h = rw (lt-leb least_header (length card) h)

-- What a view says, by the definitions: where entry v starts, the counts, and that the first of them decides where it is outside its limits.
module _ (view : View) where
  pub view-entry : (v : ℕ) → view.header + entry_length * v ≡ entry_at view.bytes.now v
  view-entry v = rw view.starts

  pub counts_same : within 1 max_nonterminals view.nonterminals
      && (within 1 max_words view.words && (within 0 max_indices view.indices && within 1 max_productions view.productions))
      ≡ counts_fit view.bytes.now
  counts_same = rw (view.counts_nonterminals, view.counts_words, view.counts_indices, view.counts_productions)

  pub first_count : within 1 max_nonterminals view.nonterminals ≡ false → false ≡ counts_fit view.bytes.now
  first_count h = rw h at counts_same

-- A word that Name answers with 0.
pub record Known (card : List ℕ) (word : ℕ) : Type 0 where
  pub inside : entry_at card word + entry_length ≤ length card
  pub few : word_count card ≤ max_words
  pub known : word < word_count card
  pub short : spelling_length card word ≤ most_letters

pub known-word : (card : List ℕ) (word : ℕ) → name_number card word ≡ 0 → Known card word
known-word card word h =
    let (z, known) = name-accepts card word h in
    let entry = below_all (word_count card) (entry_fits card) (accepted-card card z).fit word known in
    let size = (both (within 1 most_letters (spelling_length card word)) _ entry).0 in
    record {
      inside = entry-inside card word z known;
      few = (accepted-counts card z).few_words;
      known = known;
      short = (limits 1 most_letters (spelling_length card word) size).1;
    }

-- Name's number, by the card's number and the count of words as the code has them.
module _ (card : List ℕ) (word number : ℕ) (same : number ≡ card_number card) where
  pub name-refused : (number ≡ 0 → ⊥) → number ≡ name_number card word
  name-refused ne = same ∙ sym (name-of-card card word λ e. ne (same ∙ e))

  module _ {words : ℕ} (z : number ≡ 0) (e : words ≡ word_count card) where
    pub name-known : word < words → 0 ≡ name_number card word
    name-known lt =
        decides-first (unless (ltb word (word_count card)) 35 ∷ []) (holding (lt-ltb word (word_count card) (rw e at lt)) accepts) ∙ sym (name-of-word card word (sym same ∙ z))

-- The part of the card that Name returns where there is none.
pub no_part : (card : List ℕ) (word : ℕ) → (name_number card word ≡ 0 → ⊥) → [] ≡ name_part card word
no_part card word h = rw (ne_eqb (name_number card word) 0 h)

-- What is answered where the card or the word is refused.
pub answer-refused : (card : List ℕ) (word : ℕ) {number : ℕ} → number ≡ name_number card word → (number ≡ 0 → ⊥)
    → record { number = number; offset = 0; size = 0 } ≡ name_answer card word
answer-refused card word e ne = rw (ne_eqb (name_number card word) 0 λ z. ne (e ∙ z), e) refl

-- A known word's spelling lies inside its entry.
pub spelling-inside : (card : List ℕ) (word at size : ℕ) → name_number card word ≡ 0 → at ≡ entry_at card word
    → size ≡ spelling_length card word → at + 1 + size ≤ length card
spelling-inside card word at size z e h = let known = known-word card word z in omega (arith, known.inside, known.short, e, h)
