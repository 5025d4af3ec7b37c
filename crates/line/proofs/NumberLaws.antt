-- Looking the words of a line up one by one: the sets stored so far and those of the words from `at` on are all the sets of the line, and
-- what follows them is zeros; and a word is known where its set is not empty.
use Prim.Native.Nat.{ℕ, zero, suc, ◌+◌, ◌-◌, ◌≤◌, ◌<◌}
use native.Mathlib.Numerals.{add-one}
use native.Mathlib.Omega.{arith}
use mathlib.Core.Path.{◌≡◌, refl, sym, ◌∙◌, ap}
use mathlib.Core.Bool.{Bool, true, false, not}
use mathlib.Core.List.{List, [], ◌∷◌, ◌++◌, map, append_assoc, append-nil}
use lib.Dec.{eqb}
use lib.ListN.{length, get_or, take, drop, set, replicate, length-set, take-append-drop}
use lib.Seq.{take-suc-set, drop-set-lt, drop-drop}
use borrow.Author.Tests.{ne_eqb}
use Rattle.layout.specs.Bytes.{some_below}
use Rattle.layout.specs.Card.{word_count}
use Rattle.layout.specs.Line.{words_of, equals_entry, all_known}
use Rattle.layout.specs.Answers.{words_in}
use Rattle.layout.proofs.TestLaws.{all-bytes}
use Rattle.bits.specs.Bits.{with_number, set_below}
use Rattle.bits.proofs.BitSets.{with-some}
use Rattle.octets.specs.Letters.{part}
use Rattle.line.specs.Words.{WordStarts}
use Rattle.line.specs.Lookup.{word_set}
use Rattle.line.specs.Accepted.{all_found}
use Rattle.line.proofs.WordLaws.{WordEnds, no_words}

-- Some number passes where the set of those that do is not empty.
some-set : (n : ℕ) (test : ℕ → Bool) → some_below n test ≡ not (eqb (set_below n test) 0)
some-set zero test = refl
some-set (suc n) test = go (test n) refl (some-set n test)
  where
    go : (t : Bool) → test n ≡ t → some_below n test ≡ not (eqb (set_below n test) 0)
        → some_below (suc n) test ≡ not (eqb (set_below (suc n) test) 0)
    go true e h = rw (e, ne_eqb (with_number (set_below n test) n) 0 (with-some (set_below n test) n))
    go false e h = rw e h

-- None of the sets is empty.
pub found-all : (sets : List ℕ) → ((k : ℕ) → k < length sets → get_or sets k 0 ≡ 0 → ⊥) → all_found sets ≡ true
found-all sets some = sym (all-bytes _ sets λ k h. rw (ne_eqb _ 0 (some k h)))

-- The sets of some words.
abbrev pub sets : List ℕ → List (List ℕ) → List ℕ
sets card words = map (word_set card) words

-- The card has all of them where none of their sets is empty.
found-known : (card : List ℕ) (words : List (List ℕ)) → all_found (sets card words) ≡ all_known card words
found-known card [] = refl
found-known card (word ∷ words) = rw (some-set (word_count card) (equals_entry card word), found-known card words)

pub record Numbering (card line : List ℕ) (at n : ℕ) (stored : List ℕ) : Type 0 where
  pub numbered : sets card (words_of line) ≡ take n stored ++ sets card (words_of (drop at line))
  pub room : length stored ≡ 24
  pub zeros : drop n stored ≡ replicate (24 - n) 0

-- The lists on both sides of a store.
zeros-left : (stored : List ℕ) (n : ℕ) → n < 24 → drop n stored ≡ replicate (24 - n) 0
    → drop (n + 1) stored ≡ replicate (24 - (n + 1)) 0
zeros-left stored n h e =
    let f : 24 - n ≡ suc (24 - (n + 1)) = omega arith in
    sym (drop-drop 1 n stored) ∙ ap (drop 1) (e ∙ ap (λ (m : ℕ). replicate m 0) f)

stored_more : (stored rest : List ℕ) (n v : ℕ) → n < length stored
    → take n stored ++ (v ∷ rest) ≡ take (n + 1) (set stored n v) ++ rest
stored_more stored rest n v h = rw (add-one, take-suc-set stored n v h, append_assoc)

-- The word from `at` to `stop`, while there is room for its set.
pub numbering-more : {card line stored : List ℕ} {at stop n : ℕ} → Numbering card line at n stored → WordEnds line at stop → n < 24
    → {found : ℕ} → found ≡ word_set card (part line at stop) → Numbering card line stop (n + 1) (set stored n found)
numbering-more {card} {line} {stored} {at} {stop} {n} s ends h {found} is =
    let rest = words_of (drop stop line) in
    record {
      numbered =
          s.numbered
          ∙ ap (λ (l : List ℕ). take n stored ++ l) (ap (sets card) ends.words ∙ ap (λ (m : ℕ). m ∷ sets card rest) (sym is))
          ∙ stored_more stored (sets card rest) n found (omega (arith, s.room));
      room = length-set stored n found ∙ s.room;
      zeros = drop-set-lt (n + 1) stored n found (omega arith) ∙ zeros-left stored n h s.zeros;
    }

-- Spaces after the word change nothing.
pub numbering-on : {card line stored : List ℕ} {stop next n : ℕ} → Numbering card line stop n stored
    → WordStarts line stop next → Numbering card line next n stored
numbering-on {card} {line} {stored} {stop} {next} {n} s starts =
    record {
      numbered = s.numbered ∙ ap (λ words. take n stored ++ sets card words) starts.words;
      room = s.room;
      zeros = s.zeros;
    }

-- The end of the line.
module _ {card line stored : List ℕ} {at n : ℕ} (s : Numbering card line at n stored) (h : length line ≤ at) where
  taken-all : take n stored ≡ sets card (words_of line)
  taken-all =
      let none_left : sets card (words_of (drop at line)) ≡ [] = ap (sets card) (no_words line at h) in
      sym (s.numbered ∙ rw none_left (append-nil (take n stored)))

  pub known-all : all_found (take n stored) ≡ all_known card (words_of line)
  known-all = ap all_found taken-all ∙ found-known card (words_of line)

  pub numbered-all : n ≡ words_in line → stored ≡ sets card (words_of line) ++ replicate (24 - words_in line) 0
  numbered-all count =
      sym (take-append-drop n stored) ∙ ap (λ (l : List ℕ). l ++ drop n stored) taken-all
      ∙ ap (λ (l : List ℕ). sets card (words_of line) ++ l) (s.zeros ∙ ap (λ (m : ℕ). replicate (24 - m) 0) count)
