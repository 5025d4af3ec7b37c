-- The one pass over a line: n words stand before `at`, every byte before it fits, the words are numbered while there is room,
-- and none is stored past them. At the end the verdict on the words is the answer.
use Prim.Native.Nat.{ℕ, ◌+◌, ◌≤◌}
use native.Mathlib.Omega.{arith}
use mathlib.Core.Path.{◌≡◌, refl, sym, ◌∙◌, ap}
use mathlib.Core.Bool.{Bool, true, false}
use mathlib.Core.List.{List, [], ◌∷◌}
use lib.Dec.{leb}
use lib.ListN.{length, take, drop, replicate}
use borrow.Author.Tests.{leb-true}
use Rattle.std.proofs.Common.{Result, Ok, Err}
use Rattle.layout.specs.Bytes.{all_bytes}
use Rattle.layout.specs.Refusals.{unless, first_refusal}
use Rattle.layout.specs.Card.{card_number}
use Rattle.layout.specs.Line.{is_line_byte, most_words, words_of, all_known}
use Rattle.layout.specs.Answers.{input_number, words_in}
use Rattle.layout.proofs.Accepting.{AcceptedLine, accepted-line}
use Rattle.grammar.specs.Input.{Holds, Below}
use Rattle.places.specs.Places.{word_test}
use Rattle.places.proofs.PlacesLaws.{ends-none}
use Rattle.places.specs.declared.Words.{Words}
use Rattle.refusals.specs.declared.Refusal.{Refusal}
use Rattle.line.specs.Words.{WordStarts}
use Rattle.line.specs.Accepted.{places_of, words_number, all_found, Verdict, Accepts}
use Rattle.line.proofs.RefusalLaws.{words-decide}
use Rattle.line.proofs.WordLaws.{WordEnds, no_bytes, Counted, counted_none, counted-more, counted-all}
use Rattle.line.proofs.NumberLaws.{sets, Numbering, numbering-on, known-all, numbered-all}

pub record Passing (card line : List ℕ) (at n : ℕ) (stored : List ℕ) : Type 0 where
  pub counted : Counted line at n
  pub fits : all_bytes is_line_byte line ≡ all_bytes is_line_byte (drop at line)
  pub numbering : n ≤ 24 → Numbering card line at n stored
  pub ends : Below (Holds (word_test stored)) n

-- Where the first word starts, with no room used.
pub passing-none : {card line : List ℕ} {at : ℕ} → WordStarts line 0 at → Passing card line at 0 (replicate 24 0)
passing-none {card} s =
    record {
      counted = counted_none s;
      fits = s.fits;
      numbering = λ h. record { numbered = ap (sets card) s.words; room = refl; zeros = refl };
      ends = ends-none 24;
    }

-- One word more, whatever was noted of it.
pub passing-more : {card line stored stored' : List ℕ} {at stop next n : ℕ} → Passing card line at n stored
    → WordEnds line at stop → WordStarts line stop next → (n + 1 ≤ 24 → Numbering card line stop (n + 1) stored')
    → Below (Holds (word_test stored')) (n + 1) → Passing card line next (n + 1) stored'
passing-more s ends starts noted below =
    record {
      counted = counted-more s.counted ends starts;
      fits = s.fits ∙ ends.fits ∙ starts.fits;
      numbering = λ h. numbering-on (noted h) starts;
      ends = below;
    }

-- Whether words are known matters only where they are not too many.
known-few : (n : ℕ) {a b : Bool} → (n ≤ most_words → a ≡ b) → words_number n a ≡ words_number n b
known-few n {a} {b} e = go (leb 1 n) (leb n most_words) refl
  where
    go : (least most : Bool) → leb n most_words ≡ most
        → first_refusal (unless least 21 ∷ unless most 23 ∷ unless a 24 ∷ [])
        ≡ first_refusal (unless least 21 ∷ unless most 23 ∷ unless b 24 ∷ [])
    go false most f = refl
    go true false f = refl
    go true true f = ap (λ (t : Bool). first_refusal (unless t 24 ∷ [])) (e (leb-true n most_words f))

-- The end of the line.
module _ {card line stored : List ℕ} {at n : ℕ} (ok : card_number card ≡ 0)
    (s : Passing card line at n stored) (h : length line ≤ at) where
  all-counted : n ≡ words_in line
  all-counted = counted-all s.counted h

  number_is : words_number n (all_found (take n stored)) ≡ input_number card line
  number_is =
      let fits : all_bytes is_line_byte line ≡ true = s.fits ∙ no_bytes line at h in
      known-few n (λ few. known-all (s.numbering few) h)
      ∙ sym (words-decide card line ok fits ∙ ap (λ (m : ℕ). words_number m (all_known card (words_of line))) (sym all-counted))

  stored_is : input_number card line ≡ 0 → stored ≡ places_of card line
  stored_is z =
      let a : AcceptedLine card line = accepted-line card line z in
      numbered-all (s.numbering (omega (arith, all-counted, a.most_words))) h all-counted

  pub passed : (r : Result Words Refusal) → Verdict n stored r → Accepts card line r
  passed (Err refusal) v = record { number = v.number ∙ number_is; words = tt }
  passed (Ok words) v =
      let number = v.number ∙ number_is in
      record {
        number = number;
        words =
            record {
              count = v.words.0 ∙ all-counted;
              places = v.words.1 ∙ stored_is (sym number);
              some = omega (arith, v.words.0, all-counted, (accepted-line card line (sym number)).some_words);
            };
      }
