-- The words of a line, read from a place on: what stands from the place to the line's end gives the words that are left, and tells
-- whether the bytes that are left fit. A space in front changes neither; a run of letters, up to a space or the end, is the first word.
use Prim.Native.Nat.{ℕ, suc, ◌+◌, ◌-◌, ◌≤◌, ◌<◌}
use native.Mathlib.Decide.{ℕ_discrete}
use native.Mathlib.Omega.{arith}
use mathlib.Core.Path.{◌≡◌, refl, sym, ◌∙◌, ap}
use mathlib.Core.Bool.{Bool, true, false, cond}
use mathlib.Core.List.{List, [], ◌∷◌, ◌++◌, append_assoc, append-nil}
use lib.Dec.{eqb}
use lib.ListN.{length, drop, drop_of_length-le}
use lib.Seq.{drop-cons, drop-drop}
use borrow.Author.Tests.{eq-eqb, ne_eqb, eqb-true, eqb-false}
use Rattle.std.specs.List.{prefix_len}
use Rattle.layout.specs.Bytes.{byte_at, is_letter, all_bytes}
use Rattle.layout.specs.Line.{space, is_line_byte, ended, words_from, words_of}
use Rattle.layout.specs.Answers.{words_in}
use Rattle.octets.specs.Letters.{part, Letters}
use Rattle.octets.specs.Past.{Past}
use Rattle.octets.proofs.LetterLaws.{part_length, part-rest}
use Rattle.octets.proofs.PastLaws.{past-run}
use Rattle.line.specs.Words.{WordStarts, PastLetters}
use Rattle.layout.proofs.TestLaws.{both}
use Rattle.line.proofs.LetterLaws.{letter-no-space, letter-fits, neither-fits}

-- One byte of a line, with the word that has been begun.
at-space : (so : List ℕ) (b : ℕ) (rest : List ℕ) → b ≡ space → words_from so (b ∷ rest) ≡ ended so (words_of rest)
at-space so b rest e = rw (eq-eqb b space e, words_from)

at-letter : (so : List ℕ) (b : ℕ) (rest : List ℕ) → (b ≡ space → ⊥)
    → words_from so (b ∷ rest) ≡ words_from (so ++ (b ∷ [])) rest
at-letter so b rest n = rw (ne_eqb b space n, words_from)

one_word : (so : List ℕ) (words : List (List ℕ)) → 0 < length so → ended so words ≡ so ∷ words
one_word [] words h = absurd (omega arith)
one_word (b ∷ so) words h = refl

-- Letters in front of the rest of a line.
letters-begin : (so word rest : List ℕ) → all_bytes is_letter word ≡ true → words_from so (word ++ rest) ≡ words_from (so ++ word) rest
letters-begin so [] rest e = rw (append-nil so)
letters-begin so (b ∷ word) rest e =
    let parts = both (is_letter b) (all_bytes is_letter word) e in
    at-letter so b (word ++ rest) (letter-no-space b parts.0)
    ∙ letters-begin (so ++ (b ∷ [])) word rest parts.1
    ∙ rw (append_assoc so (b ∷ []) word)

letters-fit : (word rest : List ℕ) → all_bytes is_letter word ≡ true → all_bytes is_line_byte (word ++ rest) ≡ all_bytes is_line_byte rest
letters-fit [] rest e = refl
letters-fit (b ∷ word) rest e =
    let parts = both (is_letter b) (all_bytes is_letter word) e in
    rw (letter-fits b parts.0) (letters-fit word rest parts.1)

-- Spaces in front.
abbrev is_space : ℕ → Bool
is_space b = eqb b space

skipped : (bytes : List ℕ) → let rest = drop (prefix_len is_space bytes) bytes in
    (words_of bytes ≡ words_of rest) × (all_bytes is_line_byte bytes ≡ all_bytes is_line_byte rest)
skipped [] = (refl, refl)
skipped (b ∷ bytes) = go (is_space b) refl (prefix_len is_space bytes) (skipped bytes)
  where
    go : (t : Bool) → is_space b ≡ t → (n : ℕ)
        → (words_of bytes ≡ words_of (drop n bytes)) × (all_bytes is_line_byte bytes ≡ all_bytes is_line_byte (drop n bytes))
        → let rest = drop (cond t (1 + n) 0) (b ∷ bytes) in
        (words_of (b ∷ bytes) ≡ words_of rest) × (all_bytes is_line_byte (b ∷ bytes) ≡ all_bytes is_line_byte rest)
    go true e n (words, fits) =
        let one : 1 + n ≡ suc n = omega arith in
        let here : b ≡ space = eqb-true b space e in
        (rw one (at-space [] b bytes here ∙ words), rw (one, here) fits)
    go false e n h = (refl, refl)

-- A word starts past as many spaces as the rest of the line begins with, or the line ends.
pub starts-past : {fits : ℕ → Bool → Type 0} {line : List ℕ} {at start : ℕ} → ((b : ℕ) (r : Bool) → fits b r → r ≡ is_space b)
    → Past fits line at start → WordStarts line at start
starts-past {fits} {line} {at} {start} tells p =
    let rest = drop at line in
    let run : start - at ≡ prefix_len is_space rest = past-run is_space tells p in
    let there : at + (start - at) ≡ start = omega (arith, p.after) in
    let left : drop (prefix_len is_space rest) rest ≡ drop start line =
    rw (← run) (drop-drop (start - at) at line ∙ ap (λ (k : ℕ). drop k line) there) in
    record {
      after = p.after;
      within = p.within;
      words = (skipped rest).0 ∙ ap words_of left;
      fits = (skipped rest).1 ∙ ap (all_bytes is_line_byte) left;
      letter = λ h s. eqb-false (byte_at line start) space (sym (tells (byte_at line start) false (p.stops h))) s;
    }

-- The bytes from `start` to `stop` are the first of the words from `start` on, and letters.
pub record WordEnds (line : List ℕ) (start stop : ℕ) : Type 0 where
  pub after : start < stop
  pub within : stop ≤ length line
  pub letters : all_bytes is_letter (part line start stop) ≡ true
  pub words : words_of (drop start line) ≡ part line start stop ∷ words_of (drop stop line)
  pub fits : all_bytes is_line_byte (drop start line) ≡ all_bytes is_line_byte (drop stop line)

-- Letters that have been taken, from a place where no space stands.
module _ {line : List ℕ} {start stop : ℕ} (s : Letters line start stop) where
  taken-words : words_of (drop start line) ≡ words_from (part line start stop) (drop stop line)
  taken-words =
      ap words_of (part-rest line start stop s.after) ∙ letters-begin [] (part line start stop) (drop stop line) s.letters

  taken-fits : all_bytes is_line_byte (drop start line) ≡ all_bytes is_line_byte (drop stop line)
  taken-fits =
      ap (all_bytes is_line_byte) (part-rest line start stop s.after)
      ∙ letters-fit (part line start stop) (drop stop line) s.letters

  word-ends : start < stop → ended (part line start stop) (words_of (drop stop line)) ≡ words_from (part line start stop) (drop stop line)
      → WordEnds line start stop
  word-ends h e =
      record {
        after = h;
        within = s.within;
        letters = s.letters;
        words =
            taken-words ∙ sym e
            ∙ one_word (part line start stop) (words_of (drop stop line)) (omega (arith, part_length line start stop s.within));
        fits = taken-fits;
      }

  pub ends-at-space : (byte_at line start ≡ space → ⊥) → stop < length line → byte_at line stop ≡ space → WordEnds line start stop
  ends-at-space n h e =
      let so = part line start stop in
      let rest = drop (suc stop) line in
      let b = byte_at line stop in
      let more : start < stop =
      elim (ℕ_discrete start stop) [ yes same ↦ absurd (n (ap (byte_at line) same ∙ e)) | no other ↦ omega (arith, s.after) ] in
      word-ends more
      (rw (drop-cons line stop 0 h)
      (ap (ended so) (at-space [] b rest e) ∙ sym (at-space so b rest e)))

  pub ends-with-line : start < length line → length line ≤ stop → WordEnds line start stop
  ends-with-line g h = word-ends (omega arith) (rw (drop_of_length-le line {i = stop} h))

-- A byte that does not fit, after letters.
pub byte-refused : {line : List ℕ} {start stop : ℕ} → PastLetters line start stop → stop < length line
    → (byte_at line stop ≡ space → ⊥) → all_bytes is_line_byte (drop start line) ≡ false
byte-refused {line} {start} {stop} p h n =
    taken-fits p.taken ∙ rw (drop-cons line stop 0 h, neither-fits (byte_at line stop) (p.stops h) n)

-- Nothing is left at the end.
pub no_words : (line : List ℕ) (i : ℕ) → length line ≤ i → words_of (drop i line) ≡ []
no_words line i h = rw (drop_of_length-le line {i = i} h)

pub no_bytes : (line : List ℕ) (i : ℕ) → length line ≤ i → all_bytes is_line_byte (drop i line) ≡ true
no_bytes line i h = rw (drop_of_length-le line {i = i} h)

-- Counting: n words stand before `at`, and `at` is no space.
pub record Counted (line : List ℕ) (at n : ℕ) : Type 0 where
  pub few : n ≤ at
  pub within : at ≤ length line
  pub letter : at < length line → byte_at line at ≡ space → ⊥
  pub counts : n + length (words_of (drop at line)) ≡ words_in line

pub counted_none : {line : List ℕ} {at : ℕ} → WordStarts line 0 at → Counted line at 0
counted_none s = record { few = omega arith; within = s.within; letter = s.letter; counts = omega (arith, ap length s.words) }

pub counted-more : {line : List ℕ} {at stop next n : ℕ} → Counted line at n → WordEnds line at stop → WordStarts line stop next
    → Counted line next (n + 1)
counted-more c e s =
    record {
      few = omega arith;
      within = s.within;
      letter = s.letter;
      counts = omega (arith, ap length e.words, ap length s.words);
    }

pub counted-all : {line : List ℕ} {at n : ℕ} → Counted line at n → length line ≤ at → n ≡ words_in line
counted-all {line} {at} c h = omega (arith, ap length (no_words line at h))
