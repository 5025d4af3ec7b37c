-- What Read's number says of derivations: 0 and 25 come only after every refusal before them is ruled out, and there the item of
-- the start over the whole line is among the computed items exactly when the line has a derivation.
use Prim.Native.Nat.{ℕ}
use native.Mathlib.Omega.{arith}
use mathlib.Core.Path.{◌≡◌, refl, sym, ◌∙◌}
use mathlib.Core.Bool.{Bool, true, false, cond, false≢true}
use mathlib.Core.List.{List}
use lib.Dec.{eqb, ltb}
use lib.ListN.{length}
use borrow.Author.Tests.{eqb-true, eq-eqb, le-ltb, ltb-false}
use Rattle.grammar.specs.Input.{Holds, Below}
use Rattle.grammar.specs.Items.{bare}
use Rattle.grammar.specs.ItemList.{item}
use Rattle.grammar.proofs.ItemListExact.{items-sound, items-complete, among-true, among-mem}
use Rattle.grammar.proofs.Existence.{Derivable, derivable-item, item-derivable}
use Rattle.layout.specs.Card.{grammar_of}
use Rattle.layout.specs.Line.{words_of}
use Rattle.layout.specs.Steps.{plan_room, plan_steps}
use Rattle.layout.specs.Answers.{input_number, words_in, line_test, derivable, start_found, HasDerivation}
use Rattle.layout.specs.Answers.{ReadAnswer, refusal, found, outnumber, chart_answer, read_answer, RoomEnough}
use Rattle.layout.proofs.Accepting.{input-other, input-never-15}
use Rattle.layout.proofs.Spellings.{spelled-below, spelled-stand, stand-spelled}

pub line-below : (card line : List ℕ) → Below (Holds (line_test card line)) (words_in line)
line-below card line = spelled-below card (words_of line)

-- A derivation of the line, and a list of words at its places with a derivation of that list, are the same.
pub has-derivation : (card line : List ℕ) → Derivable (grammar_of card) (Holds (line_test card line)) (words_in line) → HasDerivation card line
has-derivation card line d =
    record { words = d.words; spelled = stand-spelled card (words_of line) d.stand; derivation = d.derivation }

pub derivation-stands : (card line : List ℕ) → HasDerivation card line → Derivable (grammar_of card) (Holds (line_test card line)) (words_in line)
derivation-stands card line d =
    record { words = d.words; stand = spelled-stand card d.spelled; derivation = d.derivation }

pub found-derivation : (card line : List ℕ) → start_found card line ≡ true → HasDerivation card line
found-derivation card line e =
    let n = words_in line in
    let g = grammar_of card in
    let d = items-sound g (line_test card line) n 0 0 n bare (among-true (item 0 0 n bare) (derivable card line) e) in
    has-derivation card line (item-derivable g (Holds (line_test card line)) n d)

pub derivation-found : (card line : List ℕ) → HasDerivation card line → start_found card line ≡ true
derivation-found card line d =
    let n = words_in line in
    let g = grammar_of card in
    let i = derivable-item g (Holds (line_test card line)) n (derivation-stands card line d) in
    among-mem (items-complete g (line_test card line) n (line-below card line) 0 0 n bare i)

-- What an answer with a number v says that is neither 32 nor a refusal of the card or the line: every refusal before the chart's is
-- ruled out.
decided : (b r : Bool) (x v : ℕ) (answer : ReadAnswer) → (x ≡ v → b ≡ true) → (v ≡ 32 → ⊥)
    → (cond b (cond r (refusal 32) answer) (refusal x)).number ≡ v → (b ≡ true) × (r ≡ false) × (answer.number ≡ v)
decided false r x v answer f g e = absurd (false≢true (f e))
decided true true x v answer f g e = absurd (g (sym e))
decided true false x v answer f g e = (refl, refl, e)

-- The same for the chart's two numbers: they say whether the start was found.
charted : (b f : Bool) (n count v : ℕ) → (v ≡ 31 → ⊥) → (cond b (refusal 31) (found f n count)).number ≡ v
    → (b ≡ false) × ((found f n count).number ≡ v)
charted true f n count v h e = absurd (h (sym e))
charted false f n count v h e = (refl, e)

found-zero : (f : Bool) (n count : ℕ) → (found f n count).number ≡ 0 → f ≡ true
found-zero true n count e = refl
found-zero false n count e = absurd (omega arith)

found_none : (f : Bool) (n count : ℕ) → (found f n count).number ≡ 25 → f ≡ false
found_none true n count e = absurd (omega arith)
found_none false n count e = refl

found-other : (f : Bool) (n count : ℕ) → (found f n count).number ≡ 15 → ⊥
found-other true n count e = omega arith
found-other false n count e = omega arith

module _ (card line : List ℕ) (chart_room room : ℕ) where
  -- A number v that is no refusal before the chart's own two.
  reached : (v : ℕ) → (input_number card line ≡ v → input_number card line ≡ 0) → (v ≡ 31 → ⊥) → (v ≡ 32 → ⊥)
      → (read_answer card line chart_room room).number ≡ v
      → (input_number card line ≡ 0) × RoomEnough card line chart_room room
      × ((found (start_found card line) (words_in line) (length (derivable card line))).number ≡ v)
  reached v f h k e =
      let n = words_in line in
      let all = derivable card line in
      let (e₀, e₁, e₂) = decided (eqb (input_number card line) 0) (ltb room (plan_room n)) (input_number card line) v
      (chart_answer n chart_room all) (λ x. eq-eqb (input_number card line) 0 (f x)) k e in
      let (e₃, e₄) = charted (outnumber all chart_room) (start_found card line) n (length all) v h e₂ in
      (eqb-true (input_number card line) 0 e₀, record { plan_fits = ltb-false _ _ e₁; chart_fits = ltb-false _ _ e₃ }, e₄)

  -- "Read" comes with a derivation.
  pub read-derivation : (read_answer card line chart_room room).number ≡ 0 → HasDerivation card line
  read-derivation e =
      let (_, _, e') = reached 0 (λ x. x) (omega arith) (omega arith) e in
      found-derivation card line (found-zero (start_found card line) _ _ e')

  -- A line that gets 25 has none, whatever room was lent.
  pub no-reading : (read_answer card line chart_room room).number ≡ 25 → HasDerivation card line → ⊥
  no-reading e d =
      let (_, _, e') = reached 25 (λ x. absurd (input-other card line x)) (omega arith) (omega arith) e in
      false≢true (sym (found_none (start_found card line) _ _ e') ∙ derivation-found card line d)

  -- No line gets 15.
  pub read-never-15 : (read_answer card line chart_room room).number ≡ 15 → ⊥
  read-never-15 e =
      let (_, _, e') = reached 15 (λ x. absurd (input-never-15 card line x)) (omega arith) (omega arith) e in
      found-other (start_found card line) _ _ e'

  -- An accepted card, a line of 1 to 24 known words, room enough and a derivation: it is read.
  pub derivation-read : input_number card line ≡ 0 → RoomEnough card line chart_room room → HasDerivation card line
      → read_answer card line chart_room room
      ≡ record { number = 0; words = words_in line; items = length (derivable card line); steps = plan_steps (words_in line) }
  derivation-read e enough d =
      simp (eq-eqb _ _ e, le-ltb _ _ enough.plan_fits, le-ltb _ _ enough.chart_fits, derivation-found card line d)

  -- So the answer of a line that is read is known whole, and its card, its line and both rooms were passed.
  pub read_whole : (read_answer card line chart_room room).number ≡ 0
      → (input_number card line ≡ 0)
      × (read_answer card line chart_room room
      ≡ record { number = 0; words = words_in line; items = length (derivable card line); steps = plan_steps (words_in line) })
  read_whole e =
      let (i, enough, _) = reached 0 (λ x. x) (omega arith) (omega arith) e in
      (i, derivation-read i enough (read-derivation e))
