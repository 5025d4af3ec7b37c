-- Document 02, Paper 4, of cards: 42 is given to no card but one with a production that never applies, and a nursery's misspelled
-- number is found. What follows of such a production is told of all grammars in grammar/proofs/DeadNames.antt.
use Prim.Native.Nat.{ℕ, ◌<◌}
use mathlib.Core.Path.{◌≡◌, refl, subst}
use mathlib.Core.List.{List}
use lib.ListN.{take, set}
use Rattle.grammar.specs.Names.{live_rule}
use Rattle.grammar.proofs.ListLaws.{in-stands, not-all-of}
use Rattle.grammar.proofs.DeadNames.{NeverApplies, never-applies}
use Rattle.layout.specs.Card.{header_length, production_count, production, grammar_of, names_live, card_refusals, card_number}
use Rattle.layout.specs.Tomato.{tomato_card}
use Rattle.layout.proofs.RefusalLaws.{last-fails}
use Rattle.layout.proofs.CountedLaws.{rule-there, stands-below}

pub record DeadProduction (card : List ℕ) : Type 1 where
  pub number : ℕ
  pub counted : number < production_count card
  pub never : NeverApplies (grammar_of card) number (production card number)

pub refused-42 : (card : List ℕ) → card_number card ≡ 42 → DeadProduction card
refused-42 card e =
    let g = grammar_of card in
    let (r, m, dead) = not-all-of (live_rule g) g (last-fails (take 5 (card_refusals card)) (names_live card) 41 refl e) in
    let (p, s) = in-stands m in
    record {
      number = p;
      counted = stands-below (production card) (production_count card) p s;
      never = subst (NeverApplies g p) (rule-there card s) (never-applies g p r s dead);
    }

-- The tomato card with a seventh nonterminal, which is on no left; what is written at a place.
abbrev written : ℕ → ℕ → List ℕ
written at x = set (set tomato_card 4 7) at x

record Misspelled : Type 0 where
  -- a name that stands nowhere is not dead
  nowhere : card_number (set tomato_card 4 7) ≡ 0
  -- production 10, T[..w] → T[..] H[], with 6 for its side, and for its dependent; production 5, S[..] → R[] S[..c], the same
  last_side : card_number (written 135 6) ≡ 42
  last_dependent : card_number (written 134 6) ≡ 42
  first_side : card_number (written 104 6) ≡ 42
  first_dependent : card_number (written 105 6) ≡ 42
  -- M stands on the left of production 3 alone, a word production: with another name there it is dead
  no_word : card_number (set tomato_card 91 5) ≡ 42
  -- and 16 comes first
  after16 : card_number (set (written 135 6) 137 1) ≡ 16

misspelled : Misspelled
unfolding header_length
misspelled =
    record {
      nowhere = refl;
      last_side = refl;
      last_dependent = refl;
      first_side = refl;
      first_dependent = refl;
      no_word = refl;
      after16 = refl;
    }
