-- The names of a card's productions, as sets of numbers: those on the left and those on the right of the first m.
use Rattle.std.specs.Prelude.{ℕ, zero, suc, ◌≡◌, Bool, cond, List, [], ◌∷◌, eqb, Result, IfOk}
use Rattle.bits.specs.Bits.{with_number, with_numbers, is_part}
use Rattle.grammar.specs.Names.{left_name, right_names}
use Rattle.layout.specs.Card.{production, productions_fit, names_live}
use Rattle.card.specs.declared.names.Names.{Names}
use Rattle.refusals.specs.declared.Refusal.{Refusal}
use Rattle.refusals.specs.Number.{number_told}

abbrev pub lefts_below : List ℕ → ℕ → ℕ
lefts_below card zero = 0
lefts_below card (suc m) = with_number (lefts_below card m) (left_name (production card m))

abbrev pub rights_below : List ℕ → ℕ → ℕ
rights_below card zero = 0
rights_below card (suc m) = with_numbers (rights_below card m) (right_names (production card m))

-- The nonterminals among the bytes B and C of a production.
abbrev pub right_bytes : ℕ → ℕ → ℕ → List ℕ
right_bytes kind b c = cond (eqb kind 0) [] (b ∷ c ∷ [])

-- The names with those of one more production.
pub record NamesWith (before : Names) (kind a b c : ℕ) (after : Names) : Type 0 where
  pub left : after.left ≡ with_number before.left a
  pub right : after.right ≡ with_numbers before.right (right_bytes kind b c)

-- Is every name on the right on the left too?
abbrev pub is_live : Names → Bool
is_live names = is_part names.right names.left

-- What the productions' check finds: 16 where one does not fit, and else the names, by which 42 is decided.
pub record NamesChecked (card : List ℕ) (r : Result Names Refusal) : Type 0 where
  pub number : number_told r ≡ cond (productions_fit card) 0 16
  pub live : IfOk r (λ names. is_live names ≡ names_live card)
