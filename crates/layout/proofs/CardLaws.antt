-- Every rule that a card writes has one side, whatever its bytes: by the table of kinds. So what holds of plans under one-sided rules holds
-- under every card. And the names of a rule are bytes: A on the left; B and C on the right, but for a word production, which has none.
use Prim.Native.Nat.{ℕ, ◌+◌}
use mathlib.Core.Path.{◌≡◌, refl}
use mathlib.Core.Bool.{Bool, true, false, cond}
use mathlib.Core.List.{List, [], ◌∷◌, map}
use lib.Dec.{eqb}
use Rattle.grammar.specs.Lists.{Stands, here, there}
use Rattle.grammar.specs.Names.{left_name, right_names}
use Rattle.grammar.specs.Rewriting.{Rule, OneSide, is_word, is_first, is_last, OneSided}
use Rattle.layout.specs.Bytes.{byte_at, counted}
use Rattle.layout.specs.Card.{rule_of, production, production_at, production_count, grammar_of}

either : (P : Rule → Type 0) (b : Bool) {x y : Rule} → P x → P y → P (cond b x y)
either P true x y = x
either P false x y = y

rule-one-side : (kind A B C g : ℕ) → OneSide (rule_of kind A B C g)
rule-one-side kind A B C g =
    either OneSide (eqb kind 0) is_word
    (either OneSide (eqb kind 1) is_first
    (either OneSide (eqb kind 2) is_last
    (either OneSide (eqb kind 3) is_first
    (either OneSide (eqb kind 4) is_last (either OneSide (eqb kind 5) is_first is_last)))))

pub left-byte : (kind A B C g : ℕ) → left_name (rule_of kind A B C g) ≡ A
left-byte kind A B C g =
    let P : Rule → Type 0 = λ r. left_name r ≡ A in
    either P (eqb kind 0) refl
    (either P (eqb kind 1) refl
    (either P (eqb kind 2) refl (either P (eqb kind 3) refl (either P (eqb kind 4) refl (either P (eqb kind 5) refl refl)))))

pub right-bytes : (kind A B C g : ℕ) → right_names (rule_of kind A B C g) ≡ cond (eqb kind 0) [] (B ∷ C ∷ [])
right-bytes kind A B C g = by (eqb kind 0) refl
  where
    P : Rule → Type 0
    P r = right_names r ≡ B ∷ C ∷ []

    by : (b : Bool) → eqb kind 0 ≡ b → right_names (rule_of kind A B C g) ≡ cond b [] (B ∷ C ∷ [])
    by true e = rw e
    by false e =
        rw e
        (either P (eqb kind 1) refl
        (either P (eqb kind 2) refl (either P (eqb kind 3) refl (either P (eqb kind 4) refl (either P (eqb kind 5) refl refl)))))

production-one-side : (card : List ℕ) (m : ℕ) → OneSide (production card m)
production-one-side card m = let at = production_at card m in
    rule-one-side (byte_at card at) (byte_at card (at + 1)) (byte_at card (at + 2)) (byte_at card (at + 3)) (byte_at card (at + 4))

rules-one-side : (card ms : List ℕ) (p : ℕ) (r : Rule) → Stands (map (production card) ms) p r → OneSide r
rules-one-side card (m ∷ ms) p r here = production-one-side card m
rules-one-side card (m ∷ ms) p r (there s) = rules-one-side card ms _ r s
rules-one-side card [] p r h = elim h [ ]

pub card-one-sided : (card : List ℕ) → OneSided (grammar_of card)
card-one-sided card p r s = rules-one-side card (counted 0 (production_count card)) p r s
