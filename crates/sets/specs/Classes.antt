-- The sets by the card alone, told exactly: which productions each has.
use Rattle.std.specs.Prelude.{ℕ, ◌^◌, ◌≤◌, ◌<◌, ◌≡◌, Bool, ◌||◌, ◌&&◌, List, [], ◌∷◌, eqb, length, get_or, set}
use Rattle.std.proofs.Math.Option.{some}
use Rattle.std.specs.Int.Bits.{bit_or}
use Rattle.std.proofs.Math.ListN.{get_elem?}
use Rattle.grammar.specs.Rewriting.{Rule, Lexical, Spine}
use Rattle.layout.specs.Card.{max_nonterminals, max_words, max_indices}
use Rattle.layout.specs.Rules.{RuleCounted}
use Rattle.bits.specs.Bits.{bit_of, holds_bit}
use Rattle.sets.specs.Places.{first_side_at, first_dependent_at, second_side_at, second_dependent_at, word_at, class_count, OnlyClasses}

-- Is a rule one of those for the set at a place?
abbrev pub in_class : ℕ → Rule → Bool
in_class s (Lexical A w) = eqb s A || eqb s (word_at w)
in_class s (Spine A a (B ∷ before) D after) = eqb s A || (eqb s (first_side_at B) || eqb s (second_dependent_at D))
in_class s (Spine A a [] D (B ∷ after)) = eqb s A || (eqb s (first_dependent_at D) || eqb s (second_side_at B))
in_class s (Spine A a [] D []) = eqb s A || eqb s (first_dependent_at D)

-- Each set has just its productions. The names of the rules are counted, so that no two sets share a place.
pub record Classified (g : List Rule) (sets : List ℕ) : Type 0 where
  pub long : class_count ≤ length sets
  pub named : (p : ℕ) (r : Rule) → get_elem? g p ≡ some r → RuleCounted max_nonterminals max_words max_indices r
  pub exact : (s p : ℕ) (r : Rule) → s < class_count → get_elem? g p ≡ some r → holds_bit p (get_or sets s 0) ≡ in_class s r
  pub no_more : (s p : ℕ) → s < class_count → length g ≤ p → bit_of p (get_or sets s 0) ≡ 0

-- Production p into the set at a place; and into each set that its rule asks for.
abbrev pub with_bit : List ℕ → ℕ → ℕ → List ℕ
with_bit sets at p = set sets at (bit_or (get_or sets at 0) (2 ^ p))

pub record Joined (r : Rule) (p : ℕ) (old new : List ℕ) : Type 0 where
  pub elsewhere : OnlyClasses old new
  pub exact : (s q : ℕ) → s < class_count → holds_bit q (get_or new s 0) ≡ (holds_bit q (get_or old s 0) || (eqb q p && in_class s r))

-- A set that has every production of the sets for some words.
abbrev pub OfWords : List ℕ → ℕ → ℕ → Type 0
OfWords sets words set = (w p : ℕ) → bit_of w words ≡ 1 → bit_of p set ≡ 0 → bit_of p (get_or sets (word_at w) 0) ≡ 0
