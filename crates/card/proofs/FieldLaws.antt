-- The six bytes of production m, as they were read: they fit where the production does, they are its rule, its names are among them, and where
-- they fit each name is small enough for a set.
use Prim.Native.Nat.{ℕ, ◌<◌, ◌≤◌}
use native.Mathlib.Omega.{arith}
use mathlib.Core.Path.{◌≡◌, refl, sym, ◌∙◌, ap}
use mathlib.Core.Bool.{Bool, true, false, cond}
use mathlib.Core.List.{List}
use lib.Dec.{eqb, leb, ltb}
use borrow.Author.Tests.{ltb-true, eqb-true}
use Rattle.grammar.specs.Names.{left_name, right_names}
use Rattle.layout.specs.Card.{max_nonterminals, nonterminal_count, production_at, production, rule_of, kind_fits, production_fits, word_production_fits, pair_fits, index_fits}
use Rattle.layout.proofs.TestLaws.{both}
use Rattle.layout.proofs.RuleLaws.{three}
use Rattle.layout.proofs.CardLaws.{left-byte, right-bytes}
use Rattle.card.specs.declared.productions.Fields.{Fields}
use Rattle.card.specs.Productions.{FieldsAt, fields_fit}
use Rattle.card.specs.Names.{right_bytes}

module _ {card : List ℕ} (m : ℕ) {at : ℕ} {f : Fields} (there : at ≡ production_at card m) (read : FieldsAt card at f) where
  pub fields-same : fields_fit card f ≡ production_fits card m
  fields-same = rw (read.kind, read.a, read.b, read.c, read.g, read.last, there)

  pub fields-rule : rule_of f.kind f.a f.b f.c f.g ≡ production card m
  fields-rule = rw (read.kind, read.a, read.b, read.c, read.g, there)

  pub left-same : f.a ≡ left_name (production card m)
  left-same = sym (left-byte f.kind f.a f.b f.c f.g) ∙ ap left_name fields-rule

  pub right-same : right_bytes f.kind f.b f.c ≡ right_names (production card m)
  right-same = sym (right-bytes f.kind f.a f.b f.c f.g) ∙ ap right_names fields-rule

-- The limit of nonterminals is below the width of a set.
module _ (card : List ℕ) (few : nonterminal_count card ≤ max_nonterminals) where
  kind-names : (kind A B C g : ℕ) → cond (eqb kind 0) (word_production_fits card A B C g) (pair_fits card A B C (index_fits card kind g)) ≡ true
      → (A < 32) × ((kind ≡ 0 → ⊥) → (B < 32) × (C < 32))
  kind-names kind A B C g h = by (eqb kind 0) refl h
    where
      by : (b : Bool) → eqb kind 0 ≡ b → cond b (word_production_fits card A B C g) (pair_fits card A B C (index_fits card kind g)) ≡ true
          → (A < 32) × ((kind ≡ 0 → ⊥) → (B < 32) × (C < 32))
      by true e t =
          let (a, _) = both (ltb A (nonterminal_count card)) _ t in
          (omega (arith, ltb-true A (nonterminal_count card) a), λ other. absurd (other (eqb-true kind 0 e)))
      by false e t =
          let (a, b, c, _) = three card A B C _ t in (omega arith, λ other. (omega arith, omega arith))

  pub fields-small : (f : Fields) → fields_fit card f ≡ true → (f.a < 32) × ((f.kind ≡ 0 → ⊥) → (f.b < 32) × (f.c < 32))
  fields-small f h =
      let (fits, _) = both (kind_fits card f.kind f.a f.b f.c f.g) (eqb f.last 0) h in
      let (_, by_kind) = both (leb f.kind 6) _ fits in
      kind-names f.kind f.a f.b f.c f.g by_kind
