-- The rules of an accepted card: the one at a place, how many there are, that their names are counted, and that no kind is above 6.
-- The rules are a list that is made place by place, so the first m + 1 are the first m and one more.
use Prim.Native.Nat.{ℕ, zero, suc, ◌+◌, ◌≤◌, ◌<◌}
use native.Mathlib.Nat.{zero-add}
use native.Mathlib.Omega.{arith}
use native.Mathlib.Decide.{dec_lt, ℕ_discrete}
use mathlib.Core.Path.{◌≡◌, refl, sym, ◌∙◌, ap}
use mathlib.Core.Logic.{◌⊎◌, inl, inr}
use mathlib.Core.List.{List, map}
use mathlib.Core.Option.{none, some}
use lib.Dec.{eqb, leb}
use lib.ListN.{length, get_elem?}
use borrow.Author.Tests.{leb-true}
use Rattle.grammar.specs.Rewriting.{Rule}
use Rattle.grammar.proofs.StandsLaws.{none-some, some_same}
use Rattle.layout.specs.Bytes.{byte_at, counted}
use Rattle.layout.specs.Card.{max_nonterminals, max_words, max_indices, max_productions, card_number, production_count, production_at, production, production_fits}
use Rattle.layout.specs.Rules.{RuleCounted}
use Rattle.layout.proofs.Accepting.{accepted-card, accepted-counts}
use Rattle.layout.proofs.CountedLaws.{table-length}
use Rattle.layout.proofs.RuleLaws.{production-counted, rule-more}
use Rattle.layout.proofs.TestLaws.{both, below_all}
use Rattle.records.proofs.RoomLaws.{counted-at}

-- The first m rules of a card: how many, the one at a place, and what is there.
abbrev pub first_rules : List ℕ → ℕ → List Rule
first_rules card m = map (production card) (counted 0 m)

pub rules-length : (card : List ℕ) (m : ℕ) → length (first_rules card m) ≡ m
rules-length card m = table-length (production card) 0 m

pub rule-there : (card : List ℕ) (m p : ℕ) → p < m → get_elem? (first_rules card m) p ≡ some (production card p)
rule-there card m p h = counted-at (production card) 0 m p h ∙ ap (λ (k : ℕ). some (production card k)) (zero-add p)

counted-past : {A : Type 0} (f : ℕ → A) (k n p : ℕ) → n ≤ p → get_elem? (map f (counted k n)) p ≡ none
counted-past f k zero p h = refl
counted-past f k (suc n) zero h = absurd (omega arith)
counted-past f k (suc n) (suc p) h = counted-past f (suc k) n p (omega arith)

pub rule-in : (card : List ℕ) (m p : ℕ) {r : Rule} → get_elem? (first_rules card m) p ≡ some r → (p < m) × (r ≡ production card p)
rule-in card m p e = elim (dec_lt p m) [
  | yes h ↦ (h, some_same (sym e ∙ rule-there card m p h))
  | no h ↦ absurd (none-some (sym (counted-past (production card) 0 m p (omega arith)) ∙ e))
]

-- A rule of the first p + 1: one of those before, or the last.
pub last-rule : (card : List ℕ) (p q : ℕ) {r : Rule} → get_elem? (first_rules card (p + 1)) q ≡ some r
    → ((q < p) × (get_elem? (first_rules card p) q ≡ some r)) ⊎ ((q ≡ p) × (r ≡ production card p))
last-rule card p q e =
    let (h, is) = rule-in card (p + 1) q e in
    elim (ℕ_discrete q p) [
      | yes s ↦ inr (s, is ∙ ap (production card) s)
      | no d ↦ inl (omega arith, rule-there card p q (omega arith) ∙ ap some (sym is))
    ]

-- What an accepted card tells of them.
module _ (card : List ℕ) (accepted : card_number card ≡ 0) where
  pub few-rules : production_count card ≤ max_productions
  few-rules = (accepted-counts card accepted).few_productions

  pub rule-named : (p : ℕ) → p < production_count card → RuleCounted max_nonterminals max_words max_indices (production card p)
  rule-named p h =
      let few = accepted-counts card accepted in
      rule-more few.few_nonterminals few.few_words few.few_indices (production card p) (production-counted card accepted p h)

  pub kind-most : (p : ℕ) → p < production_count card → byte_at card (production_at card p) ≤ 6
  kind-most p h =
      let at = production_at card p in
      let fits = below_all (production_count card) (production_fits card) (accepted-card card accepted).table p h in
      let kind = (both _ (eqb (byte_at card (at + 5)) 0) fits).0 in
      leb-true (byte_at card at) 6 (both (leb (byte_at card at) 6) _ kind).0
