-- The rules of an accepted card: their nonterminals, words and indices are counted. A production that passes its test is taken apart by its
-- kind, of which there are seven.
use Prim.Native.Nat.{ℕ, zero, suc, ◌+◌, ◌≤◌, ◌<◌}
use native.Mathlib.Omega.{arith}
use mathlib.Core.Path.{◌≡◌, sym, subst}
use mathlib.Core.Bool.{Bool, true}
use mathlib.Core.List.{List, [], ◌∷◌}
use lib.Dec.{eqb, leb, ltb}
use borrow.Author.Tests.{leb-true, ltb-true}
use Rattle.grammar.specs.Lists.{Stands}
use Rattle.grammar.specs.Rewriting.{Rule, Lexical, Spine, Action, Take, Keep, Give}
use Rattle.layout.specs.Bytes.{byte_at}
use Rattle.layout.specs.Card.{nonterminal_count, word_count, index_count, production_count, production_at, production, grammar_of, rule_of}
use Rattle.layout.specs.Card.{pair_fits, kind_fits, production_fits, card_number}
use Rattle.layout.specs.Rules.{ActionCounted, NamesCounted, RuleCounted}
use Rattle.layout.proofs.TestLaws.{both, limits, below_all}
use Rattle.layout.proofs.Accepting.{accepted-card}
use Rattle.layout.proofs.CountedLaws.{stands-below, rule-there}

-- A pair's three nonterminals, and its index.
pub three : (card : List ℕ) (A B C : ℕ) (t : Bool) → pair_fits card A B C t ≡ true
    → (A < nonterminal_count card) × (B < nonterminal_count card) × (C < nonterminal_count card) × (t ≡ true)
three card A B C t e =
    let N = nonterminal_count card in
    let (a, f) = both (ltb A N) _ e in
    let (b, g) = both (ltb B N) _ f in
    let (c, h) = both (ltb C N) t g in
    (ltb-true A N a, ltb-true B N b, ltb-true C N c, h)

kind-counted : (card : List ℕ) (kind A B C g : ℕ) → kind_fits card kind A B C g ≡ true
    → RuleCounted (nonterminal_count card) (word_count card) (index_count card) (rule_of kind A B C g)
kind-counted card zero A B C g e =
    let (a, f) = both (ltb A (nonterminal_count card)) _ e in
    let (b, _) = both (ltb B (word_count card)) _ f in
    (ltb-true A (nonterminal_count card) a, ltb-true B (word_count card) b)
kind-counted card (suc zero) A B C g e =
    let (a, b, c, t) = three card A B C _ e in (a, limits 1 (index_count card) g t, (b, tt), c, tt)
kind-counted card (suc (suc zero)) A B C g e =
    let (a, b, c, t) = three card A B C _ e in (a, limits 1 (index_count card) g t, tt, b, (c, tt))
kind-counted card (suc (suc (suc zero))) A B C g e = let (a, b, c, t) = three card A B C _ e in (a, tt, (b, tt), c, tt)
kind-counted card (suc (suc (suc (suc zero)))) A B C g e = let (a, b, c, t) = three card A B C _ e in (a, tt, tt, b, (c, tt))
kind-counted card (suc (suc (suc (suc (suc zero))))) A B C g e =
    let (a, b, c, t) = three card A B C _ e in (a, limits 1 (index_count card) g t, (b, tt), c, tt)
kind-counted card (suc (suc (suc (suc (suc (suc zero)))))) A B C g e =
    let (a, b, c, t) = three card A B C _ e in (a, limits 1 (index_count card) g t, tt, b, (c, tt))
kind-counted card (suc (suc (suc (suc (suc (suc (suc k))))))) A B C g e =
    let kind = suc (suc (suc (suc (suc (suc (suc k)))))) in
    absurd (omega (arith, leb-true kind 6 (both (leb kind 6) _ e).0))

module _ (card : List ℕ) (accepted : card_number card ≡ 0) where
  pub production-counted : (m : ℕ) → m < production_count card
      → RuleCounted (nonterminal_count card) (word_count card) (index_count card) (production card m)
  production-counted m h =
      let at = production_at card m in
      let fits = below_all (production_count card) (production_fits card) (accepted-card card accepted).table m h in
      kind-counted card (byte_at card at) (byte_at card (at + 1)) (byte_at card (at + 2)) (byte_at card (at + 3)) (byte_at card (at + 4))
      (both _ (eqb (byte_at card (at + 5)) 0) fits).0

  pub rule-counted : {p : ℕ} {r : Rule} → Stands (grammar_of card) p r
      → RuleCounted (nonterminal_count card) (word_count card) (index_count card) r
  rule-counted {p} s =
      subst (RuleCounted (nonterminal_count card) (word_count card) (index_count card)) (sym (rule-there card s))
      (production-counted p (stands-below (production card) (production_count card) p s))

-- Among more nonterminals, words and indices.
names_more : {N N' : ℕ} → N ≤ N' → (Bs : List ℕ) → NamesCounted N Bs → NamesCounted N' Bs
names_more h [] f = tt
names_more h (B ∷ Bs) f = (omega (arith, h, f.0), names_more h Bs f.1)

action-more : {X X' : ℕ} → X ≤ X' → (a : Action) → ActionCounted X a → ActionCounted X' a
action-more h (Take γ) f = (f.0, omega (arith, h, f.1))
action-more h Keep f = tt
action-more h (Give γ) f = (f.0, omega (arith, h, f.1))

pub rule-more : {N N' W W' X X' : ℕ} → N ≤ N' → W ≤ W' → X ≤ X' → (r : Rule) → RuleCounted N W X r → RuleCounted N' W' X' r
rule-more n w x (Lexical A v) f = (omega (arith, n, f.0), omega (arith, w, f.1))
rule-more n w x (Spine A a before D after) f =
    (omega (arith, n, f.0), action-more x a f.1, names_more n before f.2, omega (arith, n, f.3), names_more n after f.4)
