-- What an accepted card gives the builder: that each production's rule keeps the counts, and that there are few.
-- All of it is by the card's acceptance.
use Prim.Native.Nat.{ℕ, ◌≤◌, ◌<◌}
use native.Mathlib.Omega.{arith}
use mathlib.Core.Path.{◌≡◌, refl, sym, subst}
use mathlib.Core.List.{List}
use lib.ListN.{length}
use Rattle.grammar.specs.Lists.{Stands}
use Rattle.grammar.specs.Rewriting.{Rule, Lexical, Spine}
use Rattle.grammar.proofs.StandsLaws.{stands-get_elem}
use Rattle.layout.specs.Card.{max_nonterminals, max_productions, card_number, nonterminal_count, production_count, production, grammar_of}
use Rattle.layout.proofs.Accepting.{accepted-counts}
use Rattle.layout.proofs.RuleLaws.{production-counted, rule-more}
use Rattle.chart_model.proofs.Exact.{left_of}
use Rattle.steps.specs.Fits.{RuleFits}
use Rattle.sets.proofs.CardRules.{rules-length, rule-in, few-rules}

module _ (card : List ℕ) (accepted : card_number card ≡ 0) where
  pub few-names : nonterminal_count card ≤ max_nonterminals
  few-names = (accepted-counts card accepted).few_nonterminals

  pub few-length : length (grammar_of card) ≤ max_productions
  few-length = omega (arith, few-rules card accepted, rules-length card (production_count card))

  module _ (p : ℕ) (h : p < production_count card) where
    pub production-fits : {N : ℕ} → N ≡ nonterminal_count card → RuleFits N (production card p)
    production-fits e =
        let few = accepted-counts card accepted in
        rule-more (omega arith) few.few_words few.few_indices (production card p) (production-counted card accepted p h)

  -- So the left side of every rule is counted.
  pub lefts-below : (p : ℕ) (r : Rule) → Stands (grammar_of card) p r → left_of r < nonterminal_count card
  lefts-below p r s =
      let (h, is) = rule-in card (production_count card) p (stands-get_elem s) in
      left-fits (nonterminal_count card) r (subst (RuleFits (nonterminal_count card)) (sym is) (production-fits p h refl))
    where
      left-fits : (N : ℕ) (r : Rule) → RuleFits N r → left_of r < N
      left-fits N (Lexical A w) f = f.0
      left-fits N (Spine A a before D after) f = f.0
