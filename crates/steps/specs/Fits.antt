-- What the deduction steps ask of their parts: an action and a rule whose words and indices are within a card's limits, and whose
-- nonterminals are counted.
use Rattle.std.specs.Prelude.{ℕ}
use Rattle.grammar.specs.Rewriting.{Rule, Action}
use Rattle.layout.specs.Card.{max_words, max_indices}
use Rattle.layout.specs.Rules.{ActionCounted, RuleCounted}

abbrev pub ActionFits : Action → Type 0
ActionFits a = ActionCounted max_indices a

abbrev pub RuleFits : ℕ → Rule → Type 0
RuleFits N r = RuleCounted N max_words max_indices r
