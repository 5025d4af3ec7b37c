-- What the card's productions, as the code has them, mean as rules of a grammar.
use Rattle.std.specs.Prelude.{ℕ, ◌+◌, ◌≡◌, Bool, ◌&&◌, List, [], ◌∷◌, eqb}
use Rattle.grammar.specs.Rewriting as grammar
use Rattle.layout.specs.Bytes.{byte_at}
use Rattle.layout.specs.Card.{kind_fits}
use Rattle.card.specs.declared.Action.{Action}
use Rattle.card.specs.declared.Action.TheVariants.{Take, Keep, Give}
use Rattle.card.specs.declared.Production.{Production}
use Rattle.card.specs.declared.Production.TheVariants.{Word, SideFirst, SideLast}
use Rattle.card.specs.declared.productions.Fields.{Fields}

abbrev pub action_from : Action → grammar.Action
action_from (Take g) = grammar.Take g
action_from Keep = grammar.Keep
action_from (Give g) = grammar.Give g

abbrev pub rule_from : Production → grammar.Rule
rule_from (Word left word) = grammar.Lexical left word
rule_from (SideFirst left action side dependent) = grammar.Spine left (action_from action) (side ∷ []) dependent []
rule_from (SideLast left action dependent side) = grammar.Spine left (action_from action) [] dependent (side ∷ [])

-- The six bytes at a place.
pub record FieldsAt (card : List ℕ) (at : ℕ) (f : Fields) : Type 0 where
  pub kind : f.kind ≡ byte_at card at
  pub a : f.a ≡ byte_at card (at + 1)
  pub b : f.b ≡ byte_at card (at + 2)
  pub c : f.c ≡ byte_at card (at + 3)
  pub g : f.g ≡ byte_at card (at + 4)
  pub last : f.last ≡ byte_at card (at + 5)

-- Do they fit the table of kinds?
abbrev pub fields_fit : List ℕ → Fields → Bool
fields_fit card f = kind_fits card f.kind f.a f.b f.c f.g && eqb f.last 0
