-- Document 02, Paper 4: the names on the two sides of a rule. A name is dead where it stands on the right of some rule and on the left of
-- none. A word production counts on the left; on its right it has a word, which is no nonterminal.
use Rattle.std.specs.Prelude.{ℕ, Bool, List, [], ◌∷◌, ◌++◌, eqb}
use Rattle.grammar.specs.Lists.{all_of, some_of}
use Rattle.grammar.specs.Rewriting.{Rule, Lexical, Spine}

abbrev pub left_name : Rule → ℕ
left_name (Lexical A w) = A
left_name (Spine A a before D after) = A

-- The sides and the dependent, in their order.
abbrev pub right_names : Rule → List ℕ
right_names (Lexical A w) = []
right_names (Spine A a before D after) = before ++ (D ∷ after)

-- Does X stand on the left of the rule; and of some rule?
abbrev pub is_left : ℕ → Rule → Bool
is_left X r = eqb (left_name r) X

abbrev pub on_left : List Rule → ℕ → Bool
on_left g X = some_of (is_left X) g

-- Has the rule, among the rules g, no dead name on its right; and has no rule of g one?
abbrev pub live_rule : List Rule → Rule → Bool
live_rule g r = all_of (on_left g) (right_names r)

abbrev pub no_dead_name : List Rule → Bool
no_dead_name g = all_of (live_rule g) g
