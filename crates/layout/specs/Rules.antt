-- What refusal 16 leaves of a rule: its nonterminals are below N, its words below W, and its indices are 1 to X.
use Rattle.std.specs.Prelude.{ℕ, ◌≤◌, ◌<◌, List, [], ◌∷◌}
use Rattle.grammar.specs.Rewriting.{Rule, Lexical, Spine, Action, Take, Keep, Give}

abbrev pub ActionCounted : ℕ → Action → Type 0
ActionCounted X (Take γ) = (1 ≤ γ) × (γ ≤ X)
ActionCounted X Keep = Unit {0}
ActionCounted X (Give γ) = (1 ≤ γ) × (γ ≤ X)

abbrev pub NamesCounted : ℕ → List ℕ → Type 0
NamesCounted N [] = Unit {0}
NamesCounted N (B ∷ Bs) = (B < N) × NamesCounted N Bs

abbrev pub RuleCounted : ℕ → ℕ → ℕ → Rule → Type 0
RuleCounted N W X (Lexical A w) = (A < N) × (w < W)
RuleCounted N W X (Spine A a before D after) = (A < N) × ActionCounted X a × NamesCounted N before × (D < N) × NamesCounted N after
