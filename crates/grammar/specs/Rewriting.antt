-- Document 01, "The card" (what a production means) and "Line and rewriting".
-- Rules are stated with any number of sides before and after the dependent; the card's kinds are the rules with one side.
use Rattle.std.specs.Prelude.{ℕ, List, [], ◌∷◌, ◌++◌, map}
use Rattle.grammar.specs.Lists.{Stands}

-- What a rule does with the stack: the left side's top index g goes, the stack stays, or g goes on top of it.
pub data Action : Type 0 where
  Take : ℕ → Action
  Keep : Action
  Give : ℕ → Action

-- `Lexical A w`: A[] → word w. `Spine A a before D after`: A → before D after, where D, the dependent, has the rest of the
-- stack as the action a leaves it, and every nonterminal of `before` and `after`, a side, has an empty stack.
pub data Rule : Type 0 where
  Lexical : (A w : ℕ) → Rule
  Spine : (A : ℕ) (a : Action) (before : List ℕ) (D : ℕ) (after : List ℕ) → Rule

-- `Acts a s t`: with the left side's stack s the dependent's is t. The head of a list is the top of the stack, which document
-- 01 writes at the right; s and t are of any length.
pub data Acts : Action → List ℕ → List ℕ → Type 0 where
  takes : {g : ℕ} {s : List ℕ} → Acts (Take g) (g ∷ s) s
  keeps : {s : List ℕ} → Acts Keep s s
  gives : {g : ℕ} {s : List ℕ} → Acts (Give g) s (g ∷ s)

-- What a sentential form is a list of.
pub data Symbol : Type 0 where
  word : (w : ℕ) → Symbol
  nonterminal : (A : ℕ) (s : List ℕ) → Symbol

abbrev pub sides : List ℕ → List Symbol
sides [] = []
sides (B ∷ Bs) = nonterminal B [] ∷ sides Bs

-- `Replaces g p X r`: production number p of the grammar g fits the nonterminal X and its stack, and has the right side r there.
pub data Replaces (g : List Rule) : ℕ → Symbol → List Symbol → Type 0 where
  lexical : {p A w : ℕ} → Stands g p (Lexical A w) → Replaces g p (nonterminal A []) (word w ∷ [])
  spine : {p A D : ℕ} {a : Action} {before after s t : List ℕ} → Stands g p (Spine A a before D after) → Acts a s t
      → Replaces g p (nonterminal A s) (sides before ++ (nonterminal D t ∷ sides after))

-- One step: one nonterminal, wherever it stands, is replaced.
pub data Step (g : List Rule) : List Symbol → List Symbol → Type 0 where
  here : {p : ℕ} {X : Symbol} {r f : List Symbol} → Replaces g p X r → Step g (X ∷ f) (r ++ f)
  later : {X : Symbol} {f f' : List Symbol} → Step g f f' → Step g (X ∷ f) (X ∷ f')

-- Any number of steps.
pub data Steps (g : List Rule) : List Symbol → List Symbol → Type 0 where
  done : {f : List Symbol} → Steps g f f
  next : {f f' f'' : List Symbol} → Step g f f' → Steps g f' f'' → Steps g f f''

-- Nonterminal 0 with an empty stack.
abbrev pub start : Symbol
start = nonterminal 0 []

-- A derivation of the words: steps, however many and with stacks of any depth, from the start to exactly these words.
abbrev pub Derivation : List Rule → List ℕ → Type 0
Derivation g words = Steps g (start ∷ []) (map word words)

-- The rules that a card can write: a word, or two elements, one of them the side.
pub data OneSide : Rule → Type 0 where
  is_word : {A w : ℕ} → OneSide (Lexical A w)
  is_first : {A B D : ℕ} {a : Action} → OneSide (Spine A a (B ∷ []) D [])
  is_last : {A B D : ℕ} {a : Action} → OneSide (Spine A a [] D (B ∷ []))

abbrev pub OneSided : List Rule → Type 0
OneSided g = (p : ℕ) (r : Rule) → Stands g p r → OneSide r
