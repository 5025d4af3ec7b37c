-- Document 01, "The plan": steps with their stretches, what a leftmost derivation of the line is, and the test that Check makes.
use Rattle.std.specs.Prelude.{ℕ, suc, Bool, true, false, List, [], ◌∷◌, ◌++◌, map, eqb}
use Rattle.std.proofs.Math.Option.{Option, none, some}
use Rattle.std.proofs.Math.ListN.{get_elem?}
use Rattle.grammar.specs.Rewriting.{Rule, Lexical, Spine, Action, Take, Keep, Give, Symbol, word, nonterminal, sides, Replaces, start}

-- Production p replaces a nonterminal that comes to the words from i to j; the first element's stretch ends at the split k.
pub data PlanStep : Type 0 where
  plan_step : (p i k j : ℕ) → PlanStep

-- Its production.
abbrev pub production_in : PlanStep → ℕ
production_in (plan_step p i k j) = p

abbrev pub first_of : List Symbol → List Symbol
first_of [] = []
first_of (X ∷ f) = X ∷ []

abbrev pub others_of : List Symbol → List Symbol
others_of [] = []
others_of (X ∷ f) = f

-- `Yields g at f i j plan`: the steps of the plan, in order, each replacing the leftmost nonterminal, take the form f to the
-- words from i to j; and each step has the stretch of the nonterminal that it replaces, and its split. The right side of a word
-- production has one element, the word, so k = j there.
pub data Yields (g : List Rule) (at : ℕ → ℕ → Type 0) : List Symbol → ℕ → ℕ → List PlanStep → Type 0 where
  nothing : {i : ℕ} → Yields g at [] i i []
  reads : {w i j : ℕ} {f : List Symbol} {plan : List PlanStep} → at i w → Yields g at f (suc i) j plan
      → Yields g at (word w ∷ f) i j plan
  replaces : {p i k m j : ℕ} {X : Symbol} {r f : List Symbol} {first others rest : List PlanStep} → Replaces g p X r
      → Yields g at (first_of r) i k first → Yields g at (others_of r) k m others → Yields g at f m j rest
      → Yields g at (X ∷ f) i j (plan_step p i k m ∷ ((first ++ others) ++ rest))

-- The plan is a leftmost derivation of the line of n words.
abbrev pub LeftmostDerivation : List Rule → (ℕ → ℕ → Type 0) → ℕ → List PlanStep → Type 0
LeftmostDerivation g at n plan = Yields g at (start ∷ []) 0 n plan

-- The same without stretches: production p replaces the first nonterminal of a form; and a list of productions does, one after
-- the other.
pub data LeftmostStep (g : List Rule) : ℕ → List Symbol → List Symbol → Type 0 where
  first : {p : ℕ} {X : Symbol} {r f : List Symbol} → Replaces g p X r → LeftmostStep g p (X ∷ f) (r ++ f)
  past_word : {p w : ℕ} {f f' : List Symbol} → LeftmostStep g p f f' → LeftmostStep g p (word w ∷ f) (word w ∷ f')

pub data LeftmostSteps (g : List Rule) : List Symbol → List ℕ → List Symbol → Type 0 where
  finish : {f : List Symbol} → LeftmostSteps g f [] f
  proceed : {p : ℕ} {f f' f'' : List Symbol} {ps : List ℕ} → LeftmostStep g p f f' → LeftmostSteps g f' ps f''
      → LeftmostSteps g f (p ∷ ps) f''

-- The test. The dependent's stack, where the action fits the left side's stack; the right side, where the production fits.
abbrev pub acted : Action → List ℕ → Option (List ℕ)
acted (Take γ) [] = none
acted (Take γ) (x ∷ s) = elim (eqb γ x) [ true ↦ some s | false ↦ none ]
acted Keep s = some s
acted (Give γ) s = some (γ ∷ s)

abbrev pub spine_right : List ℕ → ℕ → List ℕ → Option (List ℕ) → Option (List Symbol)
spine_right before D after none = none
spine_right before D after (some t) = some (sides before ++ (nonterminal D t ∷ sides after))

abbrev pub word_right : ℕ → List ℕ → Option (List Symbol)
word_right w [] = some (word w ∷ [])
word_right w (x ∷ s) = none

abbrev pub right_of : Rule → ℕ → List ℕ → Option (List Symbol)
right_of (Lexical A' w) A s = elim (eqb A' A) [ true ↦ word_right w s | false ↦ none ]
right_of (Spine A' a before D after) A s = elim (eqb A' A) [ true ↦ spine_right before D after (acted a s) | false ↦ none ]

abbrev pub right_side : Option Rule → ℕ → List ℕ → Option (List Symbol)
right_side none A s = none
right_side (some r) A s = right_of r A s

-- What is still to come: a symbol, or the place at which a stretch has to end.
pub data Pending : Type 0 where
  symbol : (X : Symbol) → Pending
  ends_at : (j : ℕ) → Pending

-- What is met next, from place i on, when words and ends are passed over: a word or an end that does not fit, the end of all at a
-- place, or a nonterminal.
pub data Settled : Type 0 where
  stuck : Settled
  finished : (i : ℕ) → Settled
  opened : (i A : ℕ) (s : List ℕ) (rest : List Pending) → Settled

abbrev pub settle : (ℕ → ℕ → Bool) → List Pending → ℕ → Settled
settle at [] i = finished i
settle at (symbol (word w) ∷ rest) i = elim (at i w) [ true ↦ settle at rest (suc i) | false ↦ stuck ]
settle at (symbol (nonterminal A s) ∷ rest) i = opened i A s rest
settle at (ends_at j ∷ rest) i = elim (eqb i j) [ true ↦ settle at rest i | false ↦ stuck ]

abbrev pub ends_with : ℕ → Settled → Bool
ends_with n stuck = false
ends_with n (finished i) = eqb i n
ends_with n (opened i A s rest) = false

abbrev pub expanded : List Symbol → ℕ → ℕ → List Pending → List Pending
expanded r k j rest = map symbol (first_of r) ++ (ends_at k ∷ (map symbol (others_of r) ++ (ends_at j ∷ rest)))

-- Where the test stands: it has failed, or it goes on from place i with what is to come.
pub data State : Type 0 where
  failed : State
  going : (i : ℕ) (rest : List Pending) → State

-- One step, where the nonterminal that is met next starts at its i and has the right side r.
abbrev pub replaced_by : PlanStep → ℕ → List Pending → Option (List Symbol) → State
replaced_by st i rest none = failed
replaced_by (plan_step p i' k j) i rest (some r) = elim (eqb i' i) [ true ↦ going i (expanded r k j rest) | false ↦ failed ]

abbrev pub stepped : List Rule → PlanStep → Settled → State
stepped g st stuck = failed
stepped g st (finished i) = failed
stepped g st (opened i A s rest) = replaced_by st i rest (right_side (get_elem? g (production_in st)) A s)

abbrev pub runs : List Rule → (ℕ → ℕ → Bool) → ℕ → List PlanStep → State → Bool
runs g at n [] failed = false
runs g at n [] (going i rest) = ends_with n (settle at rest i)
runs g at n (st ∷ plan) failed = false
runs g at n (st ∷ plan) (going i rest) = runs g at n plan (stepped g st (settle at rest i))

-- Does the plan pass for a line of n words?
abbrev pub passes : List Rule → (ℕ → ℕ → Bool) → ℕ → List PlanStep → Bool
passes g at n plan = runs g at n plan (going 0 (symbol start ∷ []))
