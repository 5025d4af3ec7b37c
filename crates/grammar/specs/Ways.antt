-- Ways down a chart: the plans that can be read off it, and the order by which the first of them is told. What functions inside ask of each
-- other; the promises speak of FirstPlan.antt alone.
use Rattle.std.specs.Prelude.{ℕ, suc, ◌≤◌, ◌<◌, ◌≡◌, List, [], ◌∷◌, ◌++◌, length}
use Rattle.grammar.specs.Lists.{Stands, NotAfter}
use Rattle.grammar.specs.Rewriting.{Rule, Lexical, Spine, Action, Take, Keep, Give}
use Rattle.grammar.specs.Items.{Foot, bare}
use Rattle.grammar.specs.ItemList.{Item, item}
use Rattle.grammar.specs.Plan.{PlanStep, plan_step}
use Rattle.grammar.specs.Chart.{Record, recorded, item_of, nowhere, Earlier, Results, onward}

-- The positions by which two steps of one production at one split are told apart. A take's dependent is none of them: whichever it is, the
-- spine goes on with what is pending.
abbrev pub compared : Action → ℕ → ℕ → ℕ → List ℕ
compared (Take γ) side dependent continuation = side ∷ []
compared Keep side dependent continuation = side ∷ dependent ∷ []
compared (Give γ) side dependent continuation = side ∷ dependent ∷ continuation ∷ []

-- `Moves g at c m e key`: the record e is one of the deduction steps from records below m, and key tells it from others: its production,
-- its split, and those positions.
pub data Moves (g : List Rule) (at : ℕ → ℕ → Type 0) (c : List Record) (m : ℕ) : Record → List ℕ → Type 0 where
  by_word : {p A w i : ℕ} → Stands g p (Lexical A w) → at i w
      → Moves g at c m (recorded (item A i (suc i) bare) p nowhere nowhere nowhere) (p ∷ suc i ∷ [])
  side_first : {p A B D i k j x y z : ℕ} {a : Action} {ψ φ : Foot} → Stands g p (Spine A a (B ∷ []) D [])
      → Earlier c m x (item B i k bare) → Earlier c m y (item D k j ψ) → Results c m a D k j ψ z φ
      → Moves g at c m (recorded (item A i j φ) p x y z) (p ∷ k ∷ compared a x y z)
  side_last : {p A B D i k j x y z : ℕ} {a : Action} {ψ φ : Foot} → Stands g p (Spine A a [] D (B ∷ []))
      → Earlier c m y (item D i k ψ) → Earlier c m x (item B k j bare) → Results c m a D i k ψ z φ
      → Moves g at c m (recorded (item A i j φ) p x y z) (p ∷ k ∷ compared a x y z)

-- Two items of one cell: the same nonterminal over the same stretch.
pub data OneCell : Item → Item → Type 0 where
  one_cell : {A i j : ℕ} {φ ψ : Foot} → OneCell (item A i j φ) (item A i j ψ)

-- The chart has first steps: the step recorded at a position comes after no step to an item that stands there, or later in its cell.
pub record FirstSteps (g : List Rule) (at : ℕ → ℕ → Type 0) (c : List Record) : Type 0 where
  pub first : {m m' : ℕ} {e e' f : Record} {key key' : List ℕ} → Stands c m e → Stands c m' e' → m ≤ m' → OneCell (item_of e) (item_of e')
      → Moves g at c (length c) e key → item_of f ≡ item_of e' → Moves g at c (length c) f key' → NotAfter ◌<◌ key key'

-- `Way g at c P m pending plan`: the plan goes down from the record at m with these positions pending, by steps that P allows at their
-- positions. Where a spine goes on stands a record of the dependent.
pub data Way (g : List Rule) (at : ℕ → ℕ → Type 0) (c : List Record) (P : ℕ → Record → Type 0) : ℕ → List ℕ → List PlanStep → Type 0 where
  word_way : {m p A w i : ℕ} → P m (recorded (item A i (suc i) bare) p nowhere nowhere nowhere) → Stands g p (Lexical A w) → at i w
      → Way g at c P m [] (plan_step p i (suc i) (suc i) ∷ [])
  first_way : {m p A B D i k j x y z : ℕ} {a : Action} {ψ φ χ : Foot} {pending : List ℕ} {beside rest plan : List PlanStep}
      → P m (recorded (item A i j φ) p x y z) → Stands g p (Spine A a (B ∷ []) D [])
      → Earlier c (length c) x (item B i k bare) → Earlier c (length c) y (item D k j ψ) → Results c (length c) a D k j ψ z φ
      → Earlier c (length c) (onward a y z pending).position (item D k j χ)
      → Way g at c P x [] beside → Way g at c P (onward a y z pending).position (onward a y z pending).pending rest
      → plan ≡ plan_step p i k j ∷ (beside ++ rest) → Way g at c P m pending plan
  last_way : {m p A B D i k j x y z : ℕ} {a : Action} {ψ φ χ : Foot} {pending : List ℕ} {beside rest plan : List PlanStep}
      → P m (recorded (item A i j φ) p x y z) → Stands g p (Spine A a [] D (B ∷ []))
      → Earlier c (length c) y (item D i k ψ) → Earlier c (length c) x (item B k j bare) → Results c (length c) a D i k ψ z φ
      → Earlier c (length c) (onward a y z pending).position (item D i k χ)
      → Way g at c P (onward a y z pending).position (onward a y z pending).pending rest → Way g at c P x [] beside
      → plan ≡ plan_step p i k j ∷ (rest ++ beside) → Way g at c P m pending plan

-- By the recorded steps; and by any step to the item that stands at the position.
abbrev pub Recorded : List Record → ℕ → Record → Type 0
Recorded c m e = Stands c m e

pub data AnyStep (c : List Record) (m : ℕ) (f : Record) : Type 0 where
  any_step : {e : Record} → Stands c m e → item_of f ≡ item_of e → AnyStep c m f
