-- Document 01, "The chart" (records) and "The plan" (unfolding): what a chart is, and the plan that is read off it.
use Rattle.std.specs.Prelude.{ℕ, suc, ◌<◌, ◌≡◌, List, [], ◌∷◌, map}
use Rattle.grammar.specs.Lists.{Stands, Distinct}
use Rattle.grammar.specs.Rewriting.{Rule, Lexical, Spine, Action, Take, Keep, Give}
use Rattle.grammar.specs.Items.{Foot, bare, foot, Derived}
use Rattle.grammar.specs.ItemList.{Item, item}

-- One record: an item, the production of the step that derived it, and the positions of that step's antecedents.
pub data Record : Type 0 where
  recorded : (it : Item) (production side dependent continuation : ℕ) → Record

-- The position where there is none.
abbrev pub nowhere : ℕ
nowhere = 65535

-- The item of a record; and `Earlier c m x it`: the record at position x, which is below m, has the item it.
abbrev pub item_of : Record → Item
item_of (recorded it p x y z) = it

pub data Earlier (c : List Record) (m : ℕ) : ℕ → Item → Type 0 where
  earlier : {x p y z u : ℕ} {it : Item} → x < m → Stands c x (recorded it p y z u) → Earlier c m x it

-- What the action makes of a dependent D over k to j with foot ψ: the continuation's position, and the foot of the result.
pub data Results (c : List Record) (m : ℕ) : Action → ℕ → ℕ → ℕ → Foot → ℕ → Foot → Type 0 where
  taken : {γ D k j : ℕ} {ψ : Foot} → Results c m (Take γ) D k j ψ nowhere (foot γ D k j)
  kept : {D k j : ℕ} {ψ : Foot} → Results c m Keep D k j ψ nowhere ψ
  given : {γ D k j B p q z : ℕ} {φ : Foot} → Earlier c m z (item B p q φ)
      → Results c m (Give γ) D k j (foot γ B p q) z φ

-- `Justified g at c m e`: the record e at position m is one of the deduction steps, from records before it. Rules with one side.
pub data Justified (g : List Rule) (at : ℕ → ℕ → Type 0) (c : List Record) (m : ℕ) : Record → Type 0 where
  by_word : {p A w i : ℕ} → Stands g p (Lexical A w) → at i w
      → Justified g at c m (recorded (item A i (suc i) bare) p nowhere nowhere nowhere)
  side_first : {p A B D i k j x y z : ℕ} {a : Action} {ψ φ : Foot} → Stands g p (Spine A a (B ∷ []) D [])
      → Earlier c m x (item B i k bare) → Earlier c m y (item D k j ψ) → Results c m a D k j ψ z φ
      → Justified g at c m (recorded (item A i j φ) p x y z)
  side_last : {p A B D i k j x y z : ℕ} {a : Action} {ψ φ : Foot} → Stands g p (Spine A a [] D (B ∷ []))
      → Earlier c m y (item D i k ψ) → Earlier c m x (item B k j bare) → Results c m a D i k ψ z φ
      → Justified g at c m (recorded (item A i j φ) p x y z)

-- A chart: each record is justified, no item stands twice, and every derived item is there.
pub record IsChart (g : List Rule) (at : ℕ → ℕ → Type 0) (c : List Record) : Type 0 where
  pub justified : (m : ℕ) (e : Record) → Stands c m e → Justified g at c m e
  pub distinct : Distinct (map item_of c)
  pub complete : (A i j : ℕ) (φ : Foot) → Derived g at A i j φ → (m : ℕ) × (e : Record) × Stands c m e × (item_of e ≡ item A i j φ)

-- Unfolding. A side is unfolded with nothing pending, a spine with the positions of its pending continuations. Where a spine goes
-- on after a step: a take goes on with the pending continuation and not with its recorded dependent, a give adds its own. A take never
-- comes with nothing pending, since its item has a foot; it would go on nowhere.
pub record Onward : Type 0 where
  pub position : ℕ
  pub pending : List ℕ

abbrev pub onward : Action → ℕ → ℕ → List ℕ → Onward
onward (Take γ) dependent continuation [] = record { position = nowhere; pending = [] }
onward (Take γ) dependent continuation (x ∷ pending) = record { position = x; pending = pending }
onward Keep dependent continuation pending = record { position = dependent; pending = pending }
onward (Give γ) dependent continuation pending = record { position = dependent; pending = continuation ∷ pending }

-- `Pends c φ s pending`: under the foot φ the stack s is still to be taken, and at the positions `pending` stand the records that
-- the takes go on with, top first.
pub data Pends (c : List Record) : Foot → List ℕ → List ℕ → Type 0 where
  nothing_pends : Pends c bare [] []
  awaits : {γ B p q x r y z u : ℕ} {φ : Foot} {s pending : List ℕ} → Stands c x (recorded (item B p q φ) r y z u)
      → Pends c φ s pending → Pends c (foot γ B p q) (γ ∷ s) (x ∷ pending)

-- The production of a record.
abbrev pub production_of : Record → ℕ
production_of (recorded it p x y z) = p
