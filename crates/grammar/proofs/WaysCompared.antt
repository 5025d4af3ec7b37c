-- Two ways down a chart with first steps, from records of one cell, the first by recorded steps: its plan is not after the other's, if its positions
-- are not. By induction on the way: production or split decides; or the sides are one record, and where the spines go on is in order.
use Prim.Native.Nat.{ℕ, suc, ◌≤◌, ◌<◌}
use mathlib.Core.Path.{◌≡◌, refl, sym, ◌∙◌, ap, subst}
use mathlib.Core.Bool.{false, false≢true}
use mathlib.Core.List.{List, [], ◌∷◌, map}
use lib.Dec.{eqb}
use lib.ListN.{length}
use Rattle.grammar.specs.Lists.{Stands, here, there, Distinct, more, NotAfter, ended, sooner, agreed}
use Rattle.grammar.specs.Rewriting.{Rule, Lexical, Spine, Action, Take}
use Rattle.grammar.specs.Items.{Foot, bare}
use Rattle.grammar.specs.ItemList.{Item, item}
use Rattle.grammar.specs.Plan.{PlanStep, plan_step, production_in}
use Rattle.grammar.specs.FirstPlan.{Before, lower_production, lower_split}
use Rattle.grammar.specs.Chart.{Record, recorded, item_of, nowhere, Earlier, earlier, Results, taken, kept, given, onward}
use Rattle.grammar.specs.Ways.{compared, Moves, by_word, side_first, side_last, OneCell, one_cell, FirstSteps}
use Rattle.grammar.specs.Ways.{Way, word_way, first_way, last_way, Recorded, AnyStep, any_step}
use Rattle.grammar.proofs.ListLaws.{map-in, stands-in, eqb-self}
use Rattle.grammar.proofs.StandsLaws.{stands-unique, stands-length}
use Rattle.grammar.proofs.NotAfterLaws.{not-after-then, not-after-append, not-after-heads, not-after-tails}

-- Where the values of f are distinct, each stands at one place.
pub stands-once : {A B : Type 0} (f : A → B) {l : List A} {k k' : ℕ} {x y : A} → Stands l k x → Stands l k' y → Distinct (map f l)
    → f x ≡ f y → k ≡ k'
stands-once f here here d e = refl
stands-once f here (there t) (more new d) e = absurd (new (rw e (map-in f (stands-in t))))
stands-once f (there s) here (more new d) e = absurd (new (rw (← e) (map-in f (stands-in s))))
stands-once f (there s) (there t) (more new d) e = ap suc (stands-once f s t d e)

-- At one position stands one item, and an item stands at one position.
pub earlier-item : {c : List Record} {n n' x x' : ℕ} {it it' : Item} → x ≡ x' → Earlier c n x it → Earlier c n' x' it' → it ≡ it'
earlier-item e (earlier l s) (earlier l' t) = ap item_of (stands-unique (rw e at s) t)

pub earlier-once : {c : List Record} {n n' x x' : ℕ} {it it' : Item} → Distinct (map item_of c) → it ≡ it' → Earlier c n x it
    → Earlier c n' x' it' → x ≡ x'
earlier-once distinct e (earlier l s) (earlier l' t) = stands-once item_of s t distinct e

-- Where a spine goes on, and with what pending, as one list.
abbrev goes_on : Action → ℕ → ℕ → List ℕ → List ℕ
goes_on a y z pending = (onward a y z pending).position ∷ (onward a y z pending).pending

after-take : (γ y y' z : ℕ) {pending pending' : List ℕ} → NotAfter ◌<◌ pending pending'
    → NotAfter ◌<◌ (goes_on (Take γ) y z pending) (goes_on (Take γ) y' z pending')
after-take γ y y' z ended = agreed ended
after-take γ y y' z (sooner h) = sooner h
after-take γ y y' z (agreed s) = agreed s

module _ {c : List Record} {n : ℕ} (distinct : Distinct (map item_of c)) where
  -- Two spines of one rule go on in order, if the steps' keys are in order. Where dependent and continuation are equal the feet are, and
  -- then what is pending is in order.
  onward-compared : {a : Action} {A D i j u v m m' x x' y y' z z' : ℕ} {ψ ψ' φ φ' : Foot} {pending pending' : List ℕ} → x ≡ x'
      → Results c n a D u v ψ z φ → Results c n a D u v ψ' z' φ' → Earlier c n y (item D u v ψ) → Earlier c n y' (item D u v ψ')
      → Earlier c n m (item A i j φ) → Earlier c n m' (item A i j φ') → NotAfter ◌<◌ (m ∷ pending) (m' ∷ pending')
      → NotAfter ◌<◌ (compared a x y z) (compared a x' y' z') → NotAfter ◌<◌ (goes_on a y z pending) (goes_on a y' z' pending')
  onward-compared {y = d} {y' = d'} same (taken {γ = γ}) taken y y' m m' order key =
      after-take γ d d' nowhere (not-after-tails (earlier-once distinct refl m m') order)
  onward-compared same kept kept y y' m m' order key =
      not-after-then (not-after-tails same key) λ e.
      let feet = earlier-item (cc) y y' in not-after-tails (earlier-once distinct (cc) m m') order
  onward-compared same (given z) (given z') y y' m m' order key =
      not-after-then (not-after-tails same key) λ e.
      let feet = earlier-item (cc) z z' in not-after-tails (earlier-once distinct (cc) m m') order

-- One step of a spine of A over i to j at position m: the side B over s to t, the dependent D over u to v, and where the spine goes on.
data Turn (c : List Record) (a : Action) (A B D i j s t u v m x y z : ℕ) (pending : List ℕ) : Type 0 where
  turn : {ψ φ χ : Foot} → Earlier c (length c) m (item A i j φ) → Earlier c (length c) x (item B s t bare)
      → Earlier c (length c) y (item D u v ψ) → Results c (length c) a D u v ψ z φ
      → Earlier c (length c) (onward a y z pending).position (item D u v χ) → Turn c a A B D i j s t u v m x y z pending

-- What is shown of two ways: by induction it is known of the ways below.
abbrev Ordered : List Record → ℕ → List ℕ → List PlanStep → ℕ → List ℕ → List PlanStep → Type 0
Ordered c m pending plan m' pending' plan' = (A i j : ℕ) (φ φ' : Foot) → Earlier c (length c) m (item A i j φ)
    → Earlier c (length c) m' (item A i j φ') → NotAfter ◌<◌ (m ∷ pending) (m' ∷ pending') → NotAfter Before plan plan'

-- Two steps are in order by their keys; if they are equal, what comes after them decides.
by_key : {A A' p p' i i' k k' j j' : ℕ} {φ φ' : Foot} {l l' : List ℕ} {u u' : List PlanStep} → OneCell (item A i j φ) (item A' i' j' φ')
    → NotAfter ◌<◌ (p ∷ k ∷ l) (p' ∷ k' ∷ l')
    → (plan_step p i k j ≡ plan_step p' i' k' j' → NotAfter ◌<◌ l l' → NotAfter Before u u')
    → NotAfter Before (plan_step p i k j ∷ u) (plan_step p' i' k' j' ∷ u')
by_key one_cell (sooner h) further = sooner (lower_production h)
by_key one_cell (agreed (sooner h)) further = sooner (lower_split h)
by_key one_cell (agreed (agreed s)) further = agreed (further refl s)

-- Under one number stands one rule, and rules that are not made alike are not the same.
pub same-rule : {g : List Rule} {p p' : ℕ} {R R' : Rule} → p ≡ p' → Stands g p R → Stands g p' R' → R ≡ R'
same-rule e s t = stands-unique (rw e at s) t

abbrev pub made : Rule → ℕ
made (Lexical A w) = 0
made (Spine A a [] D after) = 1
made (Spine A a (B ∷ before) D after) = 2

pub other-rule : {g : List Rule} {p p' : ℕ} {R R' : Rule} → p ≡ p' → Stands g p R → Stands g p' R' → eqb (made R) (made R') ≡ false → ⊥
other-rule {R = R} e s t h = false≢true (sym (rw (← same-rule e s t) at h) ∙ eqb-self (made R))

-- An equation that is matched as `refl`.
matched : {A : Type 0} {x y : A} → x ≡ y → Id A x y
matched {A} {x} e = subst (λ (y : A). Id A x y) e Prim.refl

-- Where the turns agree in rule, stretch and split, the parts of the two plans beside the spine are in order, and the rests of the spine.
parts-compared : {c : List Record} {a a' : Action} {A A' B B' D D' i i' j j' s s' t t' u u' v v' m m' x x' y y' z z' : ℕ} {pending pending' : List ℕ}
    {beside beside' rest rest' : List PlanStep} → Distinct (map item_of c) → Id Action a a'
    → Id (List ℕ) (A ∷ B ∷ D ∷ i ∷ j ∷ s ∷ t ∷ u ∷ v ∷ []) (A' ∷ B' ∷ D' ∷ i' ∷ j' ∷ s' ∷ t' ∷ u' ∷ v' ∷ [])
    → Turn c a A B D i j s t u v m x y z pending → Turn c a' A' B' D' i' j' s' t' u' v' m' x' y' z' pending'
    → NotAfter ◌<◌ (m ∷ pending) (m' ∷ pending') → NotAfter ◌<◌ (compared a x y z) (compared a' x' y' z')
    → Ordered c x [] beside x' [] beside'
    → Ordered c (onward a y z pending).position (onward a y z pending).pending rest
    (onward a' y' z' pending').position (onward a' y' z' pending').pending rest'
    → NotAfter Before beside beside' × NotAfter Before rest rest'
parts-compared distinct Prim.refl Prim.refl (turn m x y o n) (turn m' x' y' o' n') order key sides spines =
    let same = earlier-once distinct refl x x' in
    (sides _ _ _ _ _ x x' (rw same (agreed ended)), spines _ _ _ _ _ n n' (onward-compared distinct same o o' y y' m m' order key))

pub recorded-earlier : {c : List Record} {m : ℕ} {e : Record} → Recorded c m e → Earlier c (length c) m (item_of e)
recorded-earlier {e = recorded it p x y z} s = earlier (stands-length s) s

pub any-earlier : {c : List Record} {m : ℕ} {f : Record} → AnyStep c m f → Earlier c (length c) m (item_of f)
any-earlier (any_step s h) = rw h (recorded-earlier s)

one_cell_lem : {c : List Record} {n m m' A i j : ℕ} {φ φ' : Foot} {it it' : Item} → Earlier c n m (item A i j φ) → Earlier c n m' (item A i j φ')
    → Earlier c n m it → Earlier c n m' it' → OneCell it it'
one_cell_lem u u' v v' = rw (earlier-item refl v u, earlier-item refl v' u') one_cell

module _ {g : List Rule} {at : ℕ → ℕ → Type 0} {c : List Record} (distinct : Distinct (map item_of c)) (firsts : FirstSteps g at c) where
  keys-compared : {m m' : ℕ} {e f : Record} {key key' : List ℕ} → Stands c m e → AnyStep c m' f → m ≤ m' → OneCell (item_of e) (item_of f)
      → Moves g at c (length c) e key → Moves g at c (length c) f key' → NotAfter ◌<◌ key key'
  keys-compared a (any_step a' h) l cell v v' = firsts.first a a' l (rw h at cell) v h v'

  -- The first steps of two ways, and what comes after them.
  steps-compared : {A A' B i i' k k' j j' s t m m' p p' x x' y y' z z' : ℕ} {φ φ' χ χ' : Foot} {l l' pending pending' : List ℕ}
      {after after' : List PlanStep} → Recorded c m (recorded (item A i j φ) p x y z) → AnyStep c m' (recorded (item A' i' j' φ') p' x' y' z')
      → Earlier c (length c) m (item B s t χ) → Earlier c (length c) m' (item B s t χ') → NotAfter ◌<◌ (m ∷ pending) (m' ∷ pending')
      → Moves g at c (length c) (recorded (item A i j φ) p x y z) (p ∷ k ∷ l)
      → Moves g at c (length c) (recorded (item A' i' j' φ') p' x' y' z') (p' ∷ k' ∷ l')
      → (plan_step p i k j ≡ plan_step p' i' k' j' → NotAfter ◌<◌ l l' → NotAfter Before after after')
      → NotAfter Before (plan_step p i k j ∷ after) (plan_step p' i' k' j' ∷ after')
  steps-compared a a' u u' order v v' further =
      let cell = one_cell_lem u u' (recorded-earlier a) (any-earlier a') in
      by_key cell (keys-compared a a' (not-after-heads order) cell v v') further

  pub ways-compared : {m m' A i j : ℕ} {φ φ' : Foot} {pending pending' : List ℕ} {plan plan' : List PlanStep}
      → Way g at c (Recorded c) m pending plan → Way g at c (AnyStep c) m' pending' plan'
      → Earlier c (length c) m (item A i j φ) → Earlier c (length c) m' (item A i j φ')
      → NotAfter ◌<◌ (m ∷ pending) (m' ∷ pending') → NotAfter Before plan plan'
  ways-compared (word_way s r a) (word_way s' r' a') u u' order = steps-compared s s' u u' order (by_word r a) (by_word r' a') λ e l. ended
  ways-compared (word_way s r a) (first_way s' r' x' y' o' n' w' v' q') u u' order =
      rw q' (steps-compared s s' u u' order (by_word r a) (side_first r' x' y' o') λ e l. absurd (other-rule (ap production_in e) r r' refl))
  ways-compared (word_way s r a) (last_way s' r' y' x' o' n' v' w' q') u u' order =
      rw q' (steps-compared s s' u u' order (by_word r a) (side_last r' y' x' o') λ e l. absurd (other-rule (ap production_in e) r r' refl))
  ways-compared (first_way s r x y o n w v q) (word_way s' r' a') u u' order =
      rw q (steps-compared s s' u u' order (side_first r x y o) (by_word r' a') λ e l. absurd (other-rule (ap production_in e) r r' refl))
  ways-compared (first_way s r x y o n w v q) (first_way s' r' x' y' o' n' w' v' q') u u' order =
      rw (q, q') (steps-compared s s' u u' order (side_first r x y o) (side_first r' x' y' o') λ e l.
      let rule = same-rule (ap production_in e) r r' in
      let (beside, rest) = parts-compared distinct (matched (cc)) (matched (cc)) (turn (recorded-earlier s) x y o n)
      (turn (any-earlier s') x' y' o' n') order l (λ A i j φ φ' t t' h. ways-compared w w' t t' h)
      (λ A i j φ φ' t t' h. ways-compared v v' t t' h) in
      not-after-append beside rest)
  ways-compared (first_way s r x y o n w v q) (last_way s' r' y' x' o' n' v' w' q') u u' order =
      rw (q, q') (steps-compared s s' u u' order (side_first r x y o) (side_last r' y' x' o') λ e l. absurd (other-rule (ap production_in e) r r' refl))
  ways-compared (last_way s r y x o n v w q) (word_way s' r' a') u u' order =
      rw q (steps-compared s s' u u' order (side_last r y x o) (by_word r' a') λ e l. absurd (other-rule (ap production_in e) r r' refl))
  ways-compared (last_way s r y x o n v w q) (first_way s' r' x' y' o' n' w' v' q') u u' order =
      rw (q, q') (steps-compared s s' u u' order (side_last r y x o) (side_first r' x' y' o') λ e l. absurd (other-rule (ap production_in e) r r' refl))
  ways-compared (last_way s r y x o n v w q) (last_way s' r' y' x' o' n' v' w' q') u u' order =
      rw (q, q') (steps-compared s s' u u' order (side_last r y x o) (side_last r' y' x' o') λ e l.
      let rule = same-rule (ap production_in e) r r' in
      let (beside, rest) = parts-compared distinct (matched (cc)) (matched (cc)) (turn (recorded-earlier s) x y o n)
      (turn (any-earlier s') x' y' o' n') order l (λ A i j φ φ' t t' h. ways-compared w w' t t' h)
      (λ A i j φ φ' t t' h. ways-compared v v' t t' h) in
      not-after-append rest beside)
