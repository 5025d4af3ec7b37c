-- The ways down a chart are the plans: a way yields, by induction on it, and every yield is a way, since a chart lacks no derived item. So the
-- way by recorded steps of a chart with first steps is the first plan, whatever the order in which the chart was built.
use Prim.Native.Nat.{ℕ, suc}
use mathlib.Core.Path.{◌≡◌, refl, sym, subst}
use mathlib.Core.List.{List, [], ◌∷◌, ◌++◌, append-nil}
use lib.ListN.{length}
use Rattle.grammar.specs.Lists.{Stands, NotAfter, ended, agreed}
use Rattle.grammar.specs.Rewriting.{Rule, Lexical, Spine, Action, Acts, takes, keeps, gives, OneSide, is_first, is_last, OneSided}
use Rattle.grammar.specs.Rewriting.{Symbol, word, nonterminal, sides, Replaces, lexical, spine}
use Rattle.grammar.specs.Items.{Foot, bare}
use Rattle.grammar.specs.ItemList.{item}
use Rattle.grammar.specs.Plan.{PlanStep, plan_step, first_of, others_of, Yields, nothing, reads, replaces}
use Rattle.grammar.specs.FirstPlan.{Before, FirstPlan}
use Rattle.grammar.specs.Chart.{Record, recorded, item_of, Earlier, earlier, Results, taken, kept, given, onward}
use Rattle.grammar.specs.Chart.{Justified, IsChart, Pends, nothing_pends, awaits}
use Rattle.grammar.specs.Chart
use Rattle.grammar.specs.Ways.{Moves, FirstSteps, Way, word_way, first_way, last_way, Recorded, AnyStep, any_step}
use Rattle.grammar.specs.Ways
use Rattle.grammar.proofs.FirstPlanLaws.{first-plan-unique}
use Rattle.grammar.proofs.Deduction.{Comes, Fills, empty, filled, sound}
use Rattle.grammar.proofs.Unfolding.{Goes, goes, onwards, step-yields, justified-derived, derived-step, derived-below}
use Rattle.grammar.proofs.WaysCompared.{stands-once, earlier-item, recorded-earlier, ways-compared}

-- A record with an item at a position goes on there, with what fits its foot.
pub goes_at : {c : List Record} {A i j m : ℕ} {φ : Foot} {s pending : List ℕ} {e : Record} → Stands c m e → item_of e ≡ item A i j φ
    → Pends c φ s pending → Goes c A i j m s pending
goes_at {e = recorded it p x y z} t e ps = goes (rw e at t) ps

goes-bare : {c : List Record} {n x B i k : ℕ} → Earlier c n x (item B i k bare) → Goes c B i k x [] []
goes-bare (earlier l s) = goes s nothing_pends

-- And what goes on at a position is the item that stands there.
record GoesAs (c : List Record) (A A' i i' j j' : ℕ) (φ : Foot) (s pending : List ℕ) : Type 0 where
  name : A ≡ A'
  start : i ≡ i'
  end : j ≡ j'
  pends : Pends c φ s pending

goes-as : {c : List Record} {A A' i i' j j' m : ℕ} {φ : Foot} {s pending : List ℕ} → Goes c A i j m s pending
    → Earlier c (length c) m (item A' i' j' φ) → GoesAs c A A' i i' j j' φ s pending
goes-as {c} {s = s} {pending = pending} (goes t ps) u = let e = earlier-item refl (recorded-earlier t) u in
    record { name = cc; start = cc; end = cc; pends = subst (λ (φ : Foot). Pends c φ s pending) (cc) ps }

-- Whatever goes on in a chart comes to its words by some plan.
pub goes-comes : {g : List Rule} {at : ℕ → ℕ → Type 0} {c : List Record} {A i j m : ℕ} {s pending : List ℕ}
    → ((m : ℕ) (e : Record) → Stands c m e → Justified g at c m e) → Goes c A i j m s pending → Comes g at (nonterminal A s ∷ []) i j
goes-comes {g} {at} {c} justified (goes t ps) = sound g at (justified-derived g at c justified t refl) (fills ps)
  where
    fills : {φ : Foot} {s pending : List ℕ} → Pends c φ s pending → Fills g at φ s
    fills nothing_pends = empty
    fills (awaits t ps) = filled (sound g at (justified-derived g at c justified t refl) (fills ps))

word-yields : {g : List Rule} {at : ℕ → ℕ → Type 0} {c : List Record} {p A w i : ℕ} {s : List ℕ} → Stands g p (Lexical A w) → at i w
    → Pends c bare s [] → Yields g at (nonterminal A s ∷ []) i (suc i) (plan_step p i (suc i) (suc i) ∷ [])
word-yields {g} {at} r a nothing_pends = step-yields g at (lexical r) (reads a nothing) nothing

-- Any way yields, if its steps are to the items that stand at their positions.
module _ {g : List Rule} {at : ℕ → ℕ → Type 0} {c : List Record} {P : ℕ → Record → Type 0}
    (located : (m : ℕ) (e : Record) → P m e → Earlier c (length c) m (item_of e)) where
  pub way-yields : {A i j m : ℕ} {s pending : List ℕ} {plan : List PlanStep} → Way g at c P m pending plan → Goes c A i j m s pending
      → Yields g at (nonterminal A s ∷ []) i j plan
  way-yields (word_way v r a) t = let e = goes-as t (located _ _ v) in
      rw (e.name, e.start, e.end) (word-yields r a e.pends)
  way-yields {A = A} (first_way {B = B} {D = D} v r x y o n w u q) t = let e = goes-as t (located _ _ v) in
      let h = onwards o y e.pends in
      rw (q, e.name, e.start, e.end) (step-yields g at (spine r h.acts) (way-yields {A = B} w (goes-bare x)) (way-yields {A = D} u h.rest))
  way-yields {A = A} (last_way {B = B} {D = D} v r y x o n u w q) t = let e = goes-as t (located _ _ v) in
      let h = onwards o y e.pends in
      rw (q, e.name, e.start, e.end) (step-yields g at (spine r h.acts) (way-yields {A = D} u h.rest) (way-yields {A = B} w (goes-bare x)))

module _ (g : List Rule) (at : ℕ → ℕ → Type 0) (c : List Record) where
  -- A way, by any steps, from a record of A over i to j with what fits its foot and the stack s.
  pub data WayTo (A i j : ℕ) (s : List ℕ) (plan : List PlanStep) : Type 0 where
    way_to : {m : ℕ} {pending : List ℕ} → Goes c A i j m s pending → Way g at c (AnyStep c) m pending plan → WayTo A i j s plan

  -- The ways of a form's nonterminals, side by side.
  data WaysTo : List Symbol → ℕ → ℕ → List PlanStep → Type 0 where
    none : {i : ℕ} → WaysTo [] i i []
    past : {w i j : ℕ} {f : List Symbol} {plan : List PlanStep} → at i w → WaysTo f (suc i) j plan → WaysTo (word w ∷ f) i j plan
    link : {A i k j : ℕ} {s : List ℕ} {f : List Symbol} {plan rest : List PlanStep} → WayTo A i k s plan → WaysTo f k j rest
        → WaysTo (nonterminal A s ∷ f) i j (plan ++ rest)

  only-way : {A i j : ℕ} {s : List ℕ} {plan : List PlanStep} → WaysTo (nonterminal A s ∷ []) i j plan → WayTo A i j s plan
  only-way (link w none) = rw append-nil w

  -- What is below a step of a spine, told from the way of the dependent: what the action did with the stack is undone.
  data Under (a : Action) (D u v : ℕ) (s : List ℕ) (rest : List PlanStep) : Type 0 where
    under : {y z : ℕ} {ψ φ χ : Foot} {pending : List ℕ} → Earlier c (length c) y (item D u v ψ) → Results c (length c) a D u v ψ z φ
        → Pends c φ s pending → Earlier c (length c) (onward a y z pending).position (item D u v χ)
        → Way g at c (AnyStep c) (onward a y z pending).position (onward a y z pending).pending rest → Under a D u v s rest

  acts-under : {a : Action} {D u v : ℕ} {s t : List ℕ} {rest : List PlanStep} → Acts a s t → WayTo D u v t rest → Under a D u v s rest
  acts-under takes (way_to (goes y ps) w) = under (recorded-earlier y) taken (awaits y ps) (recorded-earlier y) w
  acts-under keeps (way_to (goes y ps) w) = under (recorded-earlier y) kept ps (recorded-earlier y) w
  acts-under gives (way_to (goes y (awaits z ps)) w) = under (recorded-earlier y) (given (recorded-earlier z)) ps (recorded-earlier y) w

  module _ (one : OneSided g) (chart : IsChart g at c) where
    -- The result of a step stands in the chart.
    stands-result : {A i j p x y z : ℕ} {φ : Foot} → Justified g at c (length c) (recorded (item A i j φ) p x y z)
        → (m : ℕ) × (e : Record) × Stands c m e × (item_of e ≡ item A i j φ)
    stands-result v = chart.complete _ _ _ _ (derived-step g at v (derived-below g at c chart.justified (length c)))

    word-way : {p A w i : ℕ} → Stands g p (Lexical A w) → at i w → WayTo A i (suc i) [] (plan_step p i (suc i) (suc i) ∷ [])
    word-way r a = let (m, e, s, h) = stands-result (Chart.Justified.by_word r a) in
        way_to (goes_at s h nothing_pends) (word_way (any_step s (sym h)) r a)

    first_way_lem : {p A B D i k j : ℕ} {a : Action} {s : List ℕ} {beside rest : List PlanStep} → Stands g p (Spine A a (B ∷ []) D [])
        → WayTo B i k [] beside → Under a D k j s rest → WayTo A i j s (plan_step p i k j ∷ (beside ++ rest))
    first_way_lem r (way_to (goes x nothing_pends) w) (under y o ps n u) =
        let (m, e, s, h) = stands-result (Chart.Justified.side_first r (recorded-earlier x) y o) in
        way_to (goes_at s h ps) (first_way (any_step s (sym h)) r (recorded-earlier x) y o n w u refl)

    last-way : {p A B D i k j : ℕ} {a : Action} {s : List ℕ} {beside rest : List PlanStep} → Stands g p (Spine A a [] D (B ∷ []))
        → Under a D i k s rest → WayTo B k j [] beside → WayTo A i j s (plan_step p i k j ∷ (rest ++ beside))
    last-way r (under y o ps n u) (way_to (goes x nothing_pends) w) =
        let (m, e, s, h) = stands-result (Chart.Justified.side_last r y (recorded-earlier x) o) in
        way_to (goes_at s h ps) (last_way (any_step s (sym h)) r y (recorded-earlier x) o n u w refl)

    spine-way : {p A D i k j : ℕ} {a : Action} {before after s t : List ℕ} {first others : List PlanStep} → OneSide (Spine A a before D after)
        → Stands g p (Spine A a before D after) → Acts a s t → WaysTo (first_of (sides before ++ (nonterminal D t ∷ sides after))) i k first
        → WaysTo (others_of (sides before ++ (nonterminal D t ∷ sides after))) k j others → WayTo A i j s (plan_step p i k j ∷ (first ++ others))
    spine-way is_first r a x y = first_way_lem r (only-way x) (acts-under a (only-way y))
    spine-way is_last r a x y = last-way r (acts-under a (only-way x)) (only-way y)

    replaced-way : {p i k m j : ℕ} {X : Symbol} {r f : List Symbol} {first others rest : List PlanStep} → Replaces g p X r
        → WaysTo (first_of r) i k first → WaysTo (others_of r) k m others → WaysTo f m j rest
        → WaysTo (X ∷ f) i j (plan_step p i k m ∷ ((first ++ others) ++ rest))
    replaced-way (lexical r) (past a none) none w = link (word-way r a) w
    replaced-way (spine r a) x y w = link (spine-way (one _ _ r) r a x y) w

    yields-ways : {f : List Symbol} {i j : ℕ} {plan : List PlanStep} → Yields g at f i j plan → WaysTo f i j plan
    yields-ways nothing = none
    yields-ways (reads a y) = past a (yields-ways y)
    yields-ways (replaces x y₀ y₁ y₂) = replaced-way x (yields-ways y₀) (yields-ways y₁) (yields-ways y₂)

    -- Every yield of a nonterminal is a way.
    pub yields-way : {A i j : ℕ} {s : List ℕ} {plan : List PlanStep} → Yields g at (nonterminal A s ∷ []) i j plan → WayTo A i j s plan
    yields-way y = only-way (yields-ways y)

    -- The way by recorded steps from the start's record comes after no other plan.
    way-first : FirstSteps g at c → {n m : ℕ} {e : Record} {plan other : List PlanStep} → Stands c m e → item_of e ≡ item 0 0 n bare
        → Way g at c (Recorded c) m [] plan → WayTo 0 0 n [] other → NotAfter Before plan other
    way-first firsts t h w (way_to (goes t' nothing_pends) w') =
        ways-compared chart.distinct firsts w w' (rw h at (recorded-earlier t)) (recorded-earlier t')
        (rw (stands-once item_of t t' chart.distinct h) (agreed ended))

    pub first-plan : FirstSteps g at c → {n m : ℕ} {e : Record} {plan : List PlanStep} → Stands c m e → item_of e ≡ item 0 0 n bare
        → Way g at c (Recorded c) m [] plan → FirstPlan g at n plan
    first-plan firsts t h w =
        record {
          derives = way-yields (λ m e. recorded-earlier) w (goes_at t h nothing_pends);
          first = λ other y. way-first firsts t h w (yields-way y);
        }

-- Two charts of one line, built in whatever order, have the same plan, if both have first steps.
pub two-charts : {g : List Rule} {at : ℕ → ℕ → Type 0} {c c' : List Record} {n m m' : ℕ} {e e' : Record} {plan plan' : List PlanStep}
    → OneSided g → IsChart g at c → FirstSteps g at c → IsChart g at c' → FirstSteps g at c' → Stands c m e → item_of e ≡ item 0 0 n bare
    → Stands c' m' e' → item_of e' ≡ item 0 0 n bare → Way g at c (Recorded c) m [] plan → Way g at c' (Recorded c') m' [] plan'
    → plan ≡ plan'
two-charts {g} {at} {c} {c'} one chart firsts chart' firsts' t h t' h' w w' =
    first-plan-unique (first-plan g at c one chart firsts t h w) (first-plan g at c' one chart' firsts' t' h' w')

-- A step justifies its record.
pub justified-of-moves : {g : List Rule} {at : ℕ → ℕ → Type 0} {c : List Record} {m : ℕ} {e : Record} {key : List ℕ} → Moves g at c m e key
    → Justified g at c m e
justified-of-moves (Ways.Moves.by_word r a) = Chart.Justified.by_word r a
justified-of-moves (Ways.Moves.side_first r x y o) = Chart.Justified.side_first r x y o
justified-of-moves (Ways.Moves.side_last r y x o) = Chart.Justified.side_last r y x o
