-- The deduction steps are sound and complete for yields: a bare item is a nonterminal with an empty stack that comes to its words;
-- an item with foot (γ, B, p, q) turns each way for B with s over p to q into one for A with γ on s. Induction on the item; on the yield.
use Prim.Native.Nat.{ℕ, suc}
use mathlib.Core.List.{List, [], ◌∷◌, ◌++◌}
use Rattle.grammar.specs.Lists.{Stands}
use Rattle.grammar.specs.Rewriting.{Rule, Spine, Action, Take, Keep, Give, Acts, takes, keeps, gives, Symbol, word, nonterminal, sides, Replaces, lexical, spine}
use Rattle.grammar.specs.Items.{Foot, bare, foot, Derived, Sides}
use Rattle.grammar.specs.Items
use Rattle.grammar.specs.Plan.{PlanStep, plan_step, first_of, others_of, Yields, nothing, reads, replaces}
use Rattle.grammar.proofs.YieldsLaws.{yields-join, yields-parts}

module _ (g : List Rule) (at : ℕ → ℕ → Type 0) where
  -- The form comes to the words from i to j, by some plan.
  abbrev pub Comes : List Symbol → ℕ → ℕ → Type 0
  Comes f i j = (plan : List PlanStep) × Yields g at f i j plan

  comes-join : {f h : List Symbol} {i k j : ℕ} → Comes f i k → Comes h k j → Comes (f ++ h) i j
  comes-join x y = (x.0 ++ y.0, yields-join g at x.1 y.1)

  pub comes-by : {p i j : ℕ} {X : Symbol} {r : List Symbol} → Replaces g p X r → Comes r i j → Comes (X ∷ []) i j
  comes-by {p} {i} {j} {X} {r} x y = let q = yields-parts g at r y.1 in
      (plan_step p i q.place j ∷ ((q.left ++ q.right) ++ []), replaces x q.left_yields q.right_yields nothing)

  -- What an item's foot asks of the stack, and of what stands at the foot.
  pub data Fills : Foot → List ℕ → Type 0 where
    empty : Fills bare []
    filled : {γ B p q : ℕ} {s : List ℕ} → Comes (nonterminal B s ∷ []) p q → Fills (foot γ B p q) (γ ∷ s)

  comes-spine : {p A D i k m j : ℕ} {a : Action} {before after s t : List ℕ} → Stands g p (Spine A a before D after)
      → Acts a s t → Comes (sides before) i k → Comes (nonterminal D t ∷ []) k m → Comes (sides after) m j
      → Comes (nonterminal A s ∷ []) i j
  comes-spine r a x y z = comes-by (spine r a) (comes-join x (comes-join y z))

  mutual
    pub sound : {A i j : ℕ} {φ : Foot} {s : List ℕ} → Derived g at A i j φ → Fills φ s → Comes (nonterminal A s ∷ []) i j
    sound (Items.Derived.word_step r a) empty = comes-by (lexical r) ([], reads a nothing)
    sound (Items.Derived.take_step r x d y) (filled t) = comes-spine r takes (sound-sides x) t (sound-sides y)
    sound (Items.Derived.keep_step r x d y) u = comes-spine r keeps (sound-sides x) (sound d u) (sound-sides y)
    sound (Items.Derived.give_step r x d y e) u = comes-spine r gives (sound-sides x) (sound d (filled (sound e u))) (sound-sides y)

    pub sound-sides : {Bs : List ℕ} {i j : ℕ} → Sides g at Bs i j → Comes (sides Bs) i j
    sound-sides Items.Sides.no_side = ([], nothing)
    sound-sides (Items.Sides.next_side d x) = comes-join (sound d empty) (sound-sides x)

  -- An item for each index of the stack, from the top down, each at the foot of the one before, and a bare one at the end.
  abbrev pub Chain : List ℕ → ℕ → ℕ → ℕ → Type 0
  Chain [] A i j = Derived g at A i j bare
  Chain (γ ∷ s) A i j = (B : ℕ) × (p : ℕ) × (q : ℕ) × Derived g at A i j (foot γ B p q) × Chain s B p q

  data Chains : List Symbol → ℕ → ℕ → Type 0 where
    none : {i : ℕ} → Chains [] i i
    past : {w i j : ℕ} {f : List Symbol} → at i w → Chains f (suc i) j → Chains (word w ∷ f) i j
    link : {A i k j : ℕ} {s : List ℕ} {f : List Symbol} → Chain s A i k → Chains f k j → Chains (nonterminal A s ∷ f) i j

  chains-join : {f h : List Symbol} {i k j : ℕ} → Chains f i k → Chains h k j → Chains (f ++ h) i j
  chains-join none y = y
  chains-join (past a x) y = past a (chains-join x y)
  chains-join (link c x) y = link c (chains-join x y)

  first-others : {r : List Symbol} {i k j : ℕ} → Chains (first_of r) i k → Chains (others_of r) k j → Chains r i j
  first-others {r = []} none y = y
  first-others {r = X ∷ r} x y = chains-join x y

  -- The parts of a spine's right side.
  sides-end : (Bs : List ℕ) {h : List Symbol} {i j : ℕ} → Chains (sides Bs ++ h) i j → (k : ℕ) × Sides g at Bs i k × Chains h k j
  sides-end [] {i = i} x = (i, Items.Sides.no_side, x)
  sides-end (B ∷ Bs) (link c x) = let r = sides-end Bs x in (r.0, Items.Sides.next_side c r.1, r.2)

  whole-sides : (Bs : List ℕ) {i j : ℕ} → Chains (sides Bs) i j → Sides g at Bs i j
  whole-sides [] none = Items.Sides.no_side
  whole-sides (B ∷ Bs) (link c x) = Items.Sides.next_side c (whole-sides Bs x)

  -- One spine step on chains.
  by-keep : (s : List ℕ) {p A D i k m j : ℕ} {before after : List ℕ} → Stands g p (Spine A Keep before D after)
      → Sides g at before i k → Chain s D k m → Sides g at after m j → Chain s A i j
  by-keep [] r x c y = Items.Derived.keep_step r x c y
  by-keep (γ ∷ s) r x c y = (c.0, c.1, c.2, Items.Derived.keep_step r x c.3 y, c.4)

  by-take : (s : List ℕ) {p A D γ i k m j : ℕ} {before after : List ℕ} → Stands g p (Spine A (Take γ) before D after)
      → Sides g at before i k → Chain s D k m → Sides g at after m j → Chain (γ ∷ s) A i j
  by-take [] {D = D} {k = k} {m = m} r x c y = (D, k, m, Items.Derived.take_step r x c y, c)
  by-take (η ∷ s) {D = D} {k = k} {m = m} r x c y = (D, k, m, Items.Derived.take_step r x c.3 y, c)

  by-give : (s : List ℕ) {p A D γ i k m j : ℕ} {before after : List ℕ} → Stands g p (Spine A (Give γ) before D after)
      → Sides g at before i k → Chain (γ ∷ s) D k m → Sides g at after m j → Chain s A i j
  by-give [] r x c y = Items.Derived.give_step r x c.3 y c.4
  by-give (η ∷ s) r x c y = let e = c.4 in (e.0, e.1, e.2, Items.Derived.give_step r x c.3 y e.3, e.4)

  by-action : {p A D i k m j : ℕ} {a : Action} {before after s t : List ℕ} → Stands g p (Spine A a before D after) → Acts a s t
      → Sides g at before i k → Chain t D k m → Sides g at after m j → Chain s A i j
  by-action {t = t} r takes x c y = by-take t r x c y
  by-action {s = s} r keeps x c y = by-keep s r x c y
  by-action {s = s} r gives x c y = by-give s r x c y

  rest-chain : {p A D i k j : ℕ} {a : Action} {before after s t : List ℕ} → Stands g p (Spine A a before D after) → Acts a s t
      → Sides g at before i k → Chains (nonterminal D t ∷ sides after) k j → Chain s A i j
  rest-chain {after = after} r a y (link c z) = by-action r a y c (whole-sides after z)

  spine-chain : {p A D i j : ℕ} {a : Action} (before : List ℕ) {after s t : List ℕ} → Stands g p (Spine A a before D after)
      → Acts a s t → Chains (sides before ++ (nonterminal D t ∷ sides after)) i j → Chain s A i j
  spine-chain before {after} r a x = let u = sides-end before x in rest-chain r a u.1 u.2

  replaced-chain : {p i j : ℕ} {X : Symbol} {r : List Symbol} → Replaces g p X r → Chains r i j → Chains (X ∷ []) i j
  replaced-chain (lexical r) (past a none) = link (Items.Derived.word_step r a) none
  replaced-chain (spine {before = before} r a) x = link (spine-chain before r a x) none

  complete-form : {f : List Symbol} {i j : ℕ} {plan : List PlanStep} → Yields g at f i j plan → Chains f i j
  complete-form nothing = none
  complete-form (reads a y) = past a (complete-form y)
  complete-form (replaces r y₀ y₁ y₂) =
      chains-join (replaced-chain r (first-others (complete-form y₀) (complete-form y₁))) (complete-form y₂)

  only-chain : {A i j : ℕ} {s : List ℕ} → Chains (nonterminal A s ∷ []) i j → Chain s A i j
  only-chain (link c none) = c

  -- A nonterminal that comes to words has a chain of items over them.
  pub complete : {A i j : ℕ} {s : List ℕ} → Comes (nonterminal A s ∷ []) i j → Chain s A i j
  complete y = only-chain (complete-form y.1)
