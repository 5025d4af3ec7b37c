-- The machine on goals passes exactly the leftmost derivations, where every rule is a word or has one side: so it is the plan test.
-- What passes solves each goal, by induction on the plan; and a yield, as a tree of steps, passes from any goals behind it.
use Prim.Native.Nat.{ℕ, suc, ◌-◌, ◌<◌}
use native.Mathlib.Omega.{arith}
use mathlib.Core.Path.{◌≡◌, refl, sym, ◌∙◌, ap}
use mathlib.Core.Bool.{Bool, true, false, ◌&&◌, false≢true}
use mathlib.Core.List.{List, [], ◌∷◌, ◌++◌, append-nil, append_assoc}
use mathlib.Core.Option.{Option, none, some}
use lib.Dec.{eqb, ltb}
use lib.ListN.{length, get_elem?}
use borrow.Author.Tests.{eqb-true, ltb-true, lt-ltb}
use Rattle.grammar.specs.Lists.{Stands}
use Rattle.grammar.specs.Rewriting.{Rule, Lexical, Spine, Action, Take, Keep, Give, Acts, takes, keeps, gives, Symbol, word, nonterminal, sides, lexical, spine, OneSide, is_word, is_first, is_last, OneSided}
use Rattle.grammar.specs.Input.{Holds}
use Rattle.grammar.specs.Plan.{PlanStep, plan_step, first_of, others_of, Yields, nothing, reads, replaces, LeftmostDerivation, passes}
use Rattle.grammar.proofs.ListLaws.{eqb-self}
use Rattle.grammar.proofs.StandsLaws.{stands-get_elem, get_elem-stands}
use Rattle.grammar.proofs.PlanTest.{passes-sound, passes-complete}
use Rattle.grammar.proofs.PlanSize.{stack-depth, yields-longer}
use Rattle.layout.proofs.TestLaws.{both}
use Rattle.goals.specs.Goals.{Goal, goal, Standing, stuck, standing, top_index, action_fits, depth_after, stack_after, dependent_span, split_fits, fits, replaced, turn_to, turn, goals_run, goals_pass}

pub no-depth : (s : List ℕ) → length s ≡ 0 → s ≡ []
no-depth [] e = refl
no-depth (x ∷ s) e = absurd (omega arith)

-- What an action asks is that it acts, and it leaves what `Acts` says.
pub fits-acts : (a : Action) (s : List ℕ) → action_fits a (length s) (top_index s) ≡ true → Acts a s (stack_after a s)
fits-acts (Take γ) [] e = absurd (false≢true e)
fits-acts (Take γ) (x ∷ s) e =
    let (e₁, e₂) = both (ltb 0 (suc (length s))) (eqb γ x) e in rw (eqb-true γ x e₂) takes
fits-acts Keep s e = keeps
fits-acts (Give γ) s e = gives

pub acts-fits : {a : Action} {s t : List ℕ} → Acts a s t
    → (action_fits a (length s) (top_index s) ≡ true) × (stack_after a s ≡ t) × (depth_after a (length s) ≡ length t)
acts-fits (takes {g = γ} {s = s}) = (simp (lt-ltb 0 (suc (length s)) (omega arith), eqb-self γ), refl, omega arith)
acts-fits keeps = (refl, refl, refl)
acts-fits gives = (refl, refl, refl)

-- The tests that a word and a pair pass.
pub word_fits : (here : ℕ → Bool) (A' w A d γ i k j : ℕ) → fits (Lexical A' w) here A d γ i k j ≡ true
    → (A' ≡ A) × (d ≡ 0) × (k ≡ j) × (j ≡ suc i) × (here w ≡ true)
word_fits here A' w A d γ i k j e =
    let (e₁, d₁) = both (eqb A' A) _ e in
    let (e₂, d₂) = both (eqb d 0) _ d₁ in
    let (e₃, d₃) = both (eqb k j) _ d₂ in
    let (e₄, e₅) = both (eqb j (suc i)) (here w) d₃ in
    (eqb-true A' A e₁, eqb-true d 0 e₂, eqb-true k j e₃, eqb-true j (suc i) e₄, e₅)

pub pair_fits : (here : ℕ → Bool) (A' : ℕ) (a : Action) (before : List ℕ) (D : ℕ) (after : List ℕ) (A d γ i k j : ℕ)
    → fits (Spine A' a before D after) here A d γ i k j ≡ true
    → (A' ≡ A) × (i < k) × (k < j) × (action_fits a d γ ≡ true) × (depth_after a d < dependent_span before i k j)
pair_fits here A' a before D after A d γ i k j e =
    let (d₁, d₂) = both (split_fits A' A i k j) _ e in
    let (e₁, d₃) = both (eqb A' A) _ d₁ in
    let (e₂, e₃) = both (ltb i k) (ltb k j) d₃ in
    let (e₄, e₅) = both (action_fits a d γ) _ d₂ in
    (eqb-true A' A e₁, ltb-true i k e₂, ltb-true k j e₃, e₄, ltb-true (depth_after a d) _ e₅)

module _ (g : List Rule) (at : ℕ → ℕ → Bool) where
  -- Goals that a plan solves: a yield for each, one after the other.
  pub data Solved : ℕ → List Goal → List PlanStep → Type 0 where
    over : {i : ℕ} → Solved i [] []
    more : {A i j : ℕ} {s : List ℕ} {rest : List Goal} {left right : List PlanStep} → Yields g (Holds at) (nonterminal A s ∷ []) i j left
        → Solved j rest right → Solved i (goal A s j ∷ rest) (left ++ right)

  abbrev pub SolvedAt : Standing → List PlanStep → Type 0
  SolvedAt stuck plan = ⊥
  SolvedAt (standing i goals) plan = Solved i goals plan

  -- What passes solves its goals: a step that fits is a step of a yield.
  read_word : {p i A : ℕ} {w : ℕ} {rest : List Goal} {plan : List PlanStep} → Stands g p (Lexical A w) → at i w ≡ true
      → Solved (suc i) rest plan → Solved i (goal A [] (suc i) ∷ rest) (plan_step p i (suc i) (suc i) ∷ plan)
  read_word x a y = more (replaces (lexical x) (reads a nothing) nothing nothing) y

  split-first : {p i k j A B D : ℕ} {a : Action} {s t : List ℕ} {rest : List Goal} {plan : List PlanStep}
      → Stands g p (Spine A a (B ∷ []) D []) → Acts a s t → Solved i (goal B [] k ∷ goal D t j ∷ rest) plan
      → Solved i (goal A s j ∷ rest) (plan_step p i k j ∷ plan)
  split-first x b (more y₀ (more y₁ z)) = simp (append-nil, append_assoc) at (more (replaces (spine x b) y₀ y₁ nothing) z)

  split-last : {p i k j A B D : ℕ} {a : Action} {s t : List ℕ} {rest : List Goal} {plan : List PlanStep}
      → Stands g p (Spine A a [] D (B ∷ [])) → Acts a s t → Solved i (goal D t k ∷ goal B [] j ∷ rest) plan
      → Solved i (goal A s j ∷ rest) (plan_step p i k j ∷ plan)
  split-last x b (more y₀ (more y₁ z)) = simp (append-nil, append_assoc) at (more (replaces (spine x b) y₀ y₁ nothing) z)

  solve : {p i k j A : ℕ} {s : List ℕ} {rest : List Goal} {plan : List PlanStep} {R : Rule} → OneSide R → Stands g p R
      → fits R (at i) A (length s) (top_index s) i k j ≡ true → SolvedAt (replaced R s i k j rest) plan
      → Solved i (goal A s j ∷ rest) (plan_step p i k j ∷ plan)
  solve {i = i} {k} {j} {A} {s} (is_word {A = A'} {w = w}) x e y =
      let (e₁, e₂, e₃, e₄, a) = word_fits (at i) A' w A (length s) (top_index s) i k j e in
      rw (← e₁, no-depth s e₂, e₃, e₄) (read_word x a (rw e₄ at y))
  solve {i = i} {k} {j} {A} {s} (is_first {A = A'} {B = B} {D = D} {a = a}) x e y =
      let (e₁, e₂, e₃, e₄, e₅) = pair_fits (at i) A' a (B ∷ []) D [] A (length s) (top_index s) i k j e in
      rw (← e₁) (split-first x (fits-acts a s e₄) y)
  solve {i = i} {k} {j} {A} {s} (is_last {A = A'} {B = B} {D = D} {a = a}) x e y =
      let (e₁, e₂, e₃, e₄, e₅) = pair_fits (at i) A' a [] D (B ∷ []) A (length s) (top_index s) i k j e in
      rw (← e₁) (split-last x (fits-acts a s e₄) y)

  module _ (one : OneSided g) where
    turn-solved : (o : Option Rule) (p i' k j' i : ℕ) (goals : List Goal) {plan : List PlanStep} → get_elem? g p ≡ o
        → SolvedAt (turn at o (plan_step p i' k j') i goals) plan → Solved i goals (plan_step p i' k j' ∷ plan)
    turn-solved o p i' k j' i [] e y = absurd y
    turn-solved none p i' k j' i (x ∷ rest) e y = absurd y
    turn-solved (some R) p i' k j' i (goal A s j ∷ rest) {plan} e y =
        go (eqb i' i && (eqb j' j && fits R (at i) A (length s) (top_index s) i k j)) refl y
      where
        go : (b : Bool) → eqb i' i && (eqb j' j && fits R (at i) A (length s) (top_index s) i k j) ≡ b
            → SolvedAt (turn_to b (replaced R s i k j rest)) plan → Solved i (goal A s j ∷ rest) (plan_step p i' k j' ∷ plan)
        go true d y =
            let (e₁, d₁) = both (eqb i' i) _ d in
            let (e₂, e₃) = both (eqb j' j) _ d₁ in
            rw (eqb-true i' i e₁, eqb-true j' j e₂) (solve (one p R (get_elem-stands g p e)) (get_elem-stands g p e) e₃ y)
        go false d y = absurd y

    run-solved : (plan : List PlanStep) (S : Standing) → goals_run g at plan S ≡ true → SolvedAt S plan
    run-solved [] stuck e = false≢true e
    run-solved [] (standing i []) e = over
    run-solved [] (standing i (x ∷ rest)) e = absurd (false≢true e)
    run-solved (st ∷ plan) stuck e = run-solved plan stuck e
    run-solved (plan_step p i' k j' ∷ plan) (standing i goals) e =
        turn-solved (get_elem? g p) p i' k j' i goals refl (run-solved plan _ e)

    solved-one : {A i j : ℕ} {s : List ℕ} {plan : List PlanStep} → Solved i (goal A s j ∷ []) plan
        → Yields g (Holds at) (nonterminal A s ∷ []) i j plan
    solved-one (more y over) = rw append-nil y

    pub goals-sound : (n : ℕ) (plan : List PlanStep) → goals_pass g at n plan ≡ true → LeftmostDerivation g (Holds at) n plan
    goals-sound n plan e = solved-one (run-solved plan _ e)

    -- A yield of one nonterminal as a tree of the three kinds of step, with what the machine asks of each; a yield of a form as trees.
    data Tree : ℕ → List ℕ → ℕ → ℕ → List PlanStep → Type 0 where
      leaf : {p A w i : ℕ} → Stands g p (Lexical A w) → at i w ≡ true → Tree A [] i (suc i) (plan_step p i (suc i) (suc i) ∷ [])
      side_first : {p A B D i k j : ℕ} {a : Action} {s t : List ℕ} {left right : List PlanStep} → Stands g p (Spine A a (B ∷ []) D [])
          → Acts a s t → i < k → k < j → length t < j - k → Tree B [] i k left → Tree D t k j right
          → Tree A s i j (plan_step p i k j ∷ (left ++ right))
      side_last : {p A B D i k j : ℕ} {a : Action} {s t : List ℕ} {left right : List PlanStep} → Stands g p (Spine A a [] D (B ∷ []))
          → Acts a s t → i < k → k < j → length t < k - i → Tree D t i k left → Tree B [] k j right
          → Tree A s i j (plan_step p i k j ∷ (left ++ right))

    data Trees : List Symbol → ℕ → ℕ → List PlanStep → Type 0 where
      ended : {i : ℕ} → Trees [] i i []
      word_then : {w i j : ℕ} {f : List Symbol} {plan : List PlanStep} → at i w ≡ true → Trees f (suc i) j plan → Trees (word w ∷ f) i j plan
      tree_then : {A i k j : ℕ} {s : List ℕ} {f : List Symbol} {left right : List PlanStep} → Tree A s i k left → Trees f k j right
          → Trees (nonterminal A s ∷ f) i j (left ++ right)

    plant-word : {p A w i k m j : ℕ} {f : List Symbol} {first others rest : List PlanStep} → Stands g p (Lexical A w)
        → Trees (word w ∷ []) i k first → Trees [] k m others → Trees f m j rest
        → Trees (nonterminal A [] ∷ f) i j (plan_step p i k m ∷ ((first ++ others) ++ rest))
    plant-word x (word_then a ended) ended z = tree_then (leaf x a) z

    plant-first : {p A B D i k m j : ℕ} {a : Action} {s t : List ℕ} {f : List Symbol} {first others rest : List PlanStep}
        → Stands g p (Spine A a (B ∷ []) D []) → Acts a s t → i < k → k < m → length t < m - k
        → Trees (nonterminal B [] ∷ []) i k first → Trees (nonterminal D t ∷ []) k m others → Trees f m j rest
        → Trees (nonterminal A s ∷ f) i j (plan_step p i k m ∷ ((first ++ others) ++ rest))
    plant-first x b h₁ h₂ h₃ (tree_then t₀ ended) (tree_then t₁ ended) z = simp append-nil (tree_then (side_first x b h₁ h₂ h₃ t₀ t₁) z)

    plant-last : {p A B D i k m j : ℕ} {a : Action} {s t : List ℕ} {f : List Symbol} {first others rest : List PlanStep}
        → Stands g p (Spine A a [] D (B ∷ [])) → Acts a s t → i < k → k < m → length t < k - i
        → Trees (nonterminal D t ∷ []) i k first → Trees (nonterminal B [] ∷ []) k m others → Trees f m j rest
        → Trees (nonterminal A s ∷ f) i j (plan_step p i k m ∷ ((first ++ others) ++ rest))
    plant-last x b h₁ h₂ h₃ (tree_then t₀ ended) (tree_then t₁ ended) z = simp append-nil (tree_then (side_last x b h₁ h₂ h₃ t₀ t₁) z)

    plant : {p A D i k m j : ℕ} {a : Action} {before after s t : List ℕ} {f : List Symbol} {first others rest : List PlanStep}
        → OneSide (Spine A a before D after) → Stands g p (Spine A a before D after) → Acts a s t
        → Yields g (Holds at) (first_of (sides before ++ (nonterminal D t ∷ sides after))) i k first
        → Yields g (Holds at) (others_of (sides before ++ (nonterminal D t ∷ sides after))) k m others
        → Trees (first_of (sides before ++ (nonterminal D t ∷ sides after))) i k first
        → Trees (others_of (sides before ++ (nonterminal D t ∷ sides after))) k m others → Trees f m j rest
        → Trees (nonterminal A s ∷ f) i j (plan_step p i k m ∷ ((first ++ others) ++ rest))
    plant is_first x b y₀ y₁ t₀ t₁ z =
        plant-first x b (yields-longer g (Holds at) one y₀) (yields-longer g (Holds at) one y₁) (stack-depth g (Holds at) one y₁) t₀ t₁ z
    plant is_last x b y₀ y₁ t₀ t₁ z =
        plant-last x b (yields-longer g (Holds at) one y₀) (yields-longer g (Holds at) one y₁) (stack-depth g (Holds at) one y₀) t₀ t₁ z

    yields-trees : {f : List Symbol} {i j : ℕ} {plan : List PlanStep} → Yields g (Holds at) f i j plan → Trees f i j plan
    yields-trees nothing = ended
    yields-trees (reads a y) = word_then a (yields-trees y)
    yields-trees (replaces (lexical x) y₀ y₁ y₂) = plant-word x (yields-trees y₀) (yields-trees y₁) (yields-trees y₂)
    yields-trees (replaces {p = p} (spine x b) y₀ y₁ y₂) =
        plant (one p _ x) x b y₀ y₁ (yields-trees y₀) (yields-trees y₁) (yields-trees y₂)

    -- What the machine passes from: a tree passes in front of what passes.
    record Passes (i : ℕ) (goals : List Goal) (plan : List PlanStep) : Type 0 where
      ok : goals_run g at plan (standing i goals) ≡ true

    pass_step : {p i k j A i' : ℕ} {s : List ℕ} {goals rest : List Goal} {plan : List PlanStep} (R : Rule) → Stands g p R
        → fits R (at i) A (length s) (top_index s) i k j ≡ true → replaced R s i k j rest ≡ standing i' goals
        → Passes i' goals plan → Passes i (goal A s j ∷ rest) (plan_step p i k j ∷ plan)
    pass_step {p} {i} {k} {j} {A} {s = s} {rest = rest} {plan = plan} R x e d c =
        let test : eqb i i && (eqb j j && fits R (at i) A (length s) (top_index s) i k j) ≡ true = simp (eqb-self i, eqb-self j, e) in
        record {
          ok =
              ap (λ (o : Option Rule). goals_run g at plan (turn at o (plan_step p i k j) i (goal A s j ∷ rest))) (stands-get_elem x)
              ∙ (ap (λ (b : Bool). goals_run g at plan (turn_to b (replaced R s i k j rest))) test ∙ (ap (goals_run g at plan) d ∙ c.ok));
        }

    acts-pass : (A : ℕ) {a : Action} (before : List ℕ) (D : ℕ) (after : List ℕ) {s t : List ℕ} (i k j : ℕ) → Acts a s t → i < k → k < j
        → length t < dependent_span before i k j → fits (Spine A a before D after) (at i) A (length s) (top_index s) i k j ≡ true
    acts-pass A before D after {t = t} i k j b h₁ h₂ h₃ = let (e₁, e₂, e₃) = acts-fits b in
        simp (eqb-self A, lt-ltb i k h₁, lt-ltb k j h₂, e₁, e₃, lt-ltb (length t) (dependent_span before i k j) h₃)

    pass-tree : {A i j : ℕ} {s : List ℕ} {plan : List PlanStep} → Tree A s i j plan → (goals : List Goal) (rest : List PlanStep)
        → Passes j goals rest → Passes i (goal A s j ∷ goals) (plan ++ rest)
    pass-tree (leaf {A = A} {w = w} {i = i} x a) goals rest c =
        pass_step (Lexical A w) x (simp (eqb-self A, eqb-self (suc i), a)) refl c
    pass-tree (side_first {A = A} {B = B} {D = D} {i = i} {k = k} {j = j} {left = left} {right = right} x b h₁ h₂ h₃ t₀ t₁) goals rest c =
        let (e₁, e₂, e₃) = acts-fits b in
        rw (append_assoc left right rest)
        (pass_step _ x (acts-pass A (B ∷ []) D [] i k j b h₁ h₂ h₃) (rw e₂) (pass-tree t₀ _ _ (pass-tree t₁ goals rest c)))
    pass-tree (side_last {A = A} {B = B} {D = D} {i = i} {k = k} {j = j} {left = left} {right = right} x b h₁ h₂ h₃ t₀ t₁) goals rest c =
        let (e₁, e₂, e₃) = acts-fits b in
        rw (append_assoc left right rest)
        (pass_step _ x (acts-pass A [] D (B ∷ []) i k j b h₁ h₂ h₃) (rw e₂) (pass-tree t₀ _ _ (pass-tree t₁ goals rest c)))

    pass-trees : {A i j : ℕ} {s : List ℕ} {plan : List PlanStep} → Trees (nonterminal A s ∷ []) i j plan → Passes i (goal A s j ∷ []) plan
    pass-trees (tree_then t ended) = pass-tree t [] [] (record { ok = refl })

    pub goals-complete : (n : ℕ) {plan : List PlanStep} → LeftmostDerivation g (Holds at) n plan → goals_pass g at n plan ≡ true
    goals-complete n y = (pass-trees (yields-trees y)).ok

    -- So it is the plan test.
    pub goals-pass : (n : ℕ) (plan : List PlanStep) → goals_pass g at n plan ≡ passes g at n plan
    goals-pass n plan =
        go (goals_pass g at n plan) (passes g at n plan) (λ e. passes-complete g at n (goals-sound n plan e))
        (λ e. goals-complete n (passes-sound g at n {plan = plan} e))
      where
        go : (a b : Bool) → (a ≡ true → b ≡ true) → (b ≡ true → a ≡ true) → a ≡ b
        go true b f h = sym (f refl)
        go false true f h = h refl
        go false false f h = refl
