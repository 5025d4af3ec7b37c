-- Of a plan's leftmost nonterminals the stacks' depths alone are followed: a step takes the first depth from the list and puts those
-- of its right side in front. Every plan that yields a form runs so, from the depths of the form to none.
use Prim.Native.Nat.{ℕ, suc, ◌+◌}
use native.Mathlib.Omega.{arith}
use mathlib.Core.Path.{◌≡◌, refl, ap}
use mathlib.Core.List.{List, [], ◌∷◌, ◌++◌, append_assoc}
use lib.ListN.{length}
use Rattle.grammar.specs.Lists.{Stands}
use Rattle.grammar.specs.Rewriting.{Rule, Lexical, Spine, Action, Take, Keep, Give, Acts, takes, keeps}
use Rattle.grammar.specs.Rewriting.{gives, Symbol, word, nonterminal, sides, Replaces, lexical, spine}
use Rattle.grammar.specs.Plan.{PlanStep, plan_step, first_of, others_of, Yields, nothing, reads, replaces}

-- The depths of a form's stacks, a word has none; their sum.
abbrev pub depths : List Symbol → List ℕ
depths [] = []
depths (word w ∷ f) = depths f
depths (nonterminal A s ∷ f) = length s ∷ depths f

abbrev pub total : List ℕ → ℕ
total [] = 0
total (n ∷ ns) = n + total ns

-- The depths of a right side with the dependent's depth n, in front of others.
abbrev pub zeros : List ℕ → List ℕ
zeros [] = []
zeros (B ∷ Bs) = 0 ∷ zeros Bs

abbrev pub spine_depths : List ℕ → ℕ → List ℕ → List ℕ → List ℕ
spine_depths before n after ns = zeros before ++ (n ∷ (zeros after ++ ns))

-- What an action does with a depth.
pub data Shifts : Action → ℕ → ℕ → Type 0 where
  less : {γ n : ℕ} → Shifts (Take γ) (suc n) n
  same : {n : ℕ} → Shifts Keep n n
  more : {γ n : ℕ} → Shifts (Give γ) n (suc n)

pub data Runs (g : List Rule) : List ℕ → List PlanStep → Type 0 where
  over : Runs g [] []
  word_step : {p i k j A w : ℕ} {ns : List ℕ} {plan : List PlanStep} → Stands g p (Lexical A w) → Runs g ns plan
      → Runs g (0 ∷ ns) (plan_step p i k j ∷ plan)
  spine_step : {p i k j A D n n' : ℕ} {a : Action} {before after ns : List ℕ} {plan : List PlanStep}
      → Stands g p (Spine A a before D after) → Shifts a n n' → Runs g (spine_depths before n' after ns) plan
      → Runs g (n ∷ ns) (plan_step p i k j ∷ plan)

pub total-append : (ms ns : List ℕ) → total (ms ++ ns) ≡ total ms + total ns
total-append [] ns = omega arith
total-append (m ∷ ms) ns = omega (arith, total-append ms ns)

total-zeros : (Bs : List ℕ) → total (zeros Bs) ≡ 0
total-zeros [] = refl
total-zeros (B ∷ Bs) = omega (arith, total-zeros Bs)

pub total-spine : (before : List ℕ) (n : ℕ) (after ns : List ℕ) → total (spine_depths before n after ns) ≡ n + total ns
total-spine before n after ns =
    rw (total-append, total-append) (omega (arith, total-zeros before, total-zeros after))

spine-append : (before : List ℕ) (n : ℕ) (after ms ns : List ℕ)
    → spine_depths before n after ms ++ ns ≡ spine_depths before n after (ms ++ ns)
spine-append before n after ms ns = simp append_assoc

runs-at : {g : List Rule} {ms ns : List ℕ} {plan : List PlanStep} → ms ≡ ns → Runs g ms plan → Runs g ns plan
runs-at e x = rw e at x

runs-join : {g : List Rule} {ms ns : List ℕ} {ps qs : List PlanStep} → Runs g ms ps → Runs g ns qs → Runs g (ms ++ ns) (ps ++ qs)
runs-join over y = y
runs-join (word_step s x) y = word_step s (runs-join x y)
runs-join {ns = ns} (spine_step {n' = n'} {before = before} {after = after} {ns = ms} s a x) y =
    spine_step s a (runs-at (spine-append before n' after ms ns) (runs-join x y))

depths-append : (f h : List Symbol) → depths (f ++ h) ≡ depths f ++ depths h
depths-append [] h = refl
depths-append (word w ∷ f) h = depths-append f h
depths-append (nonterminal A s ∷ f) h = ap (λ (l : List ℕ). length s ∷ l) (depths-append f h)

depths-sides : (Bs : List ℕ) → depths (sides Bs) ≡ zeros Bs
depths-sides [] = refl
depths-sides (B ∷ Bs) = ap (λ (l : List ℕ). 0 ∷ l) (depths-sides Bs)

depths-parts : (r : List Symbol) → depths (first_of r) ++ depths (others_of r) ≡ depths r
depths-parts [] = refl
depths-parts (word w ∷ r) = refl
depths-parts (nonterminal A s ∷ r) = refl

acts-shifts : {a : Action} {s t : List ℕ} → Acts a s t → Shifts a (length s) (length t)
acts-shifts takes = less
acts-shifts keeps = same
acts-shifts gives = more

depths-spine : (before : List ℕ) (D : ℕ) (t after ns : List ℕ)
    → depths (sides before ++ (nonterminal D t ∷ sides after)) ++ ns ≡ spine_depths before (length t) after ns
depths-spine before D t after ns = simp (depths-append, depths-sides, append_assoc)

runs-step : {g : List Rule} {p i k m : ℕ} {X : Symbol} {r : List Symbol} (f : List Symbol) {plan : List PlanStep}
    → Replaces g p X r → Runs g (depths r ++ depths f) plan → Runs g (depths (X ∷ f)) (plan_step p i k m ∷ plan)
runs-step f (lexical s) x = word_step s x
runs-step f (spine {D = D} {before = before} {after = after} {t = t} s a) x =
    spine_step s (acts-shifts a) (runs-at (depths-spine before D t after (depths f)) x)

pub yields-runs : {g : List Rule} {at : ℕ → ℕ → Type 0} {f : List Symbol} {i j : ℕ} {plan : List PlanStep} → Yields g at f i j plan
    → Runs g (depths f) plan
yields-runs nothing = over
yields-runs (reads a y) = yields-runs y
yields-runs (replaces {r = r} {f = f} s y₀ y₁ y₂) =
    runs-step f s (rw (← depths-parts r) (runs-join (runs-join (yields-runs y₀) (yields-runs y₁)) (yields-runs y₂)))
