-- The goals tile the line from the present place to its end, and each stack is less deep than its goal's stretch is long. So the
-- goals and all their indices together are no more than the places left; a step keeps this, by the cases of its rule. Where the
-- line has no words its first goal covers none, so it is no tile; and no rule fits it.
use Prim.Native.Nat.{ℕ, zero, suc, ◌+◌, ◌≤◌, ◌<◌}
use native.Mathlib.Omega.{arith}
use mathlib.Core.Path.{◌≡◌, refl}
use mathlib.Core.Bool.{Bool, true, false, ◌&&◌}
use mathlib.Core.List.{List, [], ◌∷◌}
use mathlib.Core.Option.{Option, none, some}
use lib.Dec.{eqb}
use lib.ListN.{length, get_elem?, length-append}
use Rattle.grammar.specs.Rewriting.{Rule, Lexical, Spine, Action, Take, Keep, Give}
use Rattle.grammar.specs.Plan.{PlanStep, plan_step, production_in}
use Rattle.goals.specs.Goals.{Goal, goal, Standing, stuck, standing, top_index, depth_after, stack_after, fits, replaced, turn_to, turn, next, Tiled, reached, tiled}
use Rattle.goals.specs.Shown.{indices_of}
use Rattle.goals.proofs.GoalsTest.{word_fits, pair_fits}

abbrev pub TiledAt : ℕ → Standing → Type 0
TiledAt n stuck = Unit
TiledAt n (standing i goals) = Tiled i n goals

pub tiled-start : (n : ℕ) → 0 < n → Tiled 0 n (goal 0 [] n ∷ [])
tiled-start n h = tiled {i = 0} {j = n} {s = []} (omega arith) reached

-- The goals and their indices are few.
pub tiled-few : {i n : ℕ} {goals : List Goal} → Tiled i n goals → i + length goals + length (indices_of goals) ≤ n
tiled-few reached = omega arith
tiled-few (tiled {s = s} {rest = rest} h t) = simp length-append (omega (arith, tiled-few t))

depth-length : (a : Action) (s : List ℕ) → length (stack_after a s) ≡ depth_after a (length s)
depth-length (Take γ) [] = refl
depth-length (Take γ) (x ∷ s) = omega arith
depth-length Keep s = refl
depth-length (Give γ) s = refl

replaced-tiled : (at : ℕ → ℕ → Bool) (R : Rule) (A : ℕ) (s : List ℕ) (i k j n : ℕ) (rest : List Goal)
    → fits R (at i) A (length s) (top_index s) i k j ≡ true → Tiled j n rest → TiledAt n (replaced R s i k j rest)
replaced-tiled at (Lexical A' w) A s i k j n rest e t = t
replaced-tiled at (Spine A' a [] D []) A s i k j n rest e t = tt
replaced-tiled at (Spine A' a [] D (B ∷ [])) A s i k j n rest e t =
    let (e₁, e₂, e₃, e₄, e₅) = pair_fits (at i) A' a [] D (B ∷ []) A (length s) (top_index s) i k j e in
    let h = depth-length a s in
    tiled {i = i} {j = k} {s = stack_after a s} (omega arith) (tiled {i = k} {j = j} {s = []} (omega arith) t)
replaced-tiled at (Spine A' a [] D (B ∷ C ∷ after)) A s i k j n rest e t = tt
replaced-tiled at (Spine A' a (B ∷ []) D []) A s i k j n rest e t =
    let (e₁, e₂, e₃, e₄, e₅) = pair_fits (at i) A' a (B ∷ []) D [] A (length s) (top_index s) i k j e in
    let h = depth-length a s in
    tiled {i = i} {j = k} {s = []} (omega arith) (tiled {i = k} {j = j} {s = stack_after a s} (omega arith) t)
replaced-tiled at (Spine A' a (B ∷ []) D (C ∷ after)) A s i k j n rest e t = tt
replaced-tiled at (Spine A' a (B ∷ C ∷ before) D after) A s i k j n rest e t = tt

-- What holds of a replaced goal where the rule fits, and where nothing fits any more, holds of a turn.
turn-holds : (P : Standing → Type 0) (a b c : Bool) (S : Standing) → P stuck → (c ≡ true → P S) → P (turn_to (a && (b && c)) S)
turn-holds P false b c S p f = p
turn-holds P true false c S p f = p
turn-holds P true true false S p f = p
turn-holds P true true true S p f = f refl

turn-tiled : (at : ℕ → ℕ → Bool) (o : Option Rule) (st : PlanStep) (n i : ℕ) (goals : List Goal) → Tiled i n goals
    → TiledAt n (turn at o st i goals)
turn-tiled at o st n i [] t = tt
turn-tiled at none st n i (x ∷ rest) t = tt
turn-tiled at (some R) (plan_step p i' k j') n i (goal A s j ∷ rest) (tiled h t) =
    turn-holds (TiledAt n) (eqb i' i) (eqb j' j) (fits R (at i) A (length s) (top_index s) i k j) (replaced R s i k j rest) tt
    (λ e. replaced-tiled at R A s i k j n rest e t)

pub next-tiled : (g : List Rule) (at : ℕ → ℕ → Bool) (st : PlanStep) (n : ℕ) (S : Standing) → TiledAt n S → TiledAt n (next g at st S)
next-tiled g at st n stuck t = tt
next-tiled g at st n (standing i goals) t = turn-tiled at (get_elem? g (production_in st)) st n i goals t

-- Where a replay stands: at goals that tile the line, or at the first goal of a line of no words.
pub data Placed : ℕ → ℕ → List Goal → Type 0 where
  on_tiles : {i n : ℕ} {goals : List Goal} → Tiled i n goals → Placed i n goals
  no_words : Placed 0 0 (goal 0 [] 0 ∷ [])

abbrev pub PlacedAt : ℕ → Standing → Type 0
PlacedAt n stuck = Unit
PlacedAt n (standing i goals) = Placed i n goals

pub placed-start : (n : ℕ) → Placed 0 n (goal 0 [] n ∷ [])
placed-start zero = no_words
placed-start (suc n) = on_tiles (tiled-start (suc n) (omega arith))

pub placed-few : {i n : ℕ} {goals : List Goal} → n ≤ 24 → Placed i n goals
    → (length goals ≤ 24) × (length (indices_of goals) ≤ 24) × (0 < length goals → i < 24)
placed-few h (on_tiles t) = let few = tiled-few t in (omega arith, omega arith, λ p. omega arith)
placed-few h no_words = (omega arith, omega arith, λ p. omega arith)

none-fits : (R : Rule) (here : ℕ → Bool) (k : ℕ) → fits R here 0 0 0 0 k 0 ≡ true → ⊥
none-fits (Lexical A w) here k e = let (e₁, e₂, e₃, e₄, e₅) = word_fits here A w 0 0 0 0 k 0 e in omega arith
none-fits (Spine A a before D after) here k e =
    let (e₁, e₂, e₃, e₄, e₅) = pair_fits here A a before D after 0 0 0 0 k 0 e in omega arith

turn-none : (at : ℕ → ℕ → Bool) (o : Option Rule) (st : PlanStep) → PlacedAt 0 (turn at o st 0 (goal 0 [] 0 ∷ []))
turn-none at none st = tt
turn-none at (some R) (plan_step p i' k j') =
    turn-holds (PlacedAt 0) (eqb i' 0) (eqb j' 0) (fits R (at 0) 0 0 0 0 k 0) (replaced R [] 0 k 0 []) tt
    (λ e. absurd (none-fits R (at 0) k e))

pub next-placed : (g : List Rule) (at : ℕ → ℕ → Bool) (st : PlanStep) (n i : ℕ) (goals : List Goal) → Placed i n goals
    → PlacedAt n (next g at st (standing i goals))
next-placed g at st n i goals (on_tiles t) = go (next g at st (standing i goals)) (next-tiled g at st n (standing i goals) t)
  where
    go : (S : Standing) → TiledAt n S → PlacedAt n S
    go stuck u = tt
    go (standing i' rest) u = on_tiles u
next-placed g at st n i goals no_words = turn-none at (get_elem? g (production_in st)) st
