-- Pairs by the names of indices are pairs by bracket matching: a pair's number, put on a stack, meets in turn the side of the take
-- that removes it. By induction on a run of the plan, with each pair of the stacks given its take among the plan's open takes, in order.
use Prim.Native.Nat.{ℕ, zero, suc, ◌+◌, ◌≤◌, ◌<◌}
use native.Mathlib.Nat.{le_trans}
use native.Mathlib.Omega.{arith}
use mathlib.Core.Path.{◌≡◌, refl, sym, ap, ◌∙◌}
use mathlib.Core.List.{List, [], ◌∷◌, ◌++◌, append_assoc, append-nil}
use mathlib.Core.Option.{Option, none, some}
use lib.ListN.{length, get_elem?, length-append}
use Rattle.grammar.specs.Rewriting.{Rule, Lexical, Spine, Action, Take, Keep, Give, Symbol}
use Rattle.grammar.specs.Plan.{PlanStep, production_in, Yields, LeftmostDerivation}
use Rattle.grammar.specs.Pairs.{Stretch, no_stretch, Pair, pair, take_pair, empty_stacks, spine_stacks, Replay, replay_action, replay, pairs_of}
use Rattle.grammar.specs.Matching.{takes_action, takes_of, matched_action, matched_rule, matched, one_give, one_take, count_rule, give_steps, take_steps}
use Rattle.grammar.proofs.StandsLaws.{stands-get_elem}
use Rattle.grammar.proofs.PlanRuns.{depths, total, zeros, spine_depths, Shifts, less, same, more}
use Rattle.grammar.proofs.PlanRuns.{Runs, over, word_step, spine_step, total-spine, yields-runs}

-- The open takes are as many as the stacks have indices.
shift_count : {a : Action} {n n' : ℕ} (side : Stretch) (ts : List Stretch) (t : ℕ) → Shifts a n n' → length ts ≡ n' + t
    → length (takes_action a side ts) ≡ n + t
shift_count side ts t less h = omega arith
shift_count side ts t same h = h
shift_count side [] t more h = absurd (omega arith)
shift_count side (x ∷ ts) t more h = omega arith

pub runs-count : {g : List Rule} {ns : List ℕ} {plan : List PlanStep} → Runs g ns plan → length (takes_of g plan) ≡ total ns
runs-count over = refl
runs-count (word_step s r) = rw (stands-get_elem s) (omega (arith, runs-count r))
runs-count {g} (spine_step {n' = n'} {before = before} {after = after} {ns = ns} {plan = plan} s a r) =
    rw (stands-get_elem s) (shift_count _ (takes_of g plan) (total ns) a (runs-count r ∙ total-spine before n' after ns))

pub takes_count : {g : List Rule} {at : ℕ → ℕ → Type 0} {f : List Symbol} {i j : ℕ} {plan : List PlanStep} → Yields g at f i j plan
    → length (takes_of g plan) ≡ total (depths f)
takes_count y = runs-count (yields-runs y)

-- What follows a run adds its own open takes and pairs.
takes-shift : {a : Action} {n n' : ℕ} (side : Stretch) (ts us : List Stretch) (t : ℕ) → Shifts a n n' → length ts ≡ n' + t
    → takes_action a side (ts ++ us) ≡ takes_action a side ts ++ us
takes-shift side ts us t less h = refl
takes-shift side ts us t same h = refl
takes-shift side [] us t more h = absurd (omega arith)
takes-shift side (x ∷ ts) us t more h = refl

matched-shift : {a : Action} {n n' : ℕ} (side : Stretch) (ts us : List Stretch) (xs ys : List Pair) (t : ℕ) → Shifts a n n'
    → length ts ≡ n' + t → matched_action a side (ts ++ us) (xs ++ ys) ≡ matched_action a side ts xs ++ ys
matched-shift side ts us xs ys t less h = refl
matched-shift side ts us xs ys t same h = refl
matched-shift side [] us xs ys t more h = absurd (omega arith)
matched-shift side (x ∷ ts) us xs ys t more h = refl

runs-takes : {g : List Rule} {ns : List ℕ} {plan : List PlanStep} → Runs g ns plan → (rest : List PlanStep)
    → takes_of g (plan ++ rest) ≡ takes_of g plan ++ takes_of g rest
runs-takes over rest = refl
runs-takes (word_step s r) rest = rw (stands-get_elem s) (runs-takes r rest)
runs-takes {g} (spine_step {n' = n'} {before = before} {after = after} {ns = ns} {plan = plan} s a r) rest =
    rw (stands-get_elem s, runs-takes r rest)
    (takes-shift _ (takes_of g plan) (takes_of g rest) (total ns) a (runs-count r ∙ total-spine before n' after ns))

runs-matched : {g : List Rule} {ns : List ℕ} {plan : List PlanStep} → Runs g ns plan → (rest : List PlanStep)
    → matched g (plan ++ rest) ≡ matched g plan ++ matched g rest
runs-matched over rest = refl
runs-matched (word_step s r) rest = rw (stands-get_elem s) (runs-matched r rest)
runs-matched {g} (spine_step {n' = n'} {before = before} {after = after} {ns = ns} {plan = plan} s a r) rest =
    rw (stands-get_elem s, runs-takes r rest, runs-matched r rest)
    (matched-shift _ (takes_of g plan) (takes_of g rest) (matched g plan) (matched g rest) (total ns) a
    (runs-count r ∙ total-spine before n' after ns))

pub takes-append : {g : List Rule} {at : ℕ → ℕ → Type 0} {f : List Symbol} {i j : ℕ} {plan : List PlanStep} → Yields g at f i j plan
    → (rest : List PlanStep) → takes_of g (plan ++ rest) ≡ takes_of g plan ++ takes_of g rest
takes-append y = runs-takes (yields-runs y)

pub matched-append : {g : List Rule} {at : ℕ → ℕ → Type 0} {f : List Symbol} {i j : ℕ} {plan : List PlanStep} → Yields g at f i j plan
    → (rest : List PlanStep) → matched g (plan ++ rest) ≡ matched g plan ++ matched g rest
matched-append y = runs-matched (yields-runs y)

-- Each numbered pair gets the take that stands in its place.
abbrev take_all : List ℕ → List Stretch → List Pair → List Pair
take_all [] ts pairs = pairs
take_all (m ∷ ms) [] pairs = pairs
take_all (m ∷ ms) (t ∷ ts) pairs = take_all ms ts (take_pair m t pairs)

-- All numbers of a list are below n.
data Under (n : ℕ) : List ℕ → Type 0 where
  empty : Under n []
  under : {m : ℕ} {ms : List ℕ} → m < n → Under n ms → Under n (m ∷ ms)

under_more : {m n : ℕ} {ms : List ℕ} → m ≤ n → Under m ms → Under n ms
under_more h empty = empty
under_more h (under l u) = under (le_trans l h) (under_more h u)

take_pair-length : (m : ℕ) (t : Stretch) (pairs : List Pair) → length (take_pair m t pairs) ≡ length pairs
take_pair-length m t [] = refl
take_pair-length zero t (pair a b ∷ pairs) = refl
take_pair-length (suc m) t (x ∷ pairs) = ap suc (take_pair-length m t pairs)

take_pair-append : (m : ℕ) (t : Stretch) (pairs others : List Pair) → m < length pairs
    → take_pair m t (pairs ++ others) ≡ take_pair m t pairs ++ others
take_pair-append m t [] others h = absurd (omega arith)
take_pair-append zero t (pair a b ∷ pairs) others h = refl
take_pair-append (suc m) t (x ∷ pairs) others h = ap (λ (l : List Pair). x ∷ l) (take_pair-append m t pairs others (omega arith))

take_pair-last : (t a b : Stretch) (pairs : List Pair) → take_pair (length pairs) t (pairs ++ (pair a b ∷ [])) ≡ pairs ++ (pair a t ∷ [])
take_pair-last t a b [] = refl
take_pair-last t a b (x ∷ pairs) = ap (λ (l : List Pair). x ∷ l) (take_pair-last t a b pairs)

take_all-append : (ms : List ℕ) (ts : List Stretch) (pairs others : List Pair) → Under (length pairs) ms
    → take_all ms ts (pairs ++ others) ≡ take_all ms ts pairs ++ others
take_all-append [] ts pairs others u = refl
take_all-append (m ∷ ms) [] pairs others u = refl
take_all-append (m ∷ ms) (t ∷ ts) pairs others (under l u) =
    rw (take_pair-append m t pairs others l)
    (take_all-append ms ts (take_pair m t pairs) others (rw (take_pair-length m t pairs) u))

take_all-new : (ms : List ℕ) (ts : List Stretch) (side t : Stretch) (pairs xs : List Pair) → Under (length pairs) ms
    → take_all (length pairs ∷ ms) (t ∷ ts) (pairs ++ (pair side no_stretch ∷ [])) ++ xs ≡ take_all ms ts pairs ++ (pair side t ∷ xs)
take_all-new ms ts side t pairs xs u =
    ap (λ (l : List Pair). take_all ms ts l ++ xs) (take_pair-last t side no_stretch pairs)
    ∙ (rw (take_all-append ms ts pairs (pair side t ∷ []) u) (append_assoc (take_all ms ts pairs) (pair side t ∷ []) xs))

-- The numbers on the stacks, leftmost and top first; and stacks that have these depths.
abbrev flat : List (List ℕ) → List ℕ
flat [] = []
flat (s ∷ stacks) = s ++ flat stacks

data Fits : List (List ℕ) → List ℕ → Type 0 where
  nostacks : Fits [] []
  bottom : {stacks : List (List ℕ)} {ns : List ℕ} → Fits stacks ns → Fits ([] ∷ stacks) (0 ∷ ns)
  push : {m n : ℕ} {s ns : List ℕ} {stacks : List (List ℕ)} → Fits (s ∷ stacks) (n ∷ ns)
      → Fits ((m ∷ s) ∷ stacks) (suc n ∷ ns)

flat-empty : (Bs : List ℕ) (stacks : List (List ℕ)) → flat (empty_stacks Bs ++ stacks) ≡ flat stacks
flat-empty [] stacks = refl
flat-empty (B ∷ Bs) stacks = flat-empty Bs stacks

flat-spine : (before s after : List ℕ) (stacks : List (List ℕ)) → flat (spine_stacks before s after stacks) ≡ s ++ flat stacks
flat-spine before s after stacks = flat-empty before _ ∙ ap (λ (l : List ℕ). s ++ l) (flat-empty after stacks)

fits-empty : (Bs : List ℕ) {stacks : List (List ℕ)} {ns : List ℕ} → Fits stacks ns → Fits (empty_stacks Bs ++ stacks) (zeros Bs ++ ns)
fits-empty [] x = x
fits-empty (B ∷ Bs) x = bottom (fits-empty Bs x)

fits-sides : (after : List ℕ) {s ns : List ℕ} {n : ℕ} {stacks : List (List ℕ)} → Fits (s ∷ stacks) (n ∷ ns)
    → Fits (s ∷ (empty_stacks after ++ stacks)) (n ∷ (zeros after ++ ns))
fits-sides after (bottom x) = bottom (fits-empty after x)
fits-sides after (push x) = push (fits-sides after x)

-- Replaying gives the numbers on the stacks the open takes, and adds the pairs of the plan.
abbrev Replays : (Replay → List Pair) → List Stretch → List Pair → List ℕ → Type 0
Replays play ts xs ns = (stacks : List (List ℕ)) (pairs : List Pair) → Fits stacks ns → Under (length pairs) (flat stacks)
    → play (record { stacks = stacks; pairs = pairs }) ≡ take_all (flat stacks) ts pairs ++ xs

module _ (play : Replay → List Pair) (xs : List Pair) (before after ns : List ℕ) where
  replays-spine : (s : List ℕ) (n : ℕ) (ts : List Stretch) (stacks : List (List ℕ)) (pairs : List Pair)
      → Replays play ts xs (spine_depths before n after ns) → Fits (s ∷ stacks) (n ∷ ns) → Under (length pairs) (s ++ flat stacks)
      → play (record { stacks = spine_stacks before s after stacks; pairs = pairs }) ≡ take_all (s ++ flat stacks) ts pairs ++ xs
  replays-spine s n ts stacks pairs go f u =
      let e = flat-spine before s after stacks in
      go (spine_stacks before s after stacks) pairs (fits-empty before (fits-sides after f)) (rw e u)
      ∙ ap (λ (l : List ℕ). take_all l ts pairs ++ xs) e

  replays-shift : {a : Action} {n n' : ℕ} (side : Stretch) (s : List ℕ) (ts : List Stretch) (t : ℕ) (stacks : List (List ℕ)) (pairs : List Pair)
      → Shifts a n n' → length ts ≡ n' + t → Replays play ts xs (spine_depths before n' after ns) → Fits (s ∷ stacks) (n ∷ ns)
      → Under (length pairs) (s ++ flat stacks)
      → play (replay_action a side before after s stacks pairs)
      ≡ take_all (s ++ flat stacks) (takes_action a side ts) pairs ++ matched_action a side ts xs
  replays-shift side s ts t stacks pairs less h go (push {m = m} {s = s'} f) (under l u) =
      replays-spine s' _ ts stacks (take_pair m side pairs) go f (rw (take_pair-length m side pairs) u)
  replays-shift side s ts t stacks pairs same h go f u = replays-spine s _ ts stacks pairs go f u
  replays-shift side s [] t stacks pairs more h go f u = absurd (omega arith)
  replays-shift side s (y ∷ ts) t stacks pairs more h go f u =
      let e = length-append pairs (pair side no_stretch ∷ []) in
      replays-spine (length pairs ∷ s) _ (y ∷ ts) stacks (pairs ++ (pair side no_stretch ∷ [])) go (push f)
      (under (omega arith) (under_more (omega arith) u))
      ∙ take_all-new (s ++ flat stacks) ts side y pairs xs u

runs-replays : {g : List Rule} {ns : List ℕ} {plan : List PlanStep} → Runs g ns plan
    → Replays (replay g plan) (takes_of g plan) (matched g plan) ns
runs-replays over stacks pairs nostacks u = sym (append-nil pairs)
runs-replays (word_step s r) ([] ∷ stacks) pairs (bottom f) u = rw (stands-get_elem s) (runs-replays r stacks pairs f u)
runs-replays {g} (spine_step {n' = n'} {before = before} {after = after} {ns = ns} {plan = plan} s a r) (x ∷ stacks) pairs f u =
    rw (stands-get_elem s)
    (replays-shift (replay g plan) (matched g plan) before after ns _ x (takes_of g plan) (total ns) stacks pairs a
    (runs-count r ∙ total-spine before n' after ns) (runs-replays r) f u)
runs-replays (word_step s r) [] pairs f u = elim f [ ]
runs-replays (word_step s r) ((_ ∷ _) ∷ stacks) pairs f u = elim f [ ]
runs-replays (spine_step s a r) [] pairs f u = elim f [ ]

pub pairs-matched : {g : List Rule} {at : ℕ → ℕ → Type 0} {n : ℕ} {plan : List PlanStep} → LeftmostDerivation g at n plan
    → pairs_of g plan ≡ matched g plan
pairs-matched y = runs-replays (yields-runs y) ([] ∷ []) [] (bottom nostacks) empty

-- A pair for each step that gives, and as many that take.
pub matched_action-length : (a : Action) (side : Stretch) (ts : List Stretch) (xs : List Pair)
    → length (matched_action a side ts xs) ≡ one_give a + length xs
matched_action-length (Take γ) side ts xs = omega arith
matched_action-length Keep side ts xs = omega arith
matched_action-length (Give γ) side ts xs = omega arith

matched_rule-length : (r : Option Rule) (st : PlanStep) (ts : List Stretch) (xs : List Pair)
    → length (matched_rule r st ts xs) ≡ count_rule one_give r + length xs
matched_rule-length none st ts xs = omega arith
matched_rule-length (some (Lexical A w)) st ts xs = omega arith
matched_rule-length (some (Spine A a before D after)) st ts xs = matched_action-length a _ ts xs

pub matched-length : (g : List Rule) (plan : List PlanStep) → length (matched g plan) ≡ give_steps g plan
matched-length g [] = refl
matched-length g (st ∷ plan) =
    omega (arith, matched_rule-length (get_elem? g (production_in st)) st (takes_of g plan) (matched g plan), matched-length g plan)

pub gives-count : {g : List Rule} {at : ℕ → ℕ → Type 0} {n : ℕ} {plan : List PlanStep} → LeftmostDerivation g at n plan
    → length (pairs_of g plan) ≡ give_steps g plan
gives-count {g} {plan = plan} y = rw (pairs-matched y) (matched-length g plan)

shift-steps : {a : Action} {n n' : ℕ} (t x y : ℕ) → Shifts a n n' → x ≡ y + (n' + t) → one_take a + x ≡ one_give a + y + (n + t)
shift-steps t x y less h = omega arith
shift-steps t x y same h = omega arith
shift-steps t x y more h = omega arith

runs-steps : {g : List Rule} {ns : List ℕ} {plan : List PlanStep} → Runs g ns plan → take_steps g plan ≡ give_steps g plan + total ns
runs-steps over = refl
runs-steps (word_step s r) = rw (stands-get_elem s) (omega (arith, runs-steps r))
runs-steps {g} (spine_step {n' = n'} {before = before} {after = after} {ns = ns} {plan = plan} s a r) =
    rw (stands-get_elem s)
    (shift-steps (total ns) (take_steps g plan) (give_steps g plan) a (omega (arith, runs-steps r, total-spine before n' after ns)))

pub takes_gives : {g : List Rule} {at : ℕ → ℕ → Type 0} {n : ℕ} {plan : List PlanStep} → LeftmostDerivation g at n plan
    → take_steps g plan ≡ give_steps g plan
takes_gives y = omega (arith, runs-steps (yields-runs y))
