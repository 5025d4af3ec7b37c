-- The two loops over a plan: what is still to be counted, and what waits and is written, belongs to the rest of the plan from a step on. One
-- step more in front changes it by its action.
use Prim.Native.Nat.{ℕ, suc, ◌+◌, ◌*◌, ◌/◌, ◌≤◌, ◌<◌}
use native.Mathlib.Omega.{arith}
use native.Mathlib.Decide.{dec_lt}
use mathlib.Core.Path.{◌≡◌, refl, sym, ◌∙◌, ap, subst}
use mathlib.Core.List.{List, [], ◌∷◌, ◌++◌}
use mathlib.Core.Option.{Option, some}
use mathlib.Core.Logic.{∥∥₁_elim}
use Rattle.std.proofs.Props.{props}
use lib.ListN.{length, take, drop, get_elem?, length-append, length-map, length-drop, drop_of_length-le, take-append-drop}
use lib.Seq.{length-take-le}
use Rattle.grammar.specs.Rewriting.{Rule, Action, Take, Keep, Give}
use Rattle.grammar.specs.Plan.{PlanStep, production_in}
use Rattle.grammar.specs.Pairs.{Stretch, stretch, side_of, place_in, Pair}
use Rattle.grammar.specs.Matching.{takes_action, takes_rule, takes_of, matched_action, matched_rule, matched, one_give}
use Rattle.grammar.proofs.StandsLaws.{none-some, some_same}
use Rattle.grammar.proofs.PairsLaws.{matched_action-length}
use Rattle.layout.specs.Card.{production_count, grammar_of}
use Rattle.layout.specs.Steps.{steps_of, pairs_bytes}
use Rattle.layout.specs.Answers.{plan_pairs, pairs_after}
use Rattle.goals.specs.Shown.{action_of}
use Rattle.check_pairs.specs.Checked.{Checked}
use Rattle.check_pairs.specs.Matching.{stretch_from, HasWords, step_of, rule_in, StepIn, started, CanGive, CanMatch, met, room_met, Matches}
use Rattle.check_pairs.specs.declared.matching.Stretch as code
use Rattle.card.specs.declared.Action as read
use Rattle.card.specs.Productions.{action_from}
use Rattle.layout.specs.Bytes.{byte_at}
use Rattle.check_pairs.specs.declared.matching.Matching.{Matching}
use Rattle.goals.proofs.ShownLaws.{tops-length}
use Rattle.check_pairs.proofs.StepLaws.{matches-met}
use Rattle.goals.proofs.AdvanceLaws.{rule-there, rule-missing}
use Rattle.check_pairs.proofs.Paced.{Paced, paced_none, paced, Waits, takes-rule, matched-rule}
use Rattle.layout.proofs.Lengths.{plan-bytes-length, pairs-bytes-length}
use Rattle.check_pairs.proofs.Passed.{plan_of, Passed, passed, suffix-step, paced-drop, matched-drop, drop-stands}

-- A step in front of the rest.
record Front (g : List Rule) (st : PlanStep) (whole rest : List PlanStep) (R : Rule) : Type 0 where
  takes : takes_of g whole ≡ takes_action (action_of R) (side_of R st) (takes_of g rest)
  pairs : matched g whole ≡ matched_action (action_of R) (side_of R st) (takes_of g rest) (matched g rest)
  few : length (takes_of g rest) ≤ 24
  waits : Waits (action_of R) (takes_of g rest)
  words : HasWords (side_of R st)

paced-few : {g : List Rule} {plan : List PlanStep} → Paced g plan → length (takes_of g plan) ≤ 24
paced-few paced_none = omega arith
paced-few (paced e l w x) = l

front : {g : List Rule} {st : PlanStep} {rest : List PlanStep} {R : Rule} → get_elem? g (production_in st) ≡ some R → Paced g (st ∷ rest)
    → HasWords (side_of R st) → Front g st (st ∷ rest) rest R
front {g} {st} {rest} {R} e (paced {R = R'} e' l w x) h =
    let q : R' ≡ R = some_same (sym e' ∙ e) in
    record {
      takes = ap (λ (o : Option Rule). takes_rule o st (takes_of g rest)) e ∙ takes-rule R st (takes_of g rest);
      pairs = ap (λ (o : Option Rule). matched_rule o st (takes_of g rest) (matched g rest)) e
          ∙ matched-rule R st (takes_of g rest) (matched g rest);
      few = paced-few x;
      waits = subst (λ (R : Rule). Waits (action_of R) (takes_of g rest)) q w;
      words = h;
    }

-- The number of a step that has a rule is below the card's count.
rule-below : (card : List ℕ) (p : ℕ) {R : Rule} → get_elem? (grammar_of card) p ≡ some R → p < production_count card
rule-below card p e = elim (dec_lt p (production_count card)) [
  | yes h ↦ h
  | no h ↦ absurd (none-some (sym (rule-missing card p (omega arith)) ∙ e))
]

paced-rule : {g : List Rule} {st : PlanStep} {rest : List PlanStep} → Paced g (st ∷ rest)
    → (R : Rule) × (get_elem? g (production_in st) ≡ some R)
paced-rule (paced {R = R} e l w x) = (R, e)

can-give : (a : Action) (at : Matching) (ts : List Stretch) (done count : ℕ) → Waits a ts → at.waiting ≡ length ts → one_give a + done ≤ count
    → at.unwritten + done ≡ count → CanGive a at
can-give (Take γ) at ts done count w e h t = tt
can-give Keep at ts done count w e h t = tt
can-give (Give γ) at ts done count w e h t = (omega arith, omega arith)

finish : (room before : List ℕ) (u count : ℕ) (xs P : List Pair) → xs ≡ P → u + length xs ≡ count → count ≡ length P
    → room ≡ take (2 * u) before ++ (pairs_bytes xs ++ drop (2 * count) before) → room ≡ pairs_after P before
finish room before u count xs P e t c w = let z : 2 * u ≡ 0 = omega (arith, ap length e) in w ∙ rw (z, e, c)

module _ (card plan : List ℕ) where
  abbrev pub takes_from : ℕ → List Stretch
  takes_from k = takes_of (grammar_of card) (drop k (plan_of plan))

  abbrev pub pairs_from : ℕ → List Pair
  pairs_from k = matched (grammar_of card) (drop k (plan_of plan))

  -- What waits and is written, of the steps from k on.
  abbrev pub Writing : List ℕ → ℕ → ℕ → Matching → List ℕ → Type 0
  Writing before count k at room = Matches before count (takes_from k) (pairs_from k) at room

module _ (card plan : List ℕ) (x : Passed card plan) where
  -- A step in its place: the rest of the plan is paced, and the step's production is one of the card's.
  module _ (k : ℕ) (h : 4 * k + 4 ≤ length plan) where
    here : drop k (plan_of plan) ≡ step_of plan k ∷ drop (suc k) (plan_of plan)
    here = suffix-step plan (plan_of plan) k (record {
      number = byte_at plan (4 * k);
      start = byte_at plan (4 * k + 1);
      split = byte_at plan (4 * k + 2);
      end = byte_at plan (4 * k + 3);
    }) x.bytes h (record { number = refl; start = refl; split = refl; end = refl })

    paced-here : Paced (grammar_of card) (step_of plan k ∷ drop (suc k) (plan_of plan))
    paced-here = rw here at (paced-drop k x.pace)

    step_of_card : byte_at plan (4 * k) < production_count card
    step_of_card = rule-below card (byte_at plan (4 * k)) (paced-rule paced-here).1

    step_back : Front (grammar_of card) (step_of plan k) (drop k (plan_of plan)) (drop (suc k) (plan_of plan)) (rule_in card plan k)
    step_back =
        let e = rule-there card (byte_at plan (4 * k)) step_of_card in
        rw here (front e paced-here (x.sides k (step_of plan k) (rule_in card plan k) (drop-stands (plan_of plan) k here) e))

    gives_back : (n : ℕ) → n ≡ suc k
        → length (pairs_from card plan k) ≡ one_give (action_of (rule_in card plan k)) + length (pairs_from card plan n)
    gives_back n e = rw e (ap length step_back.pairs ∙ matched_action-length (action_of (rule_in card plan k)) _ _ (pairs_from card plan (suc k)))

  -- The steps are a quarter of the bytes.
  steps-length : length plan ≡ 4 * length (plan_of plan)
  steps-length = ap length x.bytes ∙ plan-bytes-length (plan_of plan)

  nothing_left : (k : ℕ) → length plan / 4 ≤ k → drop k (plan_of plan) ≡ []
  nothing_left k h = drop_of_length-le (plan_of plan) (omega (arith, steps-length))

  pairs_all : pairs_from card plan 0 ≡ plan_pairs card (steps_of plan)
  pairs_all = sym x.pairs

  pairs_over : (k : ℕ) → length plan / 4 ≤ k → length (pairs_from card plan k) ≡ 0
  pairs_over k h = ap (λ (l : List PlanStep). length (matched (grammar_of card) l)) (nothing_left k h)

  -- Writing the pairs.
  module _ (before : List ℕ) (count : ℕ) where
    starts : 2 * count ≤ length before → Writing card plan before count (length plan / 4) (started count) before
    starts h = rw (nothing_left (length plan / 4) (omega arith)) (record {
      all_takes = refl;
      shown = refl;
      total = omega arith;
      within = h;
      written = sym (take-append-drop (2 * count) before);
    })

    writing_length : (k : ℕ) (at : Matching) (room : List ℕ) → Writing card plan before count k at room → length room ≡ length before
    writing_length k at room m =
        let xs = pairs_from card plan k in
        let e = ap length m.written in
        let d = length-append (take (2 * at.unwritten) before) (pairs_bytes xs ++ drop (2 * count) before) in
        let q = length-append (pairs_bytes xs) (drop (2 * count) before) in
        let l : length (take (2 * at.unwritten) before) ≡ 2 * at.unwritten =
        length-take-le (2 * at.unwritten) before (omega (arith, m.total, m.within)) in
        omega (arith, pairs-bytes-length xs, length-drop (2 * count) before, m.total, m.within)

    module _ (c : count ≡ length (plan_pairs card (steps_of plan))) where
      ends : (at : Matching) (room : List ℕ) → Writing card plan before count 0 at room → room ≡ pairs_after (plan_pairs card (steps_of plan)) before
      ends at room m =
          finish room before at.unwritten count (pairs_from card plan 0) (plan_pairs card (steps_of plan)) pairs_all m.total c m.written

      module _ (k n : ℕ) (next : n ≡ suc k) (h : 4 * k + 4 ≤ length plan) (at : Matching) (room : List ℕ)
          (w : Writing card plan before count n at room) {action : read.Action} {side : code.Stretch} (s : StepIn card plan k action side) where
        m : Writing card plan before count (suc k) at room
        m = rw next at w

        room_for : CanMatch (action_from action) (stretch_from side) room at
        room_for =
            let f = step_back k h in
            let ts = takes_from card plan (suc k) in
            let xs = pairs_from card plan (suc k) in
            let t : at.waiting ≡ length ts = sym (tops-length 0 at.takes at.waiting) ∙ (ap length m.shown ∙ length-map ts place_in) in
            let p = ap length f.pairs ∙ matched_action-length (action_of (rule_in card plan k)) _ _ xs in
            let q = matched-drop (grammar_of card) (plan_of plan) k in
            let d : count ≡ length (pairs_from card plan 0) = c ∙ ap length x.pairs in
            rw (s.acts, s.sides) (record {
              words = f.words;
              few = omega (arith, f.few);
              in_room = omega (arith, writing_length (suc k) at room m, m.total, m.within);
              gives = can-give (action_of (rule_in card plan k)) at ts (length xs) count f.waits t (omega arith) m.total;
            })

        turns : Writing card plan before count k
            (met (action_from action) (stretch_from side) at) (room_met (action_from action) (stretch_from side) at room)
        turns =
            let f = step_back k h in
            let z = room_for in
            rw (f.takes, f.pairs, ← s.acts, ← s.sides) (matches-met (stretch_from side) (action_from action) _ _ z.gives z.few m)

-- These facts have one proof at most, so it is enough that there is a line for which the plan passes.
HasWords-prop : (s : Stretch) → IsProp (HasWords s)
HasWords-prop (stretch from to) = hlevel props

CanGive-prop : (a : Action) (at : Matching) → IsProp (CanGive a at)
CanGive-prop (Take γ) at = hlevel props
CanGive-prop Keep at = hlevel props
CanGive-prop (Give γ) at = hlevel props

ruleset own = (HasWords-prop, CanGive-prop, props)

module _ (card plan : List ℕ) (y : ∥ Checked card plan ∥₁) where
  by-line : {G : Type 0} → IsProp G → (Passed card plan → G) → G
  by-line one f = ∥∥₁_elim y one (λ c. f (passed card c.0 plan c.1))

  pub step-there : (k : ℕ) → 4 * k + 4 ≤ length plan → byte_at plan (4 * k) < production_count card
  step-there k h = by-line (hlevel own) (λ x. step_of_card card plan x k h)

  pub gives-here : (k : ℕ) → 4 * k + 4 ≤ length plan → (n : ℕ) → n ≡ suc k
      → length (pairs_from card plan k) ≡ one_give (action_of (rule_in card plan k)) + length (pairs_from card plan n)
  gives-here k h n e = by-line (hlevel own) (λ x. gives_back card plan x k h n e)

  pub all-pairs : length (pairs_from card plan 0) ≡ length (plan_pairs card (steps_of plan))
  all-pairs = by-line (hlevel own) (λ x. ap length (pairs_all card plan x))

  pub no-pairs : (k : ℕ) → length plan / 4 ≤ k → length (pairs_from card plan k) ≡ 0
  no-pairs k h = by-line (hlevel own) (λ x. pairs_over card plan x k h)

  module _ (before : List ℕ) (count : ℕ) where
    pub writing_start : 2 * count ≤ length before → Writing card plan before count (length plan / 4) (started count) before
    writing_start h = by-line (hlevel own) (λ x. starts card plan x before count h)

    module _ (c : count ≡ length (plan_pairs card (steps_of plan))) where
      pub writing-end : (at : Matching) (room : List ℕ) → Writing card plan before count 0 at room → room ≡ pairs_after (plan_pairs card (steps_of plan)) before
      writing-end at room m = by-line (hlevel own) (λ x. ends card plan x before count c at room m)

      module _ (k n : ℕ) (next : n ≡ suc k) (h : 4 * k + 4 ≤ length plan) (at : Matching) (room : List ℕ)
          (w : Writing card plan before count n at room) {action : read.Action} {side : code.Stretch} (s : StepIn card plan k action side) where
        pub writing-room : CanMatch (action_from action) (stretch_from side) room at
        writing-room = by-line (hlevel own) (λ x. room_for card plan x before count c k n next h at room w s)

        pub writing-turn : Writing card plan before count k
            (met (action_from action) (stretch_from side) at) (room_met (action_from action) (stretch_from side) at room)
        writing-turn = by-line (hlevel own) (λ x. turns card plan x before count c k n next h at room w s)
