-- What the two unfoldings need at each call, over plain values: a record's two parts are shorter than it, and a plan has two steps for
-- each word less one, so the step and the parts' plans, one after the other, fill the room that the record's plan takes. Less is pending
-- than a part has words, so the stack has a place above it for each word of the other part.
use Prim.Native.Nat.{ℕ, ◌+◌, ◌*◌, ◌-◌, ◌≤◌, ◌<◌}
use native.Mathlib.Omega.{arith}
use mathlib.Core.Path.{◌≡◌, refl, sym, ◌∙◌, ap, subst}
use mathlib.Core.Bool.{Bool}
use mathlib.Core.List.{List, [], ◌∷◌, ◌++◌, append-nil}
use lib.ListN.{length}
use Rattle.grammar.specs.Rewriting.{Rule, Lexical, Spine, Action}
use Rattle.grammar.specs.Input.{Holds}
use Rattle.grammar.specs.Items.{Foot}
use Rattle.grammar.specs.Plan.{PlanStep, plan_step}
use Rattle.grammar.specs.Chart.{Record, onward, Pends, nothing_pends, awaits}
use Rattle.grammar.proofs.PlanSize.{plan-length, stack-depth}
use Rattle.grammar.proofs.WaysCompared.{recorded-earlier}
use Rattle.grammar.proofs.WaysPlans.{goes-comes, way-yields}
use Rattle.layout.specs.Card.{production, grammar_of}
use Rattle.layout.specs.Steps.{step_bytes, plan_room}
use Rattle.layout.proofs.CardLaws.{card-one-sided}
use Rattle.unfold.specs.declared.Node.{Node}
use Rattle.unfold.specs.declared.Rest.{Rest}
use Rattle.unfold.specs.declared.Source.{Source}
use Rattle.unfold.specs.Unfold.{RecordedWay}
use Rattle.unfold.specs.Spine.{from_at, to_at, length_at, rule_at, NodeOf, waiting, Ready, Unfolded}
use Rattle.unfold.specs.Unfolding.{Asked}
use Rattle.layout.specs.Written.{Wrote}
use Rattle.layout.proofs.Writing.{wrote-length, wrote_then}
use Rattle.layout.proofs.Lengths.{plan-bytes-length, plan-join}
use Rattle.unfold.proofs.Waiting.{waiting-length}
use Rattle.unfold.proofs.Turns.{Parts, Takes, Turn, of_word, of_first, of_last, goes-here, turn}

-- As deep as the stack.
pends-length : {c : List Record} {φ : Foot} {s pending : List ℕ} → Pends c φ s pending → length s ≡ length pending
pends-length nothing_pends = refl
pends-length (awaits r ps) = let e = pends-length ps in omega arith

module _ {card : List ℕ} {at : ℕ → ℕ → Bool} {chart : List ℕ} {count m : ℕ} {s pending : List ℕ}
    (ready : Ready card at chart count m s pending) where
  pub depth_below : length pending < length_at chart m
  depth_below =
      let (plan, y) = goes-comes ready.held.justified (goes-here ready) in
      omega (arith, stack-depth (grammar_of card) (Holds at) (card-one-sided card) y, pends-length ready.pends)

  -- A plan takes the room that the record's stretch gives it.
  unfolded-next : {old new : List ℕ} {here next : ℕ} → Unfolded card at chart count m pending old here new next
      → next ≡ here + plan_room (length_at chart m)
  unfolded-next u =
      let y = way-yields (λ x e. recorded-earlier) u.way (goes-here ready) in
      omega (
        arith,
        plan-length (grammar_of card) (Holds at) (card-one-sided card) y,
        plan-bytes-length u.steps,
        u.wrote.ends,
      )

  pub record-inside : 16 * m + 16 ≤ length chart
  record-inside = omega (arith, ready.inside, ready.held.there)

  -- What the record comes to, by what was read of it.
  pub node-turn : {node : Node} {rule : Rule} → NodeOf chart m node → production card (rule_at chart m) ≡ rule
      → Turn card at chart count m (rule_at chart m) (from_at chart m) (to_at chart m) node.side node.dependent node.continuation
      pending rule
  node-turn read e = rw (read.side, read.dependent, read.continuation) (subst (Turn card at chart count _ _ _ _ _ _ _ _) e (turn ready))

-- What a record comes to where its rule is known.
module _ {card : List ℕ} {at : ℕ → ℕ → Bool} {chart : List ℕ} {count m p i j x y z : ℕ} {pending : List ℕ} where
  pub word_of : {A w : ℕ} → Turn card at chart count m p i j x y z pending (Lexical A w)
      → RecordedWay card at chart count m pending (plan_step p i j j ∷ [])
  word_of (of_word h) = h

  pub first_of : {A B D pos : ℕ} {rest : List ℕ} (a : Action) → Turn card at chart count m p i j x y z pending (Spine A a (B ∷ []) D [])
      → pos ≡ (onward a y z pending).position → rest ≡ (onward a y z pending).pending
      → (t : List ℕ) × Parts card at chart count m p i j pending x [] [] pos t rest
  first_of a (of_first t h parts) e f = (t, rw (e, f) parts)

  pub last_of : {A B D pos : ℕ} {rest : List ℕ} (a : Action) → Turn card at chart count m p i j x y z pending (Spine A a [] D (B ∷ []))
      → pos ≡ (onward a y z pending).position → rest ≡ (onward a y z pending).pending
      → (t : List ℕ) × Parts card at chart count m p i j pending pos t rest x [] []
  last_of a (of_last t h parts) e f = (t, rw (e, f) parts)

  -- A take has something to go on with, and the side is a record like others.
  pub first-takes : {A B D : ℕ} {a : Action} → Turn card at chart count m p i j x y z pending (Spine A a (B ∷ []) D [])
      → Takes a pending × Ready card at chart count x [] []
  first-takes (of_first t h parts) = (h, parts.first.ready)

  pub last-takes : {A B D : ℕ} {a : Action} → Turn card at chart count m p i j x y z pending (Spine A a [] D (B ∷ []))
      → Takes a pending × Ready card at chart count x [] []
  last-takes (of_last t h parts) = (h, parts.second.ready)

pub lone : {card : List ℕ} {at : ℕ → ℕ → Bool} {chart pending old new : List ℕ} {count m here next : ℕ} {st : PlanStep}
    → RecordedWay card at chart count m pending (st ∷ []) → Wrote old here (step_bytes st) new next
    → Unfolded card at chart count m pending old here new next
lone {st = st} y w = record { steps = st ∷ []; way = y; wrote = rw (append-nil (step_bytes st)) w }

-- The room for a step, since a record has some word.
pub step_room : {source : Source} {stack plan : List ℕ} {here : ℕ} {whole : Rest} → Asked source stack whole plan here
    → here + 4 ≤ length plan
step_room a = omega (arith, depth_below a.ready, a.room)

module _ {card : List ℕ} {at : ℕ → ℕ → Bool} {chart : List ℕ} {count m p i j x y : ℕ} {pending s₁ p₁ s₂ p₂ : List ℕ}
    (parts : Parts card at chart count m p i j pending x s₁ p₁ y s₂ p₂) where
  pub first-shorter : length_at chart x < j - i
  first-shorter = let f = parts.first in let g = parts.second in omega arith

  pub second-shorter : length_at chart y < j - i
  second-shorter = let f = parts.first in let g = parts.second in omega arith

  pub meeting : from_at chart y ≡ to_at chart x
  meeting = parts.second.from ∙ sym parts.first.to

  -- Above what is pending for the second part there is a place for each word of the first.
  pub first_above : (stack : List ℕ) (rest : Rest) → p₂ ≡ waiting stack rest → rest.base ≤ rest.depth → rest.base + (j - i) ≤ 24
      → rest.depth + length_at chart x ≤ 24
  first_above stack rest e h short =
      let f = parts.first in
      let g = parts.second in
      let d = depth_below parts.second.ready in
      omega (arith, ap length e, waiting-length stack rest)

  -- After the step the first part has its room, and after the first part the second has.
  module _ {old mid : List ℕ} {here next k : ℕ} (room : here + plan_room (j - i) ≤ length old)
      (w : Wrote old here (step_bytes (plan_step p i k j)) mid next) where
    pub first-room : next + plan_room (length_at chart x) ≤ length mid
    first-room = let f = parts.first in let g = parts.second in omega (arith, w.ends, wrote-length w)

    pub second-room : {more : List ℕ} {then : ℕ} → Unfolded card at chart count x p₁ mid next more then
        → then + plan_room (length_at chart y) ≤ length more
    second-room u = let f = parts.first in let g = parts.second in
        omega (arith, w.ends, wrote-length w, wrote-length u.wrote, unfolded-next f.ready u)

  -- The step and the two plans are the record's plan.
  pub joined : {old mid more new : List ℕ} {here next then last k : ℕ} → k ≡ to_at chart x
      → Wrote old here (step_bytes (plan_step p i k j)) mid next → Unfolded card at chart count x p₁ mid next more then
      → Unfolded card at chart count y p₂ more then new last → Unfolded card at chart count m pending old here new last
  joined {k = k} e w u v =
      record {
        steps = plan_step p i k j ∷ (u.steps ++ v.steps);
        way = rw (e, parts.first.to) (parts.joins u.way v.way);
        wrote = rw (plan-join u.steps v.steps) (wrote_then w (wrote_then u.wrote v.wrote));
      }
