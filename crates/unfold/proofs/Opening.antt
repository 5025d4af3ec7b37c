-- What opening a record needs and gives, by its production: a take finds something pending, since its record has a foot, and where a side
-- stands there is a record.
use Prim.Native.Nat.{ℕ, ◌+◌, ◌*◌, ◌≤◌, ◌<◌}
use native.Mathlib.Omega.{arith}
use mathlib.Core.Path.{◌≡◌, refl, sym, ◌∙◌, subst}
use mathlib.Core.List.{List}
use lib.ListN.{length}
use Rattle.grammar.specs.Plan.{PlanStep, plan_step}
use Rattle.layout.specs.Card.{production, production_count}
use Rattle.layout.specs.Steps.{step_bytes}
use Rattle.card.specs.Productions.{action_from, rule_from}
use Rattle.card.specs.declared.Action.{Action}
use Rattle.card.specs.declared.Action.TheVariants.{Take, Keep, Give}
use Rattle.card.specs.declared.Production.{Production}
use Rattle.card.specs.declared.Production.TheVariants as read
use Rattle.unfold.specs.declared.Node.{Node}
use Rattle.unfold.specs.declared.Rest.{Rest}
use Rattle.unfold.specs.declared.Left.TheVariants as left
use Rattle.layout.specs.Written.{Wrote}
use Rattle.unfold.specs.declared.Source.{Source}
use Rattle.unfold.specs.Spine.{from_at, to_at, rule_at, NodeOf, waiting, CanTake, Fits, GoesOn, step_for}
use Rattle.unfold.specs.Unfolding.{Asked, Opened, opened_word, opened_first, opened_last}
use Rattle.unfold.proofs.Waiting.{waiting-length}
use Rattle.unfold.proofs.Turns.{Takes, production-below}
use Rattle.unfold.proofs.Spines.{depth_below, record-inside, node-turn, first-takes, last-takes}

-- What is pending is on the stack.
can-take : (a : Action) (stack : List ℕ) (whole : Rest) → Takes (action_from a) (waiting stack whole) → CanTake a whole
can-take (Take g) stack whole h = omega (arith, waiting-length stack whole)
can-take Keep stack whole h = tt
can-take (Give g) stack whole h = tt

module _ {source : Source} {stack plan : List ℕ} {here p : ℕ} {whole : Rest} {node : Node} (asked : Asked source stack whole plan here)
    (node-read : NodeOf source.chart.now whole.position node) (same : p ≡ node.production) where
  -- A record's production is one of the card's.
  pub production-there : p < production_count source.card.bytes.now
  production-there = omega (arith, same, node-read.production, production-below asked.ready)

  -- A give has a place for its continuation, a take has something to go on with.
  fits : (a : Action) → Takes (action_from a) (waiting stack whole) → Fits a node stack whole
  fits a h =
      record {
        full = asked.full;
        above = asked.above;
        free = omega (arith, asked.above, depth_below asked.ready, waiting-length stack whole, asked.short);
        narrow = node-read.narrow;
        takes = can-take a stack whole h;
      }

  module _ {rule : Production} (decoded : rule_from rule ≡ production source.card.bytes.now p) where
    ruled : {r : Production} → rule ≡ r → production source.card.bytes.now (rule_at source.chart.now whole.position) ≡ rule_from r
    ruled e = let read : rule_at source.chart.now whole.position ≡ p = sym (same ∙ node-read.production) in cc

    module _ {A B D : ℕ} {a : Action} (e : rule ≡ read.SideFirst A a B D) where
      pub first_fits : Fits a node stack whole
      first_fits = fits a (first-takes (node-turn asked.ready node-read (ruled e))).0

      pub first-inside : 16 * node.side + 16 ≤ length source.chart.now
      first-inside = record-inside (first-takes (node-turn asked.ready node-read (ruled e))).1

      pub opened-first : {new : List ℕ} {rest : Rest} {next : ℕ} → GoesOn a node stack whole new rest
          → Opened source stack whole new (left.SideFirst node.side rest next)
      opened-first goes = opened_first node-read (ruled e) refl goes

    module _ {A B D : ℕ} {a : Action} (e : rule ≡ read.SideLast A a D B) where
      pub last_fits : Fits a node stack whole
      last_fits = fits a (last-takes (node-turn asked.ready node-read (ruled e))).0

      pub last-inside : 16 * node.side + 16 ≤ length source.chart.now
      last-inside = record-inside (last-takes (node-turn asked.ready node-read (ruled e))).1

      pub opened-last : {new : List ℕ} {rest : Rest} {next : ℕ} → GoesOn a node stack whole new rest
          → Opened source stack whole new (left.SideLast rest node.side next)
      opened-last goes = opened_last node-read (ruled e) refl goes

    pub opened-word : {A w next : ℕ} → rule ≡ read.Word A w → Opened source stack whole stack (left.Nothing next)
    opened-word e = opened_word (ruled e) refl

-- The step as it is written has the record's production and stretch.
pub step-written : {chart old new : List ℕ} {m here next k split : ℕ} {node : Node} → NodeOf chart m node → k ≡ split
    → Wrote old here (step_bytes (step_for node k)) new next
    → Wrote old here (step_bytes (plan_step (rule_at chart m) (from_at chart m) split (to_at chart m))) new next
step-written {chart} {old} {new} {m} {here} {next} {k} {split} {node} r e w =
    let same : step_for node k ≡ plan_step (rule_at chart m) (from_at chart m) split (to_at chart m) = cc in
    subst (λ (st : PlanStep). Wrote old here (step_bytes st) new next) same w
