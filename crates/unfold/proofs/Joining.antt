-- What is left of a record is unfolded one part after the other, by a side and a spine that come in either order: each is shorter than
-- the record and has what it asks, and the step and the two plans are the record's plan.
use Prim.Native.Nat.{ℕ, ◌≤◌, ◌<◌}
use native.Mathlib.Nat.{le_refl}
use native.Mathlib.Omega.{arith}
use mathlib.Core.Path.{◌≡◌, refl, ◌∙◌, subst}
use mathlib.Core.Bool.{Bool}
use mathlib.Core.List.{List, []}
use Rattle.card.specs.Productions.{action_from}
use Rattle.unfold.specs.declared.Rest.{Rest}
use Rattle.unfold.specs.declared.Left.TheVariants.{Nothing, SideFirst, SideLast}
use Rattle.unfold.specs.declared.Source.{Source}
use Rattle.unfold.specs.Spine.{from_at, to_at, length_at, rule_at, waiting, alone, Stays, Ready}
use Rattle.unfold.specs.Unfolding.{Asked, Opened, opened_word, opened_first, opened_last, StepWritten, Opens, Unfolds, UnfoldsSpine}
use Rattle.unfold.proofs.Waiting.{none-waiting, untouched, stays_then, stays-below, waiting_stays}
use Rattle.unfold.proofs.Turns.{Parts, Turn, turn}
use Rattle.unfold.proofs.Spines.{node-turn, word_of, first_of, last_of, lone, first-shorter, second-shorter, meeting, first_above}
use Rattle.unfold.proofs.Spines.{first-room, second-room, joined}

-- The rest of a spine has the same base, and below it the stack stays.
record Follows (stack : List ℕ) (whole : Rest) (stack₁ : List ℕ) (rest : Rest) : Type 0 where
  base : rest.base ≡ whole.base
  above : rest.base ≤ rest.depth
  stays : Stays whole.base stack stack₁

-- A side has nothing pending.
alone-ready : {card : List ℕ} {at : ℕ → ℕ → Bool} {chart : List ℕ} {count m : ℕ} {s : List ℕ} (stack : List ℕ) (depth : ℕ)
    → Ready card at chart count m s [] → Ready card at chart count m s (waiting stack (alone m depth))
alone-ready {m = m} stack depth ready = rw (none-waiting stack m depth) ready

pub as-side : {source : Source} {stack plan new : List ℕ} {m depth here next : ℕ} {stays : Type 0}
    → Asked source stack (alone m depth) plan here → UnfoldsSpine source stack (alone m depth) plan here new next × stays
    → Unfolds source m [] plan here new next × stays
as-side {source} {stack} {plan} {new} {m = m} {depth = depth} {here = here} {next = next} asked (plans, kept) =
    (subst (λ (pending : List ℕ). Unfolds source m pending plan here new next) (none-waiting stack m depth) plans, kept)

-- A word has no parts.
module _ {source : Source} {stack stack₁ plan plan₁ : List ℕ} {here next : ℕ} {whole : Rest} where
  word-yields : Opened source stack whole stack₁ (Nothing next) → StepWritten source whole.position (Nothing next) plan here plan₁
      → UnfoldsSpine source stack whole plan here plan₁ next × Stays whole.base stack stack₁
  word-yields (opened_word e same) w = (
    λ at count s ready. lone (word_of (subst (Turn source.card.bytes.now at source.chart.now count _ _ _ _ _ _ _ _) e (turn ready))) w,
    rw same untouched,
  )

  pub word-joined : Opens source stack whole stack₁ plan here plan₁ (Nothing next)
      → UnfoldsSpine source stack whole plan here plan₁ next × Stays whole.base stack stack₁
  word-joined opens = word-yields opens.opened opens.step_written

-- The parts of a record whose side comes first, and of one whose side comes last.
abbrev FirstParts : List ℕ → (ℕ → ℕ → Bool) → List ℕ → ℕ → ℕ → List ℕ → ℕ → ℕ → List ℕ → Type 0
FirstParts card at chart count m pending beside position rest =
    (t : List ℕ) × Parts card at chart count m (rule_at chart m) (from_at chart m) (to_at chart m) pending beside [] [] position t rest

abbrev LastParts : List ℕ → (ℕ → ℕ → Bool) → List ℕ → ℕ → ℕ → List ℕ → ℕ → ℕ → List ℕ → Type 0
LastParts card at chart count m pending beside position rest =
    (t : List ℕ) × Parts card at chart count m (rule_at chart m) (from_at chart m) (to_at chart m) pending position t rest beside [] []

module _ {source : Source} {stack stack₁ : List ℕ} {beside next : ℕ} {whole rest : Rest} where
  first-follows : Opened source stack whole stack₁ (SideFirst beside rest next) → Follows stack whole stack₁ rest
  first-follows (opened_first node e same goes) = record { base = goes.base; above = goes.above; stays = goes.stays }

  last-follows : Opened source stack whole stack₁ (SideLast rest beside next) → Follows stack whole stack₁ rest
  last-follows (opened_last node e same goes) = record { base = goes.base; above = goes.above; stays = goes.stays }

  module _ {at : ℕ → ℕ → Bool} {count : ℕ} {s : List ℕ} (ready : Ready source.card.bytes.now at source.chart.now count whole.position s (waiting stack whole)) where
    first-parts : Opened source stack whole stack₁ (SideFirst beside rest next)
        → FirstParts source.card.bytes.now at source.chart.now count whole.position (waiting stack whole) beside rest.position (waiting stack₁ rest)
    first-parts (opened_first {a = a} node e same goes) =
        rw same (first_of (action_from a) (node-turn ready node e) goes.position goes.pending)

    last-parts : Opened source stack whole stack₁ (SideLast rest beside next)
        → LastParts source.card.bytes.now at source.chart.now count whole.position (waiting stack whole) beside rest.position (waiting stack₁ rest)
    last-parts (opened_last {a = a} node e same goes) =
        rw same (last_of (action_from a) (node-turn ready node e) goes.position goes.pending)

-- The side first: it has its place on the stack above what is pending for the spine, and leaves that.
module _ {source : Source} {stack stack₁ plan plan₁ : List ℕ} {here beside next : ℕ} {whole rest : Rest}
    (asked : Asked source stack whole plan here) (opens : Opens source stack whole stack₁ plan here plan₁ (SideFirst beside rest next)) where
  pub rest-above : rest.base ≤ rest.depth
  rest-above = (first-follows opens.opened).above

  pub side-before : (length_at source.chart.now beside < length_at source.chart.now whole.position)
      × Asked source stack₁ (alone beside rest.depth) plan₁ next
  side-before =
      let f = first-follows opens.opened in
      let (t, parts) = first-parts asked.ready opens.opened in (
        first-shorter parts,
        record {
          at = asked.at;
          count = asked.count;
          indices = [];
          ready = alone-ready stack₁ rest.depth parts.first.ready;
          above = le_refl rest.depth;
          full = f.stays.long ∙ asked.full;
          short = first_above parts stack₁ rest refl f.above (omega (arith, f.base, asked.short));
          room = first-room parts asked.room opens.step_written;
        },
      )

  module _ {stack₂ plan₂ : List ℕ} {then : ℕ} (plans : Unfolds source beside [] plan₁ next plan₂ then)
      (kept : Stays rest.depth stack₁ stack₂) where
    still : waiting stack₂ rest ≡ waiting stack₁ rest
    still = waiting_stays rest rest-above kept

    pub spine-after : (length_at source.chart.now rest.position < length_at source.chart.now whole.position) × Asked source stack₂ rest plan₂ then
    spine-after =
        let f = first-follows opens.opened in
        let (t, parts) = first-parts asked.ready opens.opened in (
          second-shorter parts,
          record {
            at = asked.at;
            count = asked.count;
            indices = t;
            ready = rw still parts.second.ready;
            above = rest-above;
            full = kept.long ∙ f.stays.long ∙ asked.full;
            short = omega (arith, f.base, asked.short, second-shorter parts);
            room = second-room parts asked.room opens.step_written (plans _ _ _ parts.first.ready);
          },
        )

    pub first-joined : {stack₃ plan₃ : List ℕ} {last : ℕ} → UnfoldsSpine source stack₂ rest plan₂ then plan₃ last
        → Stays rest.base stack₂ stack₃ → UnfoldsSpine source stack whole plan here plan₃ last × Stays whole.base stack stack₃
    first-joined {stack₃} {plan₃} {last} seconds stays =
        let f = first-follows opens.opened in
        let rests = subst (λ (pending : List ℕ). Unfolds source rest.position pending plan₂ then plan₃ last) still seconds in (
          λ at count s ready. let (t, parts) = first-parts ready opens.opened in
              joined parts refl opens.step_written (plans at count [] parts.first.ready) (rests at count t parts.second.ready),
          stays_then f.stays
              (subst (λ (base : ℕ). Stays base stack₁ stack₃) f.base (stays_then (stays-below _ _ rest-above kept) stays)),
        )

-- The side last: nothing is pending any more.
module _ {source : Source} {stack stack₁ plan plan₁ : List ℕ} {here beside next : ℕ} {whole rest : Rest}
    (asked : Asked source stack whole plan here) (opens : Opens source stack whole stack₁ plan here plan₁ (SideLast rest beside next)) where
  pub spine-before : (length_at source.chart.now rest.position < length_at source.chart.now whole.position) × Asked source stack₁ rest plan₁ next
  spine-before =
      let f = last-follows opens.opened in
      let (t, parts) = last-parts asked.ready opens.opened in (
        first-shorter parts,
        record {
          at = asked.at;
          count = asked.count;
          indices = t;
          ready = parts.first.ready;
          above = f.above;
          full = f.stays.long ∙ asked.full;
          short = omega (arith, f.base, asked.short, first-shorter parts);
          room = first-room parts asked.room opens.step_written;
        },
      )

  module _ {stack₂ plan₂ : List ℕ} {then : ℕ} (plans : UnfoldsSpine source stack₁ rest plan₁ next plan₂ then)
      (kept : Stays rest.base stack₁ stack₂) where
    pub side_after : (length_at source.chart.now beside < length_at source.chart.now whole.position) × Asked source stack₂ (alone beside whole.base) plan₂ then
    side_after =
        let f = last-follows opens.opened in
        let (t, parts) = last-parts asked.ready opens.opened in (
          second-shorter parts,
          record {
            at = asked.at;
            count = asked.count;
            indices = [];
            ready = alone-ready stack₂ whole.base parts.second.ready;
            above = le_refl whole.base;
            full = kept.long ∙ f.stays.long ∙ asked.full;
            short = omega (arith, asked.short, second-shorter parts);
            room = second-room parts asked.room opens.step_written (plans _ _ _ parts.first.ready);
          },
        )

    pub last-joined : {stack₃ plan₃ : List ℕ} {last : ℕ} → Unfolds source beside [] plan₂ then plan₃ last
        → Stays whole.base stack₂ stack₃ → UnfoldsSpine source stack whole plan here plan₃ last × Stays whole.base stack stack₃
    last-joined seconds stays = let f = last-follows opens.opened in (
      λ at count s ready. let (t, parts) = last-parts ready opens.opened in
          joined parts (meeting parts) opens.step_written (plans at count t parts.first.ready) (seconds at count [] parts.second.ready),
      stays_then f.stays (stays_then (subst (λ (base : ℕ). Stays base stack₁ stack₂) f.base kept) stays),
    )
