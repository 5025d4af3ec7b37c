-- A justified record is a word, or it parts into two neighbours: its side, with nothing pending, and where its spine goes on. By cases of the
-- step the two make up the record's stretch, and ways down from them are one from it; and a take has a foot, so that something is pending.
use Prim.Native.Nat.{ℕ, ◌+◌, ◌*◌, ◌≤◌, ◌<◌}
use native.Mathlib.Omega.{arith}
use mathlib.Core.Path.{◌≡◌, refl, sym, ap, subst}
use mathlib.Core.Bool.{Bool}
use mathlib.Core.List.{List, [], ◌∷◌, ◌++◌}
use lib.ListN.{length}
use Rattle.grammar.specs.Lists.{Stands}
use Rattle.grammar.specs.Rewriting.{Rule, Lexical, Spine, Action, Take, Keep, Give}
use Rattle.grammar.specs.Input.{Holds}
use Rattle.grammar.specs.Items.{Foot}
use Rattle.grammar.specs.ItemList.{Item, item}
use Rattle.grammar.specs.Plan.{PlanStep, plan_step}
use Rattle.grammar.specs.Chart.{Record, recorded, item_of, production_of, onward, Earlier, earlier, Results, taken, kept, given}
use Rattle.grammar.specs.Chart.{Justified, by_word, side_first, side_last, Pends, nothing_pends, awaits}
use Rattle.grammar.specs.Ways.{word_way, first_way, last_way}
use Rattle.grammar.proofs.StandsLaws.{stands-length}
use Rattle.grammar.proofs.Unfolding.{Goes, goes, onwards, earlier-below, justified-longer}
use Rattle.grammar.proofs.WaysCompared.{recorded-earlier}
use Rattle.grammar.proofs.WaysPlans.{goes_at}
use Rattle.layout.specs.Bytes.{number16_at}
use Rattle.layout.specs.Card.{production, production_count, grammar_of}
use Rattle.layout.specs.Records.{record_at, chart_in}
use Rattle.unfold.specs.Unfold.{Held, RecordedWay}
use Rattle.unfold.specs.Spine.{name_at, from_at, to_at, rule_at, Ready}
use Rattle.layout.proofs.CountedLaws.{table-stands, stands-below, stands-there, rule-there}

-- The parts of an item and of a record.
abbrev start_of : Item → ℕ
start_of (item A i j φ) = i

abbrev end_of : Item → ℕ
end_of (item A i j φ) = j

abbrev item_foot : Item → Foot
item_foot (item A i j φ) = φ

abbrev side_of : Record → ℕ
side_of (recorded it p x y z) = x

abbrev dependent_of : Record → ℕ
dependent_of (recorded it p x y z) = y

abbrev continuation_of : Record → ℕ
continuation_of (recorded it p x y z) = z

-- A record that is ready, over i to j.
pub record Part (card : List ℕ) (at : ℕ → ℕ → Bool) (chart : List ℕ) (count x i j : ℕ) (s pending : List ℕ) : Type 0 where
  pub ready : Ready card at chart count x s pending
  pub from : from_at chart x ≡ i
  pub to : to_at chart x ≡ j
  pub long : i < j

-- The record at m, of production p over i to j, parts into two neighbours: the record at x with the stack s₁, and the record at y with
-- the stack s₂. The record's step and a way down from each are a way from the record.
pub record Parts (card : List ℕ) (at : ℕ → ℕ → Bool) (chart : List ℕ) (count m p i j : ℕ) (pending : List ℕ) (x : ℕ) (s₁ p₁ : List ℕ)
    (y : ℕ) (s₂ p₂ : List ℕ) : Type 0 where
  pub split : ℕ
  pub first : Part card at chart count x i split s₁ p₁
  pub second : Part card at chart count y split j s₂ p₂
  pub joins : {ps qs : List PlanStep} → RecordedWay card at chart count x p₁ ps → RecordedWay card at chart count y p₂ qs
      → RecordedWay card at chart count m pending (plan_step p i split j ∷ (ps ++ qs))

-- There is something for a take to go on with.
abbrev pub Takes : Action → List ℕ → Type 0
Takes (Take γ) pending = 0 < length pending
Takes Keep pending = Unit {0}
Takes (Give γ) pending = Unit {0}

-- What the record at m comes to by its rule.
pub data Turn (card : List ℕ) (at : ℕ → ℕ → Bool) (chart : List ℕ) (count m p i j x y z : ℕ) (pending : List ℕ) : Rule → Type 0 where
  of_word : {A w : ℕ} → RecordedWay card at chart count m pending (plan_step p i j j ∷ [])
      → Turn card at chart count m p i j x y z pending (Lexical A w)
  of_first : {A B D : ℕ} {a : Action} (t : List ℕ) → Takes a pending
      → Parts card at chart count m p i j pending x [] [] (onward a y z pending).position t (onward a y z pending).pending
      → Turn card at chart count m p i j x y z pending (Spine A a (B ∷ []) D [])
  of_last : {A B D : ℕ} {a : Action} (t : List ℕ) → Takes a pending
      → Parts card at chart count m p i j pending (onward a y z pending).position t (onward a y z pending).pending x [] []
      → Turn card at chart count m p i j x y z pending (Spine A a [] D (B ∷ []))

-- A take finds something pending; what stands earlier stands earlier than the chart's end; and where a spine goes on, its dependent stands.
takes-some : {c : List Record} {m D k j z : ℕ} {a : Action} {ψ φ : Foot} {s pending : List ℕ} → Results c m a D k j ψ z φ
    → Pends c φ s pending → Takes a pending
takes-some taken (awaits r ps) = omega arith
takes-some kept ps = tt
takes-some (given z) ps = tt

results-below : {c : List Record} {m n D k j z : ℕ} {a : Action} {ψ φ : Foot} → m ≤ n → Results c m a D k j ψ z φ
    → Results c n a D k j ψ z φ
results-below h taken = taken
results-below h kept = kept
results-below h (given z) = given (earlier-below h z)

standing : {c : List Record} {D k j x : ℕ} {s pending : List ℕ} → Goes c D k j x s pending
    → (χ : Foot) × Earlier c (length c) x (item D k j χ)
standing (goes r ps) = (_, recorded-earlier r)

within : {c : List Record} {m : ℕ} {e : Record} → Stands c m e → m ≤ length c
within t = omega (arith, stands-length t)

module _ (card : List ℕ) (at : ℕ → ℕ → Bool) (chart : List ℕ) (count : ℕ) (held : Held card at chart count) where
  part : {x A i j : ℕ} {s pending : List ℕ} → Goes (chart_in chart count) A i j x s pending → Part card at chart count x i j s pending
  part {x} {A} {i} {j} {s} {pending} (goes {φ = φ} r ps) =
      let e : item A i j φ ≡ item_of (record_at chart x) = ap item_of (stands-there (record_at chart) count x r) in
      record {
        ready = record {
          held = held;
          inside = stands-below (record_at chart) count x r;
          pends = subst (λ (ψ : Foot). Pends (chart_in chart count) ψ s pending) (ap item_foot e) ps;
        };
        from = sym (ap start_of e);
        to = sym (ap end_of e);
        long = justified-longer (grammar_of card) (Holds at) (chart_in chart count) held.justified r refl;
      }

  turn-of : {m : ℕ} {e : Record} {s pending : List ℕ} → Stands (chart_in chart count) m e
      → Justified (grammar_of card) (Holds at) (chart_in chart count) m e → Pends (chart_in chart count) (item_foot (item_of e)) s pending
      → Turn card at chart count m (production_of e) (start_of (item_of e)) (end_of (item_of e)) (side_of e) (dependent_of e) (continuation_of e)
      pending (production card (production_of e))
  turn-of t (by_word r a) nothing_pends =
      subst (Turn card at chart count _ _ _ _ _ _ _ _) (rule-there card r) (of_word (word_way t r a))
  turn-of t (side_first r (earlier l x) y o) ps =
      let w = onwards o y ps in
      let (χ, n) = standing w.rest in
      let h = within t in
      subst (Turn card at chart count _ _ _ _ _ _ _ _) (rule-there card r)
      (of_first w.stack (takes-some o ps)
      (record {
        split = _;
        first = part (goes x nothing_pends);
        second = part w.rest;
        joins = λ v u. first_way t r (recorded-earlier x) (earlier-below h y) (results-below h o) n v u refl;
      }))
  turn-of t (side_last r y (earlier l x) o) ps =
      let w = onwards o y ps in
      let (χ, n) = standing w.rest in
      let h = within t in
      subst (Turn card at chart count _ _ _ _ _ _ _ _) (rule-there card r)
      (of_last w.stack (takes-some o ps)
      (record {
        split = _;
        first = part w.rest;
        second = part (goes x nothing_pends);
        joins = λ u v. last_way t r (earlier-below h y) (recorded-earlier x) (results-below h o) n u v refl;
      }))

module _ {card : List ℕ} {at : ℕ → ℕ → Bool} {chart : List ℕ} {count m : ℕ} {s pending : List ℕ}
    (r : Ready card at chart count m s pending) where
  stands_here : Stands (chart_in chart count) m (record_at chart m)
  stands_here = table-stands (record_at chart) r.inside

  justified-here : Justified (grammar_of card) (Holds at) (chart_in chart count) m (record_at chart m)
  justified-here = r.held.justified m (record_at chart m) stands_here

  -- It goes on there; and what it comes to.
  pub goes-here : Goes (chart_in chart count) (name_at chart m) (from_at chart m) (to_at chart m) m s pending
  goes-here = goes_at stands_here refl r.pends

  pub turn : Turn card at chart count m (rule_at chart m) (from_at chart m) (to_at chart m) (number16_at chart (16 * m + 8))
      (number16_at chart (16 * m + 10)) (number16_at chart (16 * m + 12)) pending (production card (rule_at chart m))
  turn = turn-of card at chart count r.held stands_here justified-here r.pends

-- The production of a justified record is one of the card's.
below_of : (card : List ℕ) {at : ℕ → ℕ → Type 0} {c : List Record} {m : ℕ} {e : Record} → Justified (grammar_of card) at c m e
    → production_of e < production_count card
below_of card (by_word {p = p} r a) = stands-below (production card) (production_count card) p r
below_of card (side_first {p = p} r x y o) = stands-below (production card) (production_count card) p r
below_of card (side_last {p = p} r y x o) = stands-below (production card) (production_count card) p r

pub production-below : {card : List ℕ} {at : ℕ → ℕ → Bool} {chart : List ℕ} {count m : ℕ} {s pending : List ℕ}
    → Ready card at chart count m s pending → rule_at chart m < production_count card
production-below {card} r = below_of card (justified-here r)
