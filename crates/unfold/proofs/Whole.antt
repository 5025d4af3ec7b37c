-- The item of the start has no foot, so nothing is pending under it: it is unfolded as a side is, at the room's start, and the side's plan
-- is the line's.
use Prim.Native.Nat.{ℕ, ◌*◌, ◌<◌}
use native.Mathlib.Nat.{le_refl}
use native.Mathlib.Omega.{arith}
use mathlib.Core.Path.{◌≡◌, sym, ◌∙◌, ap, subst}
use mathlib.Core.Bool.{Bool}
use mathlib.Core.List.{List, [], ◌++◌}
use lib.ListN.{length, drop}
use Rattle.grammar.specs.Items.{Foot, bare}
use Rattle.grammar.specs.ItemList.{item}
use Rattle.grammar.specs.Chart.{item_of, Pends, nothing_pends}
use Rattle.layout.specs.Records.{record_at, chart_in}
use Rattle.layout.specs.Steps.{plan_bytes}
use Rattle.unfold.specs.Unfold.{Held, Unfoldable, Planned}
use Rattle.unfold.specs.declared.Source.{Source}
use Rattle.unfold.specs.Spine.{alone, Ready, Unfolded}
use Rattle.unfold.specs.Unfolding.{Asked}
use Rattle.unfold.proofs.Starting.{start-from, start-to, start-foot}
use Rattle.layout.proofs.Lengths.{plan-bytes-length}

pub start-ready : {card : List ℕ} {at : ℕ → ℕ → Bool} {chart : List ℕ} {count m n : ℕ} → Held card at chart count → m < count
    → item_of (record_at chart m) ≡ item 0 0 n bare → Ready card at chart count m [] []
start-ready {chart = chart} {count = count} {m = m} {n = n} held inside e =
    record {
      held = held;
      inside = inside;
      pends = subst (λ (φ : Foot). Pends (chart_in chart count) φ [] []) (sym (start-foot chart m n e)) nothing_pends;
    }

pub start-asked : {source : Source} {stack plan : List ℕ} {m : ℕ} → Unfoldable source.card.bytes.now source.chart.now m plan
    → length stack ≡ 24 → Asked source stack (alone m 0) plan 0
start-asked {source} {m = m} u full =
    let from = start-from source.chart.now m u.words u.whole in
    let to = start-to source.chart.now m u.words u.whole in
    record {
      at = u.at;
      count = _;
      indices = [];
      ready = start-ready u.held u.inside u.whole;
      above = le_refl 0;
      full = full;
      short = omega (arith, u.short);
      room = omega (arith, u.room);
    }

pub start-planned : {card : List ℕ} {at : ℕ → ℕ → Bool} {chart old new : List ℕ} {count m next : ℕ}
    → Unfolded card at chart count m [] old 0 new next → Planned card at chart count m old new
start-planned {old = old} {next = next} u =
    let size : next ≡ 4 * length u.steps = omega (arith, u.wrote.ends, plan-bytes-length u.steps) in
    record {
      steps = u.steps;
      way = u.way;
      written = u.wrote.written ∙ ap (λ (k : ℕ). plan_bytes u.steps ++ drop k old) size;
    }
