-- In a chart of an accepted card every foot has an index of 1 to 8 and a stretch that is not empty, so that it is told from no foot.
use Prim.Native.Nat.{ℕ, ◌≤◌, ◌<◌}
use native.Mathlib.Omega.{arith}
use mathlib.Core.Path.{◌≡◌, refl}
use mathlib.Core.List.{List}
use Rattle.grammar.specs.Lists.{Stands}
use Rattle.grammar.specs.Items.{Foot, bare, foot}
use Rattle.grammar.specs.ItemList.{item}
use Rattle.grammar.specs.Chart.{Record, recorded, Justified}
use Rattle.grammar.proofs.Unfolding.{justified-derived}
use Rattle.layout.specs.Card.{card_number, grammar_of}
use Rattle.layout.proofs.Accepting.{accepted-counts}
use Rattle.layout.proofs.Feet.{FootOnCard, derived-on-card}

abbrev pub Readable : Foot → Type 0
Readable bare = Unit {0}
Readable (foot γ B p q) = (1 ≤ γ) × (γ ≤ 8) × (p < q)

abbrev pub foot_in : Record → Foot
foot_in (recorded (item A i j φ) p x y z) = φ

abbrev pub FeetReadable : List Record → Type 0
FeetReadable c = (m : ℕ) (e : Record) → Stands c m e → Readable (foot_in e)

module _ (card : List ℕ) (accepted : card_number card ≡ 0) where
  readable : (φ : Foot) → FootOnCard card φ → Readable φ
  readable bare f = tt
  readable (foot γ B p q) f = (f.0, omega (arith, f.1, (accepted-counts card accepted).few_indices), f.3)

  pub chart-feet : {at : ℕ → ℕ → Type 0} (c : List Record)
      → ((m : ℕ) (e : Record) → Stands c m e → Justified (grammar_of card) at c m e) → FeetReadable c
  chart-feet {at} c justified m (recorded (item A i j φ) p x y z) s =
      readable φ (derived-on-card card accepted (justified-derived (grammar_of card) at c justified s refl))
