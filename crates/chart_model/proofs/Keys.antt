-- The key of a step is read off its record: the production's rule tells what is compared, and the split is where the side's stretch ends,
-- or starts. So over one chart a record has no second key.
use Prim.Native.Nat.{ℕ, ◌<◌}
use mathlib.Core.Path.{◌≡◌}
use mathlib.Core.List.{List, [], ◌∷◌}
use mathlib.Core.Option.{Option, none, some}
use lib.ListN.{get_elem?}
use Rattle.grammar.specs.Lists.{NotAfter}
use Rattle.grammar.specs.Rewriting.{Rule, Lexical, Spine, Action}
use Rattle.grammar.specs.ItemList.{item}
use Rattle.grammar.specs.Chart.{Record, recorded, earlier, production_of}
use Rattle.grammar.specs.Ways.{compared, Moves, by_word, side_first, side_last}
use Rattle.grammar.proofs.StandsLaws.{stands-get_elem}

-- The stretch of the item at a position.
abbrev from_of : Option Record → ℕ
from_of none = 0
from_of (some (recorded (item A i j φ) p x y z)) = i

abbrev to_of : Option Record → ℕ
to_of none = 0
to_of (some (recorded (item A i j φ) p x y z)) = j

-- The positions by which steps of one action at one split are told apart; those of a rule; the split; and the key.
abbrev pub compared_in : Action → Record → List ℕ
compared_in a (recorded it p x y z) = compared a x y z

abbrev pub positions : Rule → Record → List ℕ
positions (Lexical A w) e = []
positions (Spine A a before D after) e = compared_in a e

abbrev split_by : List Record → Rule → Record → ℕ
split_by c (Lexical A w) (recorded (item A' i j φ) p x y z) = j
split_by c (Spine A a (B ∷ before) D after) (recorded it p x y z) = to_of (get_elem? c x)
split_by c (Spine A a [] D after) (recorded it p x y z) = from_of (get_elem? c x)

abbrev key_by : List Record → Option Rule → Record → List ℕ
key_by c none e = []
key_by c (some r) e = production_of e ∷ split_by c r e ∷ positions r e

abbrev pub key_of : List Rule → List Record → Record → List ℕ
key_of g c e = key_by c (get_elem? g (production_of e)) e

pub moves-key : {g : List Rule} {at : ℕ → ℕ → Type 0} {c : List Record} {m : ℕ} {e : Record} {key : List ℕ} → Moves g at c m e key
    → key ≡ key_of g c e
moves-key (by_word s a) = rw (stands-get_elem s)
moves-key (side_first s (earlier l x) y r) = rw (stands-get_elem s, stands-get_elem x)
moves-key (side_last s y (earlier l x) r) = rw (stands-get_elem s, stands-get_elem x)

-- The order of records by their keys over one chart.
abbrev pub InOrder : List Rule → List Record → Record → Record → Type 0
InOrder g c e f = NotAfter ◌<◌ (key_of g c e) (key_of g c f)
