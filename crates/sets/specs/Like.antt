-- Productions that are alike. At a split where the first of them has its side the others add nothing: the items that they make name
-- the left side and what the action makes of the dependent, and not the side.
use Rattle.std.specs.Prelude.{ℕ, ◌<◌, ◌≡◌, List, [], ◌∷◌}
use Rattle.grammar.specs.Rewriting.{Rule, Spine, Action}
use Rattle.layout.specs.Card.{production}
use Rattle.bits.specs.Bits.{bit_of}

-- The same left side, action and dependent, and the side on the same hand of it.
pub data Alike : Rule → Rule → Type 0 where
  alike_first : {A B B' D : ℕ} {a : Action} → Alike (Spine A a (B ∷ []) D []) (Spine A a (B' ∷ []) D [])
  alike_last : {A B B' D : ℕ} {a : Action} → Alike (Spine A a [] D (B ∷ [])) (Spine A a [] D (B' ∷ []))

-- A set of productions that stand before p and are like it.
abbrev pub LikeBefore : List ℕ → ℕ → ℕ → Type 0
LikeBefore card p like = (q : ℕ) → bit_of q like ≡ 1 → (q < p) × Alike (production card q) (production card p)
