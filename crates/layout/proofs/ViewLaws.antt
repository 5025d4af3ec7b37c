-- What is known of a card's header: it has at least the bytes of the mark, the counts and the offsets, and few more.
-- These two laws are all that proofs know of its length; where entries and productions stand follows by arithmetic.
use Prim.Native.Nat.{ℕ, ◌≤◌}
use mathlib.Core.List.{List}
use lib.Dec.{lit≤}
use Rattle.layout.specs.Card.{least_header, most_header, header_length}

pub header-least : (card : List ℕ) → least_header ≤ header_length card
unfolding header_length
header-least card = lit≤ tt

pub header-most : (card : List ℕ) → header_length card ≤ most_header
unfolding header_length
header-most card = lit≤ tt
