-- Empty sets have no words; and where the words end: a set that is stored at the end takes it on by one.
use Prim.Native.Nat.{ℕ, ◌+◌}
use native.Mathlib.Decide.{ℕ_discrete}
use native.Mathlib.Omega.{arith}
use mathlib.Core.Path.{◌≡◌, sym, ◌∙◌, ap}
use mathlib.Core.Bool.{false, false≢true}
use mathlib.Core.List.{List}
use lib.ListN.{replicate, set}
use lib.Seq.{get_or-set_other}
use Rattle.grammar.specs.Input.{Holds, Below}
use Rattle.bits.specs.Bits.{holds_bit}
use Rattle.bits.proofs.BitLaws.{bit_of-zero, zero-at}
use Rattle.places.specs.Places.{word_test}

pub none-past : (n i w : ℕ) → word_test (replicate n 0) i w ≡ false
none-past n i w = rw (zero-at n i, bit_of-zero w)

pub ends-none : (n : ℕ) → Below (Holds (word_test (replicate n 0))) 0
ends-none n i w h = absurd (false≢true (sym (none-past n i w) ∙ h))

pub ends-stored : (places : List ℕ) (n v : ℕ) → Below (Holds (word_test places)) n
    → Below (Holds (word_test (set places n v))) (n + 1)
ends-stored places n v ends i w h =
    elim (ℕ_discrete i n) [
      | yes same ↦ omega (arith, same)
      | no other ↦ omega (arith, ends i w (sym (ap (holds_bit w) (get_or-set_other places n i v 0 other)) ∙ h))
    ]
