-- Document 01, "Refusals by who can cause them": the refusals of a call are one list in their order, each with what it asks. The number
-- answered is that of the first that does not hold. What follows from such an answer is said once, in proofs/RefusalLaws.antt.
use Rattle.std.specs.Prelude.{ℕ, Bool, true, false, List, [], ◌∷◌}

-- What is asked, and the number where it does not hold.
pub data Refusal : Type 0 where
  unless : (holds : Bool) (number : ℕ) → Refusal

-- The number of the first that does not hold; 0 where all hold.
abbrev pub first_refusal : List Refusal → ℕ
first_refusal [] = 0
first_refusal (unless true number ∷ others) = first_refusal others
first_refusal (unless false number ∷ others) = number
