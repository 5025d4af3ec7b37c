-- Read with a chart in its room. What planning asks of such a room, and what it answers:
-- the plan of the item of the start over all words where the chart has it, and an untouched room where it has not.
use Rattle.std.specs.Prelude.{ℕ, ◌≤◌, ◌≡◌, Bool, Option, Some, None, List, Ok, length}
use Rattle.layout.specs.Steps.{plan_room}
use Rattle.unfold.specs.Unfold.{Held, Planned, start_number, start_steps, Found}
use Rattle.reader.specs.Read.{answer_from}
use Rattle.reader.specs.declared.read.Reading.{Reading}

-- The first count records of the room are justified for the line of some test, and a plan of n words has room.
pub record Charted (card chart : List ℕ) (n count : ℕ) (plan : List ℕ) : Type 0 where
  pub at : ℕ → ℕ → Bool
  pub held : Held card at chart count
  pub some_words : 1 ≤ n
  pub short : n ≤ 24
  pub room : plan_room n ≤ length plan

abbrev pub RoomAfter : List ℕ → (ℕ → ℕ → Bool) → List ℕ → ℕ → Option ℕ → List ℕ → List ℕ → Type 0
RoomAfter card at chart count (Some m) old new = Planned card at chart count m old new
RoomAfter card at chart count None old new = new ≡ old

-- Whatever test the records are justified for, the plan goes down its chart by the recorded steps.
pub record PlanOf (card chart : List ℕ) (n count : ℕ) (old new : List ℕ) (r : Reading) : Type 0 where
  pub start : Option ℕ
  pub searched : Found chart count n start
  pub answer : answer_from (Ok r) ≡ record { number = start_number start; words = n; items = count; steps = start_steps n start }
  pub plan : (at : ℕ → ℕ → Bool) → Held card at chart count → RoomAfter card at chart count start old new
