-- A plan that passes Check.
use Rattle.std.specs.Prelude.{ℕ, ◌≡◌, List}
use Rattle.layout.specs.Answers.{check_number}

-- The plan passes Check for some line.
abbrev pub Checked : List ℕ → List ℕ → Type 0
Checked card plan = (line : List ℕ) × (check_number card line plan ≡ 0)
