-- The pairs of a plan that passes fit their room, and are all of them put behind the others.
use mathlib.Core.Path.{◌≡◌, refl, sym, ap}
use Rattle.refusals.proofs.NumberLaws as numbers
use Rattle.refusals.specs.Number.{count_in}
use Rattle.sheet.proofs.RecordLaws.{no-refusal, taken-few, adds-records}
use Rattle.sheet.proofs.sheet_records.Records.add.Goals.{After-unwrap-count}
use Rattle.sheet.proofs.sheet_records.Records.add.Goals as goal

pub unwrap-count-requires : goal.unwrap-count-requires
unwrap-count-requires c = numbers.no-refusal c.pairs_of.result (no-refusal c.args.passed.checked c.pairs_of.ensures refl)

-- What is unwrapped is the count.
counted : (c : After-unwrap-count) → c.unwrap-count.result ≡ count_in c.pairs_of.result
counted c = ap count_in (sym c.unwrap-count.ensures)

pub slice_bounds-put-end : goal.slice_bounds-put-end
slice_bounds-put-end c = rw (counted (goal.at.slice_bounds-put-end c).After-unwrap-count) (sym (taken-few c.args.passed.checked c.pairs_of.ensures refl))

pub returns : goal.returns
returns c =
    adds-records c.args.passed.checked c.pairs_of.ensures refl (rw (counted (goal.at.returns c).After-unwrap-count) at c.put.ensures)
