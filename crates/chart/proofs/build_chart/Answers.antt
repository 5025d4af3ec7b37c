-- `build_chart` meets its contract: the model's result is exact, its numbers are cleared, and the room is cleared where the items do not
-- fit. What was built is asked of the call itself, for either answer.
use Rattle.chart.proofs.BuiltExact.{built-over, built-within}
use Rattle.chart.proofs.build_chart.Goals as goal

pub returns-in_default : goal.returns-in_default
returns-in_default c =
    let i = c.args.input in
    built-over i.words.now.places i.card.accepted i.words.now.ends (rw c.in_default.is at c.build_in.ensures) c.clear.ensures

pub returns : goal.returns
returns c =
    let i = c.args.input in
    built-within i.words.now.places i.card.accepted i.words.now.ends (rw c.in-Some.is at c.build_in.ensures) c.clear_numbers.ensures
