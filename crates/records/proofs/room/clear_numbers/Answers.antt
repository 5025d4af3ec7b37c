-- `room::clear_numbers` meets its contract. The loop's invariant: the numbers of the first m records are cleared.
use Rattle.records.proofs.NumbersCleared.{cleared_more}
use Rattle.records.proofs.room.clear_numbers.Goals as goal

pub loop-m-preserved : goal.loop-m-preserved
loop-m-preserved c = cleared_more c.loop-m.m c.args.chart.now c.loop-m.chart c.loop-m.invariant
