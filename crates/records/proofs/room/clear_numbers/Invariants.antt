use mathlib.Core.Path.{◌≡◌}
use Rattle.records.specs.Room.{numbers_cleared}
use Rattle.records.proofs.room.clear_numbers.Given as goal

abbrev pub invariant-loop-m : goal.invariant-loop-m
invariant-loop-m l = l.chart ≡ numbers_cleared l.m l.initial.chart
