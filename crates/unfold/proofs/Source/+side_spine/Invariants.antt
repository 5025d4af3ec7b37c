-- The two unfoldings, a side with nothing pending and a spine with its continuations: what is left of a record is shorter than it, so
-- the measure is the length of the stretch.
use Rattle.unfold.specs.Spine.{length_at}
use Rattle.unfold.proofs.Source.+side_spine.Given as goal

abbrev pub decreases-side : goal.decreases-side
decreases-side l = length_at l.self.now.chart.now l.m

abbrev pub decreases-spine : goal.decreases-spine
decreases-spine l = length_at l.self.now.chart.now l.whole.position
