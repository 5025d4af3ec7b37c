-- All the letters from `at` on.
use Rattle.line.proofs.cut.word_end.Goals as goal

pub returns : goal.returns
returns c =
    record {
      taken = c.past_letters.ensures.taken;
      stops = c.past_letters.ensures.stops;
    }
