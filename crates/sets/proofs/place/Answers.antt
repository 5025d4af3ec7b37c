-- `place` meets its contract: a line has few spans, so the sum fits.
use native.Mathlib.Omega.{arith}
use Rattle.records.proofs.TableLaws.{spans-more}
use Rattle.sets.proofs.place.Goals as goal

pub overflow_mul-result : goal.overflow_mul-result
overflow_mul-result c = let s = c.args.span in omega (arith, spans-more s.words 24 s.few)

pub overflow_add-result : goal.overflow_add-result
overflow_add-result c = let s = c.args.span in omega (arith, spans-more s.words 24 s.few)
