-- By the action: a take finds the newest continuation at the top of the stack, a keep changes nothing, and a give stores its own at
-- the depth, above all that are pending. The laws of Waiting.antt say so of what the stack holds, newest first.
use Rattle.unfold.proofs.Waiting.{can-take, taking, keeping, giving}
use native.Mathlib.Omega.{arith}
use Rattle.unfold.proofs.onward.Goals as goal

pub overflow_sub-last : goal.overflow_sub-last
overflow_sub-last c = omega (arith, can-take c.args.whole c.in-Take.is c.requires.takes)

pub returns-in-Take : goal.returns-in-Take
returns-in-Take c = taking _ _ _ c.in-Take.is c.requires.takes c.from-waiting.ensures

pub returns-in-Keep : goal.returns-in-Keep
returns-in-Keep c = keeping _ _ _ c.in-Keep.is c.requires.above

pub returns-in-Give : goal.returns-in-Give
returns-in-Give c = let fits = c.requires in
    giving _ _ _ c.in-Give.is fits.above (omega (arith, fits.full, fits.free))
