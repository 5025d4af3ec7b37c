-- All bytes are letters where those in front reach the end, and else the byte that stopped them is none.
use Prim.Native.Nat.{◌<◌}
use native.Mathlib.Omega.{arith}
use mathlib.Core.Path.{sym}
use lib.Dec.{eqb}
use lib.ListN.{length}
use borrow.Author.Tests.{eqb-true, eqb-false}
use Rattle.layout.specs.Bytes.{is_letter}
use Rattle.layout.proofs.TestLaws.{some_byte, same_answer}
use Rattle.octets.proofs.LetterLaws.{letters-whole}
use Rattle.octets.proofs.all_letters.Goals as goal

pub returns : goal.returns
returns c =
    let s = c.args.s.now in
    let p = c.past_letters.ensures in
    same_answer (eqb c.past_letters.result (length s))
    (λ e. sym (letters-whole p.taken (omega (arith, eqb-true _ _ e))))
    λ e.
    let before : c.past_letters.result < length s = omega (arith, eqb-false _ _ e, p.taken.within) in
    sym (some_byte is_letter s c.past_letters.result before (p.stops before))
