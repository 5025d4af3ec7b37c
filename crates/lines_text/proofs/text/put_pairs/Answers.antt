use Rattle.std.proofs.Common.{◌∙◌, ap, arith, get_or, length, length-append}
use Rattle.std.specs.Slice.Iter.{chunks_exact_rest}
use Rattle.lines_text.proofs.Appending.{going-turn}
use Rattle.lines_text.proofs.Rows.{pairs-turn, pair-short}
use Rattle.lines_text.proofs.text.put_pairs.Goals as goal

pub loop-pair-preserved : goal.loop-pair-preserved
loop-pair-preserved c =
    let l = c.loop-pair.invariant in
    let pair = c.in-Some.pair.now in
    let rest = chunks_exact_rest c.next.new.self in
    let (same, (next, two), _) = c.in-Some.ensures.steps in
    let x = c.put_pair-after.ensures in
    let most = pair-short (get_or pair 0 0) (get_or pair 1 0) in (
      same ∙ l.0,
      omega (arith, x.size, x.same_length, l.1, ap length next, length-append pair rest, most),
      going-turn l.2 (pairs-turn pair rest (two ∙ l.0) next) x,
    )
