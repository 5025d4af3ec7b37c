use Rattle.std.proofs.Common.{sym, subst, rules}
use Rattle.std.specs.Io.KnownBytes.{Appends}
use Rattle.std.proofs.KnownBytes.{Appends-trans}
use Rattle.lines.proofs.ByteLoops.{take-written}
use Rattle.lines.proofs.output.write_full.Goals as goal

pub loop-done-preserved : goal.loop-done-preserved
loop-done-preserved g c =
    let l = c.loop-done in (
      search rules,
      subst (Appends _ _) (sym (take-written l.done c.in-Ok.n c.args.text.now c.in-Ok.ensures.bound))
          (Appends-trans _ _ _ _ _ l.invariant.1 c.in-Ok.ensures.bytes),
    )
