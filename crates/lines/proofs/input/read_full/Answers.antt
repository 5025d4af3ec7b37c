use Rattle.std.proofs.Common.{◌-◌, rules, length, sym, subst}
use Rattle.std.specs.Io.KnownBytes.{Consumes}
use Rattle.std.proofs.KnownBytes.{Consumes-trans}
use Rattle.lines.proofs.ByteLoops.{take-read}
use Rattle.lines.proofs.input.read_full.Goals as goal

pub loop-done-preserved : goal.loop-done-preserved
loop-done-preserved g c =
    let l = c.loop-done in (
      search rules,
      subst (Consumes _ _)
          (sym (take-read l.done (length l.buf - l.done) c.in-Ok.n l.buf c.read.new.buf l.invariant.0 c.in-Ok.ensures.bound.0))
          (Consumes-trans _ _ _ _ _ l.invariant.1 c.in-Ok.ensures.bytes.0),
    )
