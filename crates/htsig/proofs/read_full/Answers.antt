-- `read_full` has put what it consumed at the start of the buffer.
use Rattle.std.proofs.Common.{rules, subst}
use Rattle.std.specs.Io.KnownBytes.{Consumes}
use Rattle.std.proofs.KnownBytes.{Consumes-trans}
use Rattle.htsig.proofs.Reading.{read_behind}
use Rattle.htsig.proofs.read_full.Goals as goal

pub loop-done-preserved : goal.loop-done-preserved
loop-done-preserved g c =
    let filled = read_behind c.loop-done.done c.in_ok-n.n c.loop-done.buffer c.read.new.buf c.loop-done.invariant.1
    c.in_ok-n.ensures.bound.0 in
    (search rules, search rules, subst (Consumes _ _) filled (Consumes-trans _ _ _ _ _ c.loop-done.invariant.2 c.in_ok-n.ensures.bytes.0))
