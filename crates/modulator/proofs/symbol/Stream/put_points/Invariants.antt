-- `put_points` writes the stream run by run.
use Rattle.std.proofs.Common.{◌≡◌, length}
use Rattle.modulator.proofs.RunningLaws.{PartFilled}
use Rattle.modulator.proofs.symbol.Stream.put_points.Given as goal

abbrev pub invariant-loop-r : goal.invariant-loop-r
invariant-loop-r l = (length l.out ≡ length l.initial.out) × PartFilled l.self l.r l.initial.out l.out
