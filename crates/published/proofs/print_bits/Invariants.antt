-- `print_bits` prints one digit a turn.
use Rattle.std.proofs.Common.{◌+◌, ◌%◌, take, map}
use Rattle.std.specs.Io.KnownBytes.{Appends}
use Rattle.published.proofs.print_bits.Given as goal

abbrev pub invariant-loop-bit : goal.invariant-loop-bit
invariant-loop-bit g l = Appends (g.W.Write.contents l.fn.out) (g.W.Write.contents l.out) (map (λ b. 48 + b % 2) (take l.bit-index l.bits))
