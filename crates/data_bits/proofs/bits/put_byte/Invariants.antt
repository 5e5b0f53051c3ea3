-- `put_byte` puts one bit a turn.
use Rattle.std.proofs.Common.{◌/◌, ◌%◌, ◌^◌}
use Rattle.laws.specs.Filled.{Filled}
use Rattle.data_bits.proofs.bits.put_byte.Given as goal

abbrev pub invariant-loop-k : goal.invariant-loop-k
invariant-loop-k l = Filled 0 l.at (λ i. l.byte / 2 ^ i % 2) l.k l.initial.raw l.raw
