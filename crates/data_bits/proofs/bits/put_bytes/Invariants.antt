-- `put_bytes` puts one byte a turn.
use Rattle.std.proofs.Common.{◌*◌}
use Rattle.laws.specs.Filled.{Filled}
use Rattle.chain.specs.DataBits.{payload_bit}
use Rattle.data_bits.proofs.bits.put_bytes.Given as goal

abbrev pub invariant-loop-m : goal.invariant-loop-m
invariant-loop-m l = Filled 0 0 (payload_bit l.bytes) (8 * l.m) l.initial.raw l.raw
