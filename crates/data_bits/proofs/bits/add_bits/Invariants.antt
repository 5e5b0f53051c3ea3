-- `add_bits` puts one sum a turn.
use Rattle.std.proofs.Common.{get_or}
use Rattle.std.specs.Int.Bits.{bit_xor}
use Rattle.laws.specs.Filled.{Filled}
use Rattle.data_bits.proofs.bits.add_bits.Given as goal

abbrev pub invariant-loop-t : goal.invariant-loop-t
invariant-loop-t l = Filled 0 0 (λ k. bit_xor (get_or l.bits k 0) (get_or l.others k 0)) l.t l.initial.sums l.sums
