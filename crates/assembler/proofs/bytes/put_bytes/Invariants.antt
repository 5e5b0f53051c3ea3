-- `bytes::put_bytes` meets its contract: each turn puts one byte.
use Rattle.std.proofs.Common.{◌*◌, get_or}
use Rattle.laws.specs.Filled.{Filled}
use Rattle.assembler.specs.Assembled.{bits_number}
use Rattle.assembler.proofs.bytes.put_bytes.Given as goal

abbrev pub invariant-loop-k : goal.invariant-loop-k
invariant-loop-k l = Filled 0 0 (λ i. bits_number (λ j. get_or l.line j 0) (8 * i) 8) l.k l.initial.bytes l.bytes
