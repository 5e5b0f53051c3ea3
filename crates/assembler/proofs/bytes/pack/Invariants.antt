-- `bytes::pack` meets its contract: the bits so far as a number.
use Rattle.std.proofs.Common.{◌≡◌, ◌^◌, ◌<◌, get_or}
use Rattle.assembler.specs.Assembled.{bits_number}
use Rattle.assembler.proofs.bytes.pack.Given as goal

abbrev pub invariant-loop-k : goal.invariant-loop-k
invariant-loop-k l = record { number : l.byte ≡ bits_number (λ j. get_or l.line j 0) l.at l.k; small : l.byte < 2 ^ l.k }
