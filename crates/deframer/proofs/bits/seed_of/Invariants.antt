-- `bits::seed_of`: the inputs so far as a number, the first the highest.
use Rattle.std.proofs.Common.{◌≡◌, ◌^◌, ◌<◌, get_or}
use Rattle.deframer.proofs.Plain.{first_highest}
use Rattle.deframer.proofs.bits.seed_of.Given as goal

abbrev pub invariant-loop-input : goal.invariant-loop-input
invariant-loop-input l = (l.register ≡ first_highest (λ d. get_or l.inputs d 0) l.input-index) × (l.register < 2 ^ l.input-index)
