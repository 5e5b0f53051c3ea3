-- `bits::seed_of` meets its contract: the first seven inputs, the first the highest, are the register seven steps on.
use Rattle.std.proofs.Common.{get_or, length-take, arith}
use Rattle.deframer.proofs.Plain.{seed_by}
use Rattle.deframer.proofs.bits.seed_of.Goals as goal

pub returns : goal.returns
returns c = let l = c.loop-input in
    seed_by (λ d. get_or c.args.inputs.now d 0) _ _ _ (omega (arith, length-take 7 c.args.inputs.now))
    l.invariant.0 l.invariant.1 c.jump.ensures
