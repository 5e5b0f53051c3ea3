-- `bits::is_framed` meets its contract: the three ranges of the test add up to zero exactly when it passes.
use Rattle.std.proofs.Common.{get_or, arith}
use Rattle.deframer.proofs.Counting.{counted_front, counted_part, framed_counted}
use Rattle.deframer.proofs.bits.is_framed.Goals as goal

pub returns : goal.returns
returns c = let a = c.args in
    framed_counted a.bytes a.encoders a.start a.count (λ d. get_or a.inputs.now d 0) (λ d. get_or a.plain.now d 0) _ _ _ _ _ _
    c.below_mark-service.ensures c.below_mark-tail.ensures c.below_mark-pad.ensures
    (counted_front _ _ _ (omega arith) c.nonzero.ensures.0)
    (counted_part _ _ _ _ (omega arith) (omega arith) c.nonzero-2.ensures.0)
    (counted_part _ _ _ _ (omega arith) (omega arith) c.nonzero-3.ensures.0)
