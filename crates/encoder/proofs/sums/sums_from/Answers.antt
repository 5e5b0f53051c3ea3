-- `sums_from` stores the sum of one input a turn.
use Rattle.std.proofs.Common.{arith}
use Rattle.laws.proofs.Filling.{fill_more}
use Rattle.encoder.proofs.sums.sums_from.Goals as goal

pub loop-j-preserved : goal.loop-j-preserved
loop-j-preserved g c = fill_more _ _ _ _ _ _ _ _ (omega arith) (omega arith) c.sum.ensures c.loop-j.invariant
