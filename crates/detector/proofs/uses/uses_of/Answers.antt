-- `uses_of` numbers the places run by run.
use Rattle.std.proofs.Common.{arith}
use Rattle.detector.proofs.UseLaws.{part_more, part_all}
use Rattle.detector.proofs.uses.uses_of.Goals as goal

pub loop-r-preserved : goal.loop-r-preserved
loop-r-preserved c =
    part_more c.args.width c.requires c.loop-r.r _ _ (omega (arith, c.runs_of-r-end.ensures)) c.loop-r.invariant c.put_run.ensures

pub returns : goal.returns
returns c = part_all c.args.width c.requires c.loop-r.r _ (omega (arith, c.runs_of-r-end.ensures)) c.loop-r.invariant
