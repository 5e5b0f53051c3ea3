-- `put_points` writes the stream run by run.
use Rattle.std.proofs.Common.{◌∙◌, arith}
use Rattle.modulator.proofs.RunningLaws.{part_more, part_end}
use Rattle.modulator.proofs.symbol.Stream.put_points.Goals as goal

pub loop-r-preserved : goal.loop-r-preserved
loop-r-preserved c = (
  c.put_run.auto.out ∙ c.loop-r.invariant.0,
  part_more c.args.self.now c.requires.0.fits c.loop-r.r _ _ _ (omega arith) c.loop-r.invariant.1 c.put_run.ensures,
)

pub returns : goal.returns
returns c = part_end c.args.self.now c.requires.0.fits c.loop-r.r _ _ (omega arith) c.loop-r.invariant.1
