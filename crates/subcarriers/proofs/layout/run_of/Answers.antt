-- `run_of` is a row of the width's table.
use Rattle.subcarriers.proofs.RunLaws.{wide_run, narrow_run}
use Rattle.subcarriers.proofs.layout.run_of.Goals.{then-wide, else-wide}
use Rattle.subcarriers.proofs.layout.run_of.Goals as goal

pub returns : goal.returns
returns c = elim c.if-wide.branch [
  | then-wide w ↦ wide_run c.args.width c.args.r c.if-wide.place c.requires w.if-wide.true w.place-is
  | else-wide w ↦ narrow_run c.args.width c.args.r c.if-wide.place c.requires w.if-wide.false w.place-is
]
