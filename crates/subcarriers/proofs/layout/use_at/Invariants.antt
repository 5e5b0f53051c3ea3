-- `use_at` looks for the last run that begins at the place or before.
use Rattle.std.proofs.Common.{◌<◌}
use Rattle.subcarriers.proofs.RunLaws.{run_start}
use Rattle.subcarriers.proofs.layout.use_at.Given as goal

-- the place is no place of the runs from r on
abbrev pub invariant-loop-r : goal.invariant-loop-r
invariant-loop-r l = l.f < run_start l.width l.r
