-- `group`: before step t, the first t inputs are put.
use Rattle.std.proofs.Common.{◌+◌, get_or}
use Rattle.forcing.specs.Asked.{Part}
use Rattle.forcing.proofs.steps.group.Given as goal

abbrev pub invariant-loop-t : goal.invariant-loop-t
invariant-loop-t g l = Part l.history (λ k. get_or l.coded (l.i + k) 0) g.row.KEPT l.encoders l.to l.t l.h l.initial.inputs l.inputs
