-- `group` takes one step after another.
use Rattle.std.proofs.Common.{arith}
use Rattle.forcing.proofs.GroupLaws.{begun, step_done}
use Rattle.forcing.proofs.steps.group.Goals as goal

pub loop-t-init : goal.loop-t-init
loop-t-init g c = begun c.requires

pub loop-t-preserved : goal.loop-t-preserved
loop-t-preserved g c = step_done c.requires c.loop-t.invariant (omega (arith, c.loop-t-test.true)) c.step-h.ensures
