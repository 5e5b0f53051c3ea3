-- `decode_groups`: before each group, the inputs forced so far are put and the wrong first bits are counted.
use Rattle.std.proofs.Common.{◌+◌, ◌-◌, ◌*◌, get_or}
use Rattle.forcing.specs.Asked.{Part, Tally}
use Rattle.forcing.proofs.steps.decode_groups.Given as goal

abbrev pub invariant-loop-g : goal.invariant-loop-g
invariant-loop-g g l =
    Part l.history (λ k. get_or l.coded (l.base + k) 0) g.row.KEPT l.encoders l.j ((g.row.KEPT - 1) * l.g) l.h l.initial.inputs l.inputs
    × Tally l.history (λ k. get_or l.coded (l.base + k) 0) g.row.KEPT l.g l.wrong
