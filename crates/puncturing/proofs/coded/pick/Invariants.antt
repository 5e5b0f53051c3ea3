-- `pick` stores the sum at one place a turn.
use Rattle.std.proofs.Common.{◌+◌, get_or}
use Rattle.laws.specs.Filled.{Filled}
use Rattle.puncturing.proofs.coded.pick.Given as goal

abbrev pub invariant-loop-y : goal.invariant-loop-y
invariant-loop-y l = Filled 0 0 (λ k. get_or l.sums (get_or l.places k 0 + l.j) 0) l.y l.initial.coded l.coded
