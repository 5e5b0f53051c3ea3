-- `put_run` stores one label bit a turn, each at its own place.
use Rattle.std.proofs.Common.{◌+◌, get_or}
use Rattle.laws.specs.Scattered.{Scattered}
use Rattle.deinterleaver.proofs.coded.put_run.Given as goal

abbrev pub invariant-loop-r : goal.invariant-loop-r
invariant-loop-r l = Scattered 0 (λ k. get_or l.places k 0 + l.shift) (λ k. get_or l.bits k 0) l.r l.initial.coded l.coded
