-- `jump` has made the steps that the lower bits ask for.
use Rattle.std.proofs.Common.{◌≡◌, ◌%◌, ◌^◌}
use Rattle.chain.specs.Scrambler.{state_at}
use Rattle.scrambler.proofs.register.jump.Given as goal

abbrev pub invariant-loop-k : goal.invariant-loop-k
invariant-loop-k l = l.state ≡ state_at l.seed (l.m % 2 ^ l.k)
