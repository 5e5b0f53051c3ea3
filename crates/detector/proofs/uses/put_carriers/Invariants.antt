-- `put_carriers` stores the number of one carrier a turn.
use Rattle.std.proofs.Common.{◌+◌}
use Rattle.laws.specs.Filled.{Filled}
use Rattle.detector.proofs.uses.put_carriers.Given as goal

abbrev pub invariant-loop-k : goal.invariant-loop-k
invariant-loop-k l = Filled 0 l.place (λ j. l.carrier + j) l.k l.initial.uses l.uses
