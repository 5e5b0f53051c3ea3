-- `put_carriers` puts one carrier's point a turn.
use Rattle.std.proofs.Common.{◌*◌}
use Rattle.std.specs.Float.{nan}
use Rattle.laws.specs.Filled.{Filled}
use Rattle.mapper.specs.Levels.{whole}
use Rattle.modulator.specs.Asked.{run_level}
use Rattle.modulator.proofs.symbol.Stream.put_carriers.Given as goal

abbrev pub invariant-loop-k : goal.invariant-loop-k
invariant-loop-k l =
    let s = l.self in
    Filled nan l.to (λ g. whole (run_level s.halves.now s.plan.bits s.from l.run.carrier l.run.turned g)) (2 * l.k) l.initial.out l.out
