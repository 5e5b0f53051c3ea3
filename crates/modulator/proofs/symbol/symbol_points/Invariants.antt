-- `symbol_points` writes the symbol stream by stream.
use Rattle.std.proofs.Common.{◌*◌}
use lib.Ieee.{nan}
use Rattle.laws.specs.Filled.{Filled}
use Rattle.chain.specs.Labels.{halves_of}
use Rattle.modulator.specs.Symbol.{stream_floats, symbol_float}
use Rattle.modulator.specs.Asked.{halves_in}
use Rattle.modulator.proofs.symbol.symbol_points.Given as goal

abbrev pub invariant-loop-i : goal.invariant-loop-i
invariant-loop-i l =
    Filled nan 0 (symbol_float l.plan (halves_in l.halves (halves_of l.plan)) l.format l.n) (l.i * stream_floats l.plan.width)
    l.initial.out l.out
