-- `pilot_point` goes by the turn.
use lib.Ieee.{of_bits, of_int}
use Rattle.modulator.proofs.RunningLaws.{pilot_turned, pilot_plain}
use Rattle.modulator.proofs.symbol.pilot_point.Goals as goal

pub returns-then-turned : goal.returns-then-turned
unfolding of_bits of_int
returns-then-turned c = pilot_turned c.args.sign c.args.turned _ c.if-turned.true c.turn.ensures

pub returns-else-turned : goal.returns-else-turned
unfolding of_bits of_int
returns-else-turned c = pilot_plain c.args.sign c.args.turned c.if-turned.false
