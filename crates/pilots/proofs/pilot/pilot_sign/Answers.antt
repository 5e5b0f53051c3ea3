-- `pilot_sign`: two minus signs are a plus.
use Rattle.std.proofs.Common.{◌≡◌, ◌∙◌, ap, ◌+◌, ◌%◌, arith}
use lib.Ieee.{of_bits, of_int, neg}
use Rattle.subcarriers.specs.Subcarriers.{pilots_of}
use Rattle.pilots.specs.Pilots.{sign_of, pattern_of}
use Rattle.pilots.proofs.PilotLaws.{sign_float}
use Rattle.pilots.proofs.pilot.pilot_sign.Goals.{After-pattern_minus}
use Rattle.pilots.proofs.pilot.pilot_sign.Goals as goal

-- the row's value
value : (c : After-pattern_minus)
    → sign_of c.pattern_minus.result ≡ pattern_of c.args.width c.args.streams c.args.i ((c.args.n + c.args.q) % pilots_of c.args.width)
value c = c.pattern_minus.ensures.0 ∙ ap (pattern_of c.args.width c.args.streams c.args.i) c.pattern_index-k.ensures.0

pub returns-then-minus-eq0 : goal.returns-then-minus-eq0
unfolding of_bits of_int
returns-then-minus-eq0 c =
    sign_float _ c.pattern_minus.result c.args.polarity 0 (value (goal.at.returns-then-minus-eq0 c).After-pattern_minus)
    c.pattern_minus.ensures.1 c.requires.n_bound.1 c.if-minus-eq0.true

pub returns-else-minus-eq0 : goal.returns-else-minus-eq0
unfolding of_bits of_int neg
returns-else-minus-eq0 c =
    sign_float _ c.pattern_minus.result c.args.polarity 1 (value (goal.at.returns-else-minus-eq0 c).After-pattern_minus)
    c.pattern_minus.ensures.1 c.requires.n_bound.1 (omega arith)
