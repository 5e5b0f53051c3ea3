-- `sum_places` stores one place a turn.
use Rattle.laws.specs.Filled.{Filled}
use Rattle.puncturing.specs.Coded.{sum_place}
use Rattle.puncturing.proofs.coded.sum_places.Given as goal

abbrev pub invariant-loop-y : goal.invariant-loop-y
invariant-loop-y g l = Filled 0 0 (λ k. sum_place g.row.KEPT l.encoders k) l.y l.initial.places l.places
