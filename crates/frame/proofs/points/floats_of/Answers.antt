-- `floats_of` multiplies two small numbers.
use Rattle.std.proofs.Common.{◌≡◌, ◌*◌, ◌≤◌, arith}
use Rattle.frame.specs.Points.{floats_of}
use Rattle.frame.proofs.FrameLaws.{floats_are}
use Rattle.frame.proofs.points.floats_of.Goals.{After-places_of}
use Rattle.frame.proofs.points.floats_of.Goals as goal

floats : (c : After-places_of) → let n = c.plan_of-plan.result.streams * (2 * c.places_of.result) in (n ≡ floats_of c.args.s) × (n ≤ 912)
floats c = floats_are c.args.s c.requires _ _ c.plan_of-plan.ensures c.places_of.ensures

pub overflow_mul-result-2 : goal.overflow_mul-result-2
overflow_mul-result-2 c = omega (arith, floats (goal.at.overflow_mul-result-2 c).After-places_of)

pub returns : goal.returns
returns c = floats (goal.at.returns c).After-places_of
