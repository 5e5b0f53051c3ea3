-- What the step's inner functions ask.
use Rattle.std.specs.Prelude.{List, ℕ, ◌*◌, ◌<◌, ◌≤◌, length, get_or, Float}
use Rattle.settings.specs.declared.settings.Settings.{Settings}
use Rattle.settings.specs.Settings.{plan_for, Right}
use Rattle.frame.specs.Points.{floats_of}
use Rattle.reader_state.specs.declared.state.Reader.{Reader}
use Rattle.reader_state.specs.State.{InRange}

pub record HearBitsAsked (s : Settings) (st : Reader) (bits payload : List ℕ) : Type 0 where
  pub right : Right s
  pub in_range : InRange s st
  pub whole_bits : (plan_for s).streams * (plan_for s).block ≤ length bits
  pub one_bit : (k : ℕ) → get_or bits k 0 < 2
  pub whole_payload : s.length ≤ length payload

pub record PointsAsked (s : Settings) (st : Reader) (points : List Float) (payload : List ℕ) : Type 0 where
  pub right : Right s
  pub in_range : InRange s st
  pub whole_points : floats_of s ≤ length points
  pub whole_payload : s.length ≤ length payload
