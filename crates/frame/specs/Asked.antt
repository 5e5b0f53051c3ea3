-- What the calls' inner functions ask and leave.
use Rattle.std.specs.Prelude.{◌≡◌, List, ℕ, ◌+◌, ◌*◌, ◌<◌, ◌≤◌, length, get_or, Float}
use Rattle.chain.specs.Labels.{halves_of}
use Rattle.settings.specs.declared.settings.Settings.{Settings}
use Rattle.settings.specs.Settings.{plan_for, Right}
use Rattle.symbols.specs.Symbols.{symbols_of}
use Rattle.frame.specs.Points.{labels_of, floats_of}

-- accepted settings with a whole payload, and a symbol of theirs
pub record InFrame (s : Settings) (payload : List ℕ) (n : ℕ) : Type 0 where
  pub right : Right s
  pub whole_payload : s.length ≤ length payload
  pub below_count : n < symbols_of s

-- the symbol's half labels stand in a list, half m of stream i at i·count + m
pub record LabelsHeld (s : Settings) (payload : List ℕ) (n : ℕ) (halves : List ℕ) : Type 0 where
  pub sized : (plan_for s).streams * halves_of (plan_for s) ≤ length halves
  pub held : (i m : ℕ) → i < (plan_for s).streams → m < halves_of (plan_for s) → get_or halves (i * halves_of (plan_for s) + m) 0 ≡ labels_of s payload n i m

pub record WriteAsked (out : List Float) (s : Settings) (payload : List ℕ) (n : ℕ) : Type 0 where
  pub in_frame : InFrame s payload n
  pub room : floats_of s ≤ length out
