-- What the frame's steps ask and leave.
use Rattle.frame_steps.specs.declared.steps.FrameRefusal.{FrameRefusal}
use Rattle.std.specs.Prelude.{◌≡◌, List, ℕ, ◌*◌, ◌≤◌, length, Float, Ok, Result}
use Rattle.settings.specs.declared.settings.Settings.{Settings}
use Rattle.settings.specs.Settings.{check_of}
use Rattle.symbols.specs.Symbols.{symbols_of}
use Rattle.frame.specs.Points.{floats_of}
use Rattle.reader_state.specs.declared.state.Reader.{Reader}
use Rattle.reader_state.specs.State.{open_raw, start_of}
use Rattle.reader_runs.specs.Sent.{settings_for}
use Rattle.frame_steps.specs.WholeFrame.{memory_at, first_refused, symbols_answer}

-- a reader as its start left it, and room for every symbol of its frame
pub record FrameAsked (s : Settings) (reader : Reader) (points : List Float) (payload : List ℕ) : Type 0 where
  pub accepted : check_of (open_raw reader.settings) ≡ Ok s
  pub begun : reader ≡ (start_of reader.settings).state
  pub whole_points : symbols_of s * floats_of s ≤ length points
  pub whole_payload : s.length ≤ length payload

pub record SymbolsAsked (reader : Reader) (count floats : ℕ) (points : List Float) (payload : List ℕ) : Type 0 where
  pub asked : FrameAsked (settings_for reader.settings) reader points payload
  pub counted : count ≡ symbols_of (settings_for reader.settings)
  pub floats_are : floats ≡ floats_of (settings_for reader.settings)

-- the symbols' answer, and in the payload what the accepted steps left
pub record SymbolsRead (reader : Reader) (points : List Float) (r : Result ℕ FrameRefusal) (payload₀ payload : List ℕ) : Type 0 where
  pub answered : r ≡ symbols_answer reader.settings points (length payload₀)
  pub left : payload ≡ memory_at reader.settings points (first_refused reader.settings points (length payload₀)) payload₀
