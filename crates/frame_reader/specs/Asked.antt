-- What the reading apart leaves.
use Rattle.frame_steps.specs.declared.steps.FrameRefusal.{FrameRefusal}
use Rattle.std.specs.Prelude.{◌≡◌, List, ℕ, length, Float, Result}
use Rattle.symbols.specs.Symbols.{symbols_of}
use Rattle.reader_state.specs.declared.state.Reader.{Reader}
use Rattle.reader_runs.specs.Sent.{settings_for}
use Rattle.frame_steps.specs.WholeFrame.{memory_at, symbols_answer, frame_into_by}

-- the symbols' answer, and the payload as the steps leave it where all were accepted, else as it was
pub record FrameLeft (reader : Reader) (points : List Float) (r : Result ℕ FrameRefusal) (payload₀ payload : List ℕ) : Type 0 where
  pub answered : r ≡ symbols_answer reader.settings points (length payload₀)
  pub left : payload ≡ frame_into_by r (memory_at reader.settings points (symbols_of (settings_for reader.settings)) payload₀) payload₀
