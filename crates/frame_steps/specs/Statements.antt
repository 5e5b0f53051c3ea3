-- What is proved of the whole frame's reading: demand 2 of its slices, and its refusals in their order. The terms are in proofs/Exactly.
use Rattle.frame_steps.specs.declared.steps.FrameRefusal.{FrameRefusal}
use Rattle.acceptance.specs.declared.accept.StepRefusal.{StepRefusal}
use Rattle.frame_steps.specs.declared.steps.FrameRefusal.TheVariants.{Refused as FrameRefused}
use Rattle.std.specs.Prelude.{◌≡◌, List, ◌++◌, ◌↔◌, ◌⊎◌, ℕ, ◌*◌, ◌<◌, ◌≤◌, length, drop, Float, Err, Option, Result}
use Rattle.settings.specs.declared.settings.Refusal.{Refusal}
use Rattle.settings.specs.declared.settings.Refusal.TheVariants.{Room}
use Rattle.symbols.specs.Symbols.{symbols_of}
use Rattle.frame.specs.Points.{floats_of}
use Rattle.reader_state.specs.declared.state.OpenSettings.{OpenSettings}
use Rattle.reader_state.specs.State.{start_of, start_number}
use Rattle.reader.specs.Step.{step_number, step_stream, step_subcarrier}
use Rattle.reader_runs.specs.Sent.{settings_for}
use Rattle.demands.specs.Demand2.{Begun, IsFrame, GivesSymbol, Accepts}
use Rattle.frame_steps.specs.WholeFrame.{symbol_at, answer_at, refused_as, read_frame_of}
use Rattle.frame_steps.specs.WholeFrame.{frame_number, frame_seed, frame_symbol, frame_stream, frame_subcarrier}

-- room for every symbol's points, and for the payload
abbrev pub RoomForFrame : (o : OpenSettings) (floats bytes : ℕ) → Type 0
RoomForFrame o floats bytes = (symbols_of (settings_for o) * floats_of (settings_for o) ≤ floats) × (o.length ≤ bytes)

-- a payload and seed give every symbol of the slice
abbrev pub GivesFrame : (o : OpenSettings) (seed : ℕ) (p : List ℕ) (points : List Float) → Type 0
GivesFrame o seed p points = (n : ℕ) → n < symbols_of (settings_for o) → GivesSymbol o seed p n (symbol_at (settings_for o) points n)

-- demand 2 of the slices: the answer shows a seed "exactly when some payload and seed give" the frame's symbols, and then it is that seed, and the lent payload
-- has that payload, the bytes past it as they were; and where it shows none nothing is written
abbrev pub ReadsShowing : (Shows : (seed : ℕ) → Type 0) (o : OpenSettings) (points : List Float) (payload payload' : List ℕ) → Type 0
ReadsShowing Shows o points payload payload' =
    (Begun o → RoomForFrame o (length points) (length payload)
    → (((seed : ℕ) × Shows seed) ↔ ((seed : ℕ) × ((p : List ℕ) × (IsFrame o seed p × GivesFrame o seed p points))))
    × ((seed : ℕ) (p : List ℕ) → IsFrame o seed p → GivesFrame o seed p points → Shows seed × (payload' ≡ p ++ drop o.length payload)))
    × (((seed : ℕ) → Shows seed → ⊥) → payload' ≡ payload)

-- the library's answer shows it with number 0
abbrev pub ReadsFrame : (o : OpenSettings) (points : List Float) (r : Result ℕ FrameRefusal) (payload payload' : List ℕ) → Type 0
ReadsFrame o points r payload payload' = ReadsShowing (λ seed. (frame_number r ≡ 0) × (frame_seed r ≡ seed)) o points payload payload'

-- the answer of a symbol n that is refused, as the frame's: its number, which is 9, 10 or 11, with the symbol's, and the place of 9
pub record SymbolRefused (r : Result ℕ FrameRefusal) (n : ℕ) (a : Result (Option ℕ) StepRefusal) : Type 0 where
  pub answered : r ≡ refused_as n a
  pub number : frame_number r ≡ step_number a
  pub nine_to_eleven : (frame_number r ≡ 9) ⊎ ((frame_number r ≡ 10) ⊎ (frame_number r ≡ 11))
  pub symbol : frame_symbol r ≡ n
  pub stream : frame_stream r ≡ step_stream a
  pub subcarrier : frame_subcarrier r ≡ step_subcarrier a

-- the settings' refusals, then 8, then 9, 10 or 11 of the first symbol that is refused, with its number
abbrev pub FrameRefusals : Type 0
FrameRefusals = (o : OpenSettings) (points : List Float) (bytes : ℕ) → let r = read_frame_of o points bytes in
    ((e : Refusal) → (start_of o).answer ≡ Err e → (r ≡ Err (FrameRefused e)) × (frame_number r ≡ start_number (start_of o).answer))
    × (Begun o
    → ((frame_number r ≡ 8) ↔ (RoomForFrame o (length points) bytes → ⊥))
    × ((frame_number r ≡ 8 → r ≡ Err (FrameRefused Room))
    × (RoomForFrame o (length points) bytes → (n : ℕ) → n < symbols_of (settings_for o)
    → ((k : ℕ) → k < n → Accepts (answer_at o points bytes k)) → (Accepts (answer_at o points bytes n) → ⊥)
    → SymbolRefused r n (answer_at o points bytes n))))
