-- A whole frame read from one slice of points: the reader started, and stepped over the symbols in order (demand 2 of a frame's slices). Its refusals: the
-- settings', then 8, then the symbols' 9, 10, 11; a refusal writes nothing.
use Rattle.frame_steps.specs.declared.steps.FrameRefusal.{FrameRefusal}
use Rattle.settings.specs.declared.settings.Refusal.{Refusal}
use Rattle.acceptance.specs.declared.accept.StepRefusal.{StepRefusal}
use Rattle.acceptance.specs.declared.accept.StepRefusal.TheVariants.{BadPoint, Refused as StepRefused}
use Rattle.frame_steps.specs.declared.steps.FrameRefusal.TheVariants.{BadPoint as BadPointAt, BadSymbol, Refused as FrameRefused}
use Rattle.std.specs.Prelude.{Bool, cond, not, ◌||◌, List, ℕ, ◌*◌, eqb, ltb, length, drop, ℤ, pos, Float, Err, None, Ok, Option, Result, Some}
use Rattle.laws.specs.Least.{first_from}
use Rattle.settings.specs.declared.settings.Refusal.TheVariants.{Room}
use Rattle.settings.specs.declared.settings.Settings.{Settings}
use Rattle.settings.specs.Settings.{number_of, check_of}
use Rattle.symbols.specs.Symbols.{symbols_of}
use Rattle.frame.specs.Points.{floats_of}
use Rattle.reader_state.specs.declared.state.OpenSettings.{OpenSettings}
use Rattle.reader_state.specs.State.{open_raw}
use Rattle.reader.specs.Step.{step_number, step_seed}
use Rattle.reader_runs.specs.Run.{answer_to, memory_before}
use Rattle.reader_runs.specs.Sent.{settings_for}

-- a frame's points stand symbol by symbol: those from symbol n on
abbrev pub symbol_at : Settings → (points : List Float) (n : ℕ) → List Float
symbol_at s points n = drop (n * floats_of s) points

-- the answer to symbol n where every step is lent the same payload slice
abbrev pub answer_at : (o : OpenSettings) (points : List Float) (bytes n : ℕ) → Result (Option ℕ) StepRefusal
answer_at o points bytes n = answer_to o (symbol_at (settings_for o) points) (λ k. bytes) n

-- what that slice holds before symbol n
abbrev pub memory_at : (o : OpenSettings) (points : List Float) (n : ℕ) (payload : List ℕ) → List ℕ
memory_at o points n payload = memory_before o (symbol_at (settings_for o) points) (λ k. length payload) n payload

-- the first symbol that is refused; the count where none is
unfoldable pub first_refused : (o : OpenSettings) (points : List Float) (bytes : ℕ) → ℕ
first_refused o points bytes = first_from (λ n. not (eqb (step_number (answer_at o points bytes n)) 0)) 0 (symbols_of (settings_for o))

-- a refused symbol's answer with the symbol's number; an accepted one is none
abbrev pub refused_as : (n : ℕ) → Result (Option ℕ) StepRefusal → Result ℕ FrameRefusal
refused_as n (Ok (Some seed)) = Ok seed
refused_as n (Ok None) = Ok 0
refused_as n (Err (BadPoint i z)) = Err (BadPointAt n i z)
refused_as n (Err (StepRefused r)) = Err (BadSymbol n r)

-- the first refusal, or "the seed is in the answer to symbol 0"
abbrev pub symbols_answer : (o : OpenSettings) (points : List Float) (bytes : ℕ) → Result ℕ FrameRefusal
symbols_answer o points bytes =
    let first = first_refused o points bytes in
    cond (ltb first (symbols_of (settings_for o))) (refused_as first (answer_at o points bytes first)) (Ok (step_seed (answer_at o points bytes 0)))

-- "the lent slice for points .. or payload is too short": for all symbols of the frame
abbrev pub frame_no_room : Settings → (floats bytes : ℕ) → Bool
frame_no_room s floats bytes = ltb floats (symbols_of s * floats_of s) || ltb bytes s.length

abbrev pub read_frame_by : Result Settings Refusal → OpenSettings → (points : List Float) (bytes : ℕ) → Result ℕ FrameRefusal
read_frame_by (Ok s) o points bytes = cond (frame_no_room s (length points) bytes) (Err (FrameRefused Room)) (symbols_answer o points bytes)
read_frame_by (Err r) o points bytes = Err (FrameRefused r)

abbrev pub read_frame_of : OpenSettings → (points : List Float) (bytes : ℕ) → Result ℕ FrameRefusal
read_frame_of o points bytes = read_frame_by (check_of (open_raw o)) o points bytes

-- the lent payload afterwards: what the steps leave in it where every symbol is accepted, and on a refusal as it was
abbrev pub frame_into_by : Result ℕ FrameRefusal → (read : List ℕ) → List ℕ → List ℕ
frame_into_by (Ok seed) read payload = read
frame_into_by (Err r) read payload = payload

abbrev pub read_frame_into : OpenSettings → (points : List Float) (payload : List ℕ) → List ℕ
read_frame_into o points payload =
    frame_into_by (read_frame_of o points (length payload)) (memory_at o points (symbols_of (settings_for o)) payload) payload

-- document 01's number of each case, 0 where the frame is read; the seed of each, and the symbol and the place that it names
abbrev pub frame_number : Result ℕ FrameRefusal → ℕ
frame_number (Ok seed) = 0
frame_number (Err (BadPointAt n i z)) = 9
frame_number (Err (BadSymbol n r)) = number_of r
frame_number (Err (FrameRefused r)) = number_of r

abbrev pub frame_seed : Result ℕ FrameRefusal → ℕ
frame_seed (Ok seed) = seed
frame_seed (Err r) = 0

abbrev pub frame_symbol : Result ℕ FrameRefusal → ℕ
frame_symbol (Ok seed) = 0
frame_symbol (Err (BadPointAt n i z)) = n
frame_symbol (Err (BadSymbol n r)) = n
frame_symbol (Err (FrameRefused r)) = 0

abbrev pub frame_stream : Result ℕ FrameRefusal → ℕ
frame_stream (Ok seed) = 0
frame_stream (Err (BadPointAt n i z)) = i
frame_stream (Err (BadSymbol n r)) = 0
frame_stream (Err (FrameRefused r)) = 0

abbrev pub frame_subcarrier : Result ℕ FrameRefusal → ℤ
frame_subcarrier (Ok seed) = pos 0
frame_subcarrier (Err (BadPointAt n i z)) = z
frame_subcarrier (Err (BadSymbol n r)) = pos 0
frame_subcarrier (Err (FrameRefused r)) = pos 0
