-- The strict reader's step from any state (document 01, refusals 12, 8, 9, 10, 11 in this order, and "it carries two six-bit encoder histories, the scrambler
-- and a part of a byte"): its answer, the state that it returns, and the payload's bytes afterwards.
use Rattle.settings.specs.declared.settings.Refusal.{Refusal}
use Rattle.acceptance.specs.declared.accept.StepRefusal.{StepRefusal}
use Rattle.acceptance.specs.declared.accept.StepRefusal.TheVariants.{BadPoint, Refused as StepRefused}
use Rattle.std.specs.Prelude.{Bool, cond, ◌||◌, List, [], ◌∷◌, ℕ, ltb, length, ℤ, pos, Float, Err, None, Ok, Option, Result, Some}
use Rattle.chain.specs.Decoder.{decoded_input, decodes}
use Rattle.settings.specs.declared.settings.Refusal.TheVariants.{Room, Code, Closed}
use Rattle.settings.specs.declared.settings.Settings.{Settings}
use Rattle.settings.specs.Settings.{number_of, check_of, plan_for}
use Rattle.subcarriers.specs.Subcarriers.{subcarrier_at}
use Rattle.frame.specs.Points.{floats_of}
use Rattle.detector.specs.Detected.{search_of, shown_bit}
use Rattle.decoder.specs.Decoded.{history_moved}
use Rattle.reader_state.specs.declared.state.Reader.{Reader}
use Rattle.acceptance.specs.declared.accept.Stepped.{Stepped}
use Rattle.reader_state.specs.State.{open_raw, history_of, closed_of, ended_of}
use Rattle.acceptance.specs.Accepted.{answered, bytes_into, step_into_by, by_frame}

-- ---- from a symbol's label bits on

-- the inputs that the label bits force, after the state's histories
abbrev pub heard_input : Settings → Reader → (lab : ℕ → ℕ → ℕ) (d : ℕ) → ℕ
heard_input s st lab d = decoded_input (plan_for s) (history_of st) lab d

-- both histories after the inputs X
abbrev pub histories_after : Settings → Reader → (X : ℕ → ℕ) → List ℕ
histories_after s st X = history_moved (plan_for s) (history_of st) X 0 ∷ (history_moved (plan_for s) (history_of st) X 1 ∷ [])

-- by refusal 10, then by 11
abbrev pub by_code : Settings → Reader → (lab : ℕ → ℕ → ℕ) → Stepped
by_code s st lab = cond (decodes (plan_for s) (history_of st) lab) (by_frame s st (heard_input s st lab) (histories_after s st (heard_input s st lab))) (answered (Err (StepRefused Code)) (ended_of st))

-- ---- from a symbol's points on

-- by refusal 9 with its place, then by 10 and 11
abbrev pub by_search : Option (ℕ × ℕ) → Settings → Reader → List Float → Stepped
by_search (Some (i, f)) s st points = answered (Err (BadPoint i (subcarrier_at s.width f))) (ended_of st)
by_search None s st points = by_code s st (shown_bit (plan_for s) points)

-- "the lent slice for points .. or payload is too short"
abbrev pub no_room : Settings → (floats bytes : ℕ) → Bool
no_room s floats bytes = ltb floats (floats_of s) || ltb bytes s.length

-- the step: 12, then 8, 9, 10, 11
abbrev pub step_by : Result Settings Refusal → Reader → List Float → (bytes : ℕ) → Stepped
step_by (Ok s) st points bytes =
    cond (closed_of s st) (answered (Err (StepRefused Closed)) st)
    (cond (no_room s (length points) bytes) (answered (Err (StepRefused Room)) st)
    (by_search (search_of (plan_for s) points s.format st.symbol) s st points))
step_by (Err r) st points bytes = answered (Err (StepRefused Closed)) st

abbrev pub step_of : Reader → List Float → (bytes : ℕ) → Stepped
step_of st points bytes = step_by (check_of (open_raw st.settings)) st points bytes

-- the payload's bytes where the symbol is accepted; a state of refused settings accepts none
abbrev pub written_by : Result Settings Refusal → Reader → List Float → List ℕ → List ℕ
written_by (Ok s) st points payload = bytes_into s st (heard_input s st (shown_bit (plan_for s) points)) payload
written_by (Err r) st points payload = payload

-- the lent payload afterwards
abbrev pub step_into : Reader → List Float → List ℕ → List ℕ
step_into st points payload =
    step_into_by (step_of st points (length payload)).answer (written_by (check_of (open_raw st.settings)) st points payload) payload

-- document 01's number of each case, 0 where the symbol is accepted; the seed and the place of each
abbrev pub step_number : Result (Option ℕ) StepRefusal → ℕ
step_number (Ok seed) = 0
step_number (Err (BadPoint i z)) = 9
step_number (Err (StepRefused r)) = number_of r

abbrev pub step_seed : Result (Option ℕ) StepRefusal → ℕ
step_seed (Ok (Some seed)) = seed
step_seed (Ok None) = 0
step_seed (Err r) = 0

abbrev pub step_stream : Result (Option ℕ) StepRefusal → ℕ
step_stream (Ok seed) = 0
step_stream (Err (BadPoint i z)) = i
step_stream (Err (StepRefused r)) = 0

abbrev pub step_subcarrier : Result (Option ℕ) StepRefusal → ℤ
step_subcarrier (Ok seed) = pos 0
step_subcarrier (Err (BadPoint i z)) = z
step_subcarrier (Err (StepRefused r)) = pos 0
