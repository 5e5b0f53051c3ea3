-- What the reading of a whole frame takes from the reader's runs. Assumes accepted settings and points for every symbol.
use Rattle.std.specs.Prelude.{None, Ok, Option, Result, Some}
use Rattle.acceptance.specs.declared.accept.StepRefusal.{StepRefusal}
use mathlib.Core.Path.{◌≡◌, ap}
use mathlib.Core.Bool.{cond, not}
use mathlib.Core.List.{List}
use Prim.Native.Nat.{ℕ, ◌+◌, ◌*◌, ◌<◌, ◌≤◌}
use native.Mathlib.Nat.{suc-mul, mul-le-mul_right}
use native.Mathlib.Omega.{arith}
use lib.Dec.{eqb, ltb}
use lib.ListN.{length, get_or, length-drop}
use lib.Ieee.{Float}
use Rattle.laws.specs.Filled.{Filled}
use Rattle.laws.specs.Least.{first_from}
use Rattle.laws.proofs.Filling.{fill_at, fill_as}
use Rattle.laws.proofs.Firsts.{fill_only}
use Rattle.settings.specs.declared.settings.Settings.{Settings}
use Rattle.settings.specs.Settings.{check_of}
use Rattle.symbols.specs.Symbols.{symbols_of}
use Rattle.frame.specs.Points.{floats_of}
use Rattle.assembler.specs.Assembled.{byte_of}
use Rattle.reader_state.specs.declared.state.OpenSettings.{OpenSettings}
use Rattle.reader_state.specs.State.{open_raw}
use Rattle.reader.specs.Step.{step_number, step_seed}
use Rattle.reader_runs.specs.Sent.{settings_for, SentBy, Rooms}
use Rattle.reader_runs.proofs.Runs.{run_gives, run_takes}
use Rattle.reader_runs.proofs.Memory.{memory_whole}
use Rattle.reader_runs.proofs.Endings.{answers_room}
use Rattle.frame_steps.specs.WholeFrame.{symbol_at, answer_at, memory_at, first_refused, refused_as, symbols_answer}

module _ (o : OpenSettings) (ready : check_of (open_raw o) ≡ Ok (settings_for o)) (points : List Float)
    (whole : symbols_of (settings_for o) * floats_of (settings_for o) ≤ length points) where
  abbrev s : Settings
  s = settings_for o

  abbrev S : ℕ → List Float
  S = symbol_at (settings_for o) points

  -- every symbol has its points, and the payload its room
  pub rooms : (bytes : ℕ) → o.length ≤ bytes → (m : ℕ) → m ≤ symbols_of (settings_for o) → Rooms (settings_for o) (symbol_at (settings_for o) points) (λ k. bytes) m
  rooms bytes h m few n l =
      let n' : n < symbols_of s = omega (arith, l, few) in
      (omega (arith, length-drop (n * floats_of s) points, whole, rw suc-mul at (mul-le-mul_right (floats_of s) n')), h)

  -- the payload slice's room does not count where there is enough
  pub answer_room : (bytes bytes' : ℕ) → o.length ≤ bytes → o.length ≤ bytes' → symbols_answer o points bytes ≡ symbols_answer o points bytes'
  unfolding first_refused
  answer_room bytes bytes' h h' =
      let same : ◌≡◌ {A = ℕ → Result (Option ℕ) StepRefusal} (answer_at o points bytes) (answer_at o points bytes') =
      λ i. λ n. answers_room o S (λ k. bytes) (λ k. bytes') (λ k. h) (λ k. h') n i in
      ap (λ (a : ℕ → Result (Option ℕ) StepRefusal).
      let first : ℕ = first_from (λ n. not (eqb (step_number (a n)) 0)) 0 (symbols_of s) in
      cond (ltb first (symbols_of s)) (refused_as first (a first)) (Ok (step_seed (a 0)))) same

  -- a symbol accepted after accepted ones: symbol 0 with a seed, a later one with none
  pub accepted_as : (bytes : ℕ) → o.length ≤ bytes → (n : ℕ) → n < symbols_of (settings_for o) → ((k : ℕ) → k ≤ n → step_number (answer_at o points bytes k) ≡ 0)
      → (seed : ℕ) × (answer_at o points bytes n ≡ cond (eqb n 0) (Ok (Some seed)) (Ok None))
  accepted_as bytes h n l accepted =
      let few : n + 1 ≤ symbols_of s = omega (arith, l) in
      let room = rooms bytes h (n + 1) few in
      let f = run_gives o ready S (λ k. bytes) (n + 1) few room (λ k b. accepted k (omega (arith, b))) in
      (f.seed, run_takes o ready S (λ k. bytes) (n + 1) few room f n (omega arith))

  -- the whole payload in a slice that every step was lent
  pub payload_read : (f : SentBy (settings_for o) (symbol_at (settings_for o) points) (symbols_of (settings_for o))) (payload : List ℕ) → o.length ≤ length payload
      → Filled 0 0 (byte_of f.v) o.length payload (memory_at o points (symbols_of (settings_for o)) payload)
  payload_read f payload h = memory_whole o ready S (λ k. length payload) (rooms (length payload) h (symbols_of s) (omega arith)) f payload h

  -- bytes read apart and then copied are those that the steps leave in the payload itself
  pub copied : (apart payload payload' : List ℕ) → o.length ≤ length apart → o.length ≤ length payload
      → ((k : ℕ) → k < symbols_of (settings_for o) → step_number (answer_at o points (length apart) k) ≡ 0)
      → Filled 0 0 (λ k. get_or (memory_at o points (symbols_of (settings_for o)) apart) k 0) o.length payload payload'
      → payload' ≡ memory_at o points (symbols_of (settings_for o)) payload
  copied apart payload payload' h h' accepted filled =
      let f = run_gives o ready S (λ k. length apart) (symbols_of s) (omega arith) (rooms (length apart) h (symbols_of s) (omega arith)) accepted in
      fill_only 0 0 (byte_of f.v) o.length payload payload' _
      (fill_as 0 0 _ (byte_of f.v) o.length payload payload' (λ i l. fill_at 0 (byte_of f.v) (payload_read f apart h) i l) filled)
      (payload_read f payload h')
