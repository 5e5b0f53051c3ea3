-- The reader by its C calls: the numbers handed back are the states that were returned, so that demand 2 holds of the calls. Assumes nothing.
use Rattle.std.specs.Prelude.{Err, Ok, Result}
use Rattle.settings.specs.declared.settings.Refusal.{Refusal}
use Rattle.settings.specs.declared.settings.Settings.{Settings}
use mathlib.Core.Path.{◌≡◌, ◌∙◌, refl, sym, ap, ap₂, subst}
use mathlib.Core.Bool.{Bool, false, cond}
use mathlib.Core.List.{List}
use Prim.Native.Nat.{ℕ, zero, suc, ◌+◌, ◌*◌, ◌<◌}
use native.Mathlib.Numerals.{add-one}
use native.Mathlib.Omega.{arith}
use borrow.Author.Tests.{lt-leb, ne_eqb}
use lib.Dec.{eqb, leb}
use lib.ListN.{length}
use lib.IntN.{pos}
use lib.Ieee.{Float}
use Rattle.laws.specs.Integers.{minus}
use Rattle.settings.specs.Settings.{check_of}
use Rattle.reader_state.specs.declared.state.OpenSettings.{OpenSettings}
use Rattle.reader_state.specs.declared.state.Reader.{Reader}
use Rattle.acceptance.specs.declared.accept.Stepped.{Stepped}
use Rattle.reader_state.specs.State.{open_raw, start_by}
use Rattle.reader.specs.Step.{step_of, step_into, step_number, step_seed}
use Rattle.conversions.proofs.Minus.{pos_told, minus_not_pos, refused_not_pos}
use Rattle.reader_numbers.specs.Numbers.{state_number, reader_of, start_result, stepped_number, closed_number, step_result, step_result_into}
use Rattle.reader_numbers.specs.Statements.{HasState}
use Rattle.reader_runs.specs.Run.{state_before, answer_to, slice_after}
use Rattle.reader_runs.proofs.Endings.{run_kept}
use Rattle.demands.specs.Demand2.{lengths, LeavesBytes}
use Rattle.demands.proofs.Demand2.{demand_2a, demand_2b}
use Rattle.frame_steps.specs.WholeFrame.{read_frame_of, frame_number, frame_seed}
use Rattle.frame_steps.proofs.Exactly.{reads_frame}
use Rattle.call_runs.specs.CallRun.{number_in, seed_in, state_in, handed_to, result_of, slice_left}
use Rattle.call_runs.specs.Statements.{BegunWith, CallsAreSteps, CallStatesTold, CallsExactly, FrameCallExactly}
use Rattle.call_runs.proofs.Held.{Held, held_back, held_below, held_told, start_held, step_held, answer_below, seed_below}

-- ---- the start

-- a start that returned a number is begun, and the number is its state's
pub begun_by : (x : Result Settings Refusal) (o : OpenSettings) (first : ℕ) → start_result (start_by x o) ≡ pos first
    → ((start_by x o).answer ≡ Ok tt) × (first ≡ state_number (start_by x o).state)
begun_by (Ok s) o first e = (refl, sym (pos_told _ first e))
begun_by (Err r) o first e = absurd (refused_not_pos r first e)

-- ---- a step's result by its parts

pub stepped_parts : (r : Stepped) → step_seed r.answer < 128
    → (number_in (stepped_number r) ≡ step_number r.answer)
    × ((seed_in (stepped_number r) ≡ step_seed r.answer) × (state_in (stepped_number r) ≡ state_number r.state))
unfolding stepped_number
stepped_parts r small = let five = answer_below r.answer in (omega arith, (omega arith, omega arith))

-- a call with a state's number is the step from that state
module _ (o : OpenSettings) (state : ℕ) (st : Reader) (held : Held st) (own : st.settings ≡ o) (is : state ≡ state_number st) (points : List Float) where
  comes_back : reader_of o state ≡ st
  comes_back = ap₂ reader_of (sym own) is ∙ held_back st held

  is_state : leb 562949953421312 state ≡ false
  is_state = lt-leb 562949953421312 state (omega (arith, held_below st held, is))

  call_is : (bytes : ℕ) → step_result o state points bytes ≡ stepped_number (step_of st points bytes)
  call_is bytes =
      ap (λ (b : Bool). cond b (12 + 4096 * closed_number state) (stepped_number (step_of (reader_of o state) points bytes))) is_state
      ∙ ap (λ (t : Reader). stepped_number (step_of t points bytes)) comes_back

  call_into : (slice : List ℕ) → step_result_into o state points slice ≡ step_into st points slice
  call_into slice =
      ap (λ (b : Bool). cond b slice (step_into (reader_of o state) points slice)) is_state
      ∙ ap (λ (t : Reader). step_into t points slice) comes_back

-- ---- runs

run_held : (o : OpenSettings) (S : ℕ → List Float) (bytes : ℕ → ℕ) (n : ℕ) → Held (state_before o S bytes n)
unfolding state_before
run_held o S bytes zero = start_held (check_of (open_raw o)) o
run_held o S bytes (suc n) = step_held (state_before o S bytes n) (run_held o S bytes n) (S n) (bytes n)

-- the state in a result is handed to the next step
handed_next : (o : OpenSettings) (first : ℕ) (S : ℕ → List Float) (bytes : ℕ → ℕ) (n : ℕ)
    → handed_to o first S bytes (n + 1) ≡ state_in (result_of o first S bytes n)
unfolding handed_to
handed_next o first S bytes n = ap (handed_to o first S bytes) (add-one n)

module _ (o : OpenSettings) (first : ℕ) (S : ℕ → List Float) (bytes : ℕ → ℕ) (begun : BegunWith o first) where
  -- the number handed to a step is that of the state that was returned
  pub handed_is : (n : ℕ) → handed_to o first S bytes n ≡ state_number (state_before o S bytes n)
  unfolding handed_to state_before
  handed_is zero = (begun_by (check_of (open_raw o)) o first begun).1
  handed_is (suc n) =
      ap state_in (call_is o (handed_to o first S bytes n) (state_before o S bytes n) (run_held o S bytes n) (run_kept o S bytes n) (handed_is n) (S n) (bytes n))
      ∙ (stepped_parts (step_of (state_before o S bytes n) (S n) (bytes n)) (seed_below (state_before o S bytes n) (S n) (bytes n))).1.1

  result_is : (n : ℕ) → result_of o first S bytes n ≡ stepped_number (step_of (state_before o S bytes n) (S n) (bytes n))
  result_is n = call_is o (handed_to o first S bytes n) (state_before o S bytes n) (run_held o S bytes n) (run_kept o S bytes n) (handed_is n) (S n) (bytes n)

  pub number_is : (n : ℕ) → number_in (result_of o first S bytes n) ≡ step_number (answer_to o S bytes n)
  number_is n =
      ap number_in (result_is n)
      ∙ (stepped_parts (step_of (state_before o S bytes n) (S n) (bytes n)) (seed_below (state_before o S bytes n) (S n) (bytes n))).0

  pub seed_is : (n : ℕ) → seed_in (result_of o first S bytes n) ≡ step_seed (answer_to o S bytes n)
  seed_is n =
      ap seed_in (result_is n)
      ∙ (stepped_parts (step_of (state_before o S bytes n) (S n) (bytes n)) (seed_below (state_before o S bytes n) (S n) (bytes n))).1.0

  pub slice_is : (n : ℕ) (slice : List ℕ) → slice_left o first S bytes n slice ≡ slice_after o S bytes n slice
  slice_is n slice = call_into o (handed_to o first S bytes n) (state_before o S bytes n) (run_held o S bytes n) (run_kept o S bytes n) (handed_is n) (S n) slice

  -- the state in a result is the next one
  pub state_is : (n : ℕ) → state_in (result_of o first S bytes n) ≡ state_number (state_before o S bytes (n + 1))
  state_is n = sym (handed_next o first S bytes n) ∙ handed_is (n + 1)

pub calls_are_steps : CallsAreSteps
calls_are_steps o first S bytes begun = (
  (begun_by (check_of (open_raw o)) o first begun).0,
  λ n. (
    number_is o first S bytes begun n,
    (
      seed_is o first S bytes begun n,
      (slice_is o first S bytes begun n, (state_is o first S bytes begun n, handed_next o first S bytes n)),
    ),
  ),
)

pub call_states_told : CallStatesTold
call_states_told o first S bytes begun n =
    let st = state_before o S bytes n in
    subst (λ (x : ℕ). HasState x st) (sym (handed_is o first S bytes begun n)) (held_told st (run_held o S bytes n))

pub calls_exactly : CallsExactly
calls_exactly o first S M m begun below room =
    let ready = (begun_by (check_of (open_raw o)) o first begun).0 in
    let exactly = demand_2a o S M m ready below room in (
      (
        λ accepted. exactly.0 (λ n l. sym (number_is o first S (lengths M) begun n) ∙ accepted n l),
        λ given n l. number_is o first S (lengths M) begun n ∙ exactly.1 given n l,
      ),
      λ seed p frame gives.
          let returned = demand_2b o S M m ready below room seed p frame gives in (
            seed_is o first S (lengths M) begun 0 ∙ ap step_seed (returned 0 (omega arith)).0,
            λ n l. subst (LeavesBytes o p n (M n)) (sym (slice_is o first S (lengths M) begun n (M n))) (returned n l).1,
          ),
    )

-- ---- a whole frame by one call

-- a result that is not negative is number 0 with that seed
seed_told : (number seed k : ℕ) → cond (eqb number 0) (pos seed) (minus number) ≡ pos k → (number ≡ 0) × (seed ≡ k)
seed_told zero seed k e = (refl, pos_told seed k e)
seed_told (suc n) seed k e = absurd (minus_not_pos (suc n) k (omega arith) (simp (ne_eqb (suc n) 0 (λ z. omega (arith, z))) at e))

seed_shown : (number seed k : ℕ) → (number ≡ 0) × (seed ≡ k) → cond (eqb number 0) (pos seed) (minus number) ≡ pos k
seed_shown zero seed k (z, e) = ap pos e
seed_shown (suc n) seed k (z, e) = absurd (omega (arith, z))

pub frame_call_exactly : FrameCallExactly
frame_call_exactly o points payload =
    let frame = reads_frame o points payload in
    let r = read_frame_of o points (length payload) in
    let told = seed_told (frame_number r) (frame_seed r) in
    let shown = seed_shown (frame_number r) (frame_seed r) in (
      λ begun room.
          let both = frame.0 begun room in (
            (
              λ (k, e). both.0.0 (k, told k e),
              λ given. let found = both.0.1 given in (found.0, shown found.0 found.1),
            ),
            λ seed p is gives. let read = both.1 seed p is gives in (shown seed read.0, read.1),
          ),
      λ none. frame.1 (λ seed e. none seed (shown seed e)),
    )
