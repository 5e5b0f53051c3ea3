-- Calls that are 8 and tried again, and calls that are closed for ever: terms of specs/Statements. Assumes nothing.
use Rattle.std.specs.Prelude.{Err, None, Ok, Option, Result, Some}
use Rattle.acceptance.specs.declared.accept.StepRefusal.{StepRefusal}
use Rattle.acceptance.specs.declared.accept.StepRefusal.TheVariants.{BadPoint, Refused as StepRefused}
use mathlib.Core.Path.{◌≡◌, ◌∙◌, refl, sym, ap, subst}
use mathlib.Core.Bool.{Bool, true, false, cond}
use mathlib.Core.List.{List}
use mathlib.Core.Logic.{◌↔◌, ◌⊎◌}
use Prim.Native.Nat.{ℕ, ◌+◌, ◌*◌, ◌/◌, ◌%◌, ◌<◌, ◌≤◌}
use native.Mathlib.Omega.{arith}
use borrow.Author.Tests.{le-leb, lt-leb, eq-eqb}
use lib.Dec.{eqb, leb}
use lib.ListN.{length}
use lib.Ieee.{Float}
use Rattle.symbols.specs.Symbols.{symbols_of}
use Rattle.settings.specs.Settings.{check_of}
use Rattle.reader_state.specs.declared.state.OpenSettings.{OpenSettings}
use Rattle.reader_state.specs.State.{open_raw}
use Rattle.reader.specs.Step.{step_of, step_into, step_number, step_seed}
use Rattle.reader_numbers.specs.Numbers.{state_number, reader_of, stepped_number, closed_number, step_result, step_result_into}
use Rattle.reader_numbers.proofs.NumberBack.{number_back}
use Rattle.reader_runs.specs.Run.{answer_to}
use Rattle.reader_runs.specs.Sent.{settings_for}
use Rattle.reader_runs.proofs.Endings.{ended_step, ended_slice}
use Rattle.demands.specs.Demand2.{Begun, IsFrame, lengths, LeavesBytes, ClosedFrom}
use Rattle.demands.specs.Retried.{symbols_before, attempt_number, AcceptedOr8, GivesAttempts}
use Rattle.demands.proofs.Demand2.{demand_2d}
use Rattle.demands.proofs.Retried.{retried_exactly, retried_returns, eight_changes_nothing, retried_closes}
use Rattle.call_runs.specs.CallRun.{number_in, seed_in, state_in, result_of, slice_left}
use Rattle.call_runs.specs.Statements.{BegunWith, call_number, RetriedCallsExactly, ClosedStep, NoStateClosed, CallsClosedFrom, CallsClosed}
use Rattle.call_runs.proofs.CallRuns.{begun_by, handed_is, number_is, seed_is, slice_is, state_is}

-- ---- calls of which any are 8

-- the seed of an accepted answer
accepted_seed : (first : Bool) (seed : ℕ) → step_seed (cond first (Ok (Some seed)) (Ok None)) ≡ cond first seed 0
accepted_seed true seed = refl
accepted_seed false seed = refl

module _ (o : OpenSettings) (first : ℕ) (S : ℕ → List Float) (M : ℕ → List ℕ) (begun : BegunWith o first) where
  ready : Begun o
  ready = (begun_by (check_of (open_raw o)) o first begun).0

  -- the results' numbers are the answers'
  numbers_are : call_number o first S M ≡ attempt_number o S M
  numbers_are = λ i k. number_is o first S (lengths M) begun k i

  -- what the attempts return
  abbrev Returned : (K seed : ℕ) (p : List ℕ) (number : ℕ → ℕ) → Type 0
  Returned K seed p number = GivesAttempts o seed p S number K → (k : ℕ) → k < K → (number k ≡ 8 → ⊥) → let n = symbols_before number k in
      (seed_in (result_of o first S (lengths M) k) ≡ cond (eqb n 0) seed 0)
      × LeavesBytes o p n (M k) (slice_left o first S (lengths M) k (M k))

  returned : (K seed : ℕ) (p : List ℕ) → IsFrame o seed p → Returned K seed p (attempt_number o S M)
  returned K seed p frame gives k l tried =
      let r = retried_returns o S M K ready seed p frame gives k l tried in (
        seed_is o first S (lengths M) begun k ∙ ap step_seed r.0 ∙ accepted_seed (eqb (symbols_before (attempt_number o S M) k) 0) seed,
        subst (LeavesBytes o p (symbols_before (attempt_number o S M) k) (M k)) (sym (slice_is o first S (lengths M) begun k (M k))) r.1,
      )

pub retried_calls_exactly : RetriedCallsExactly
retried_calls_exactly o first S M K begun = (
  subst (λ (number : ℕ → ℕ). AcceptedOr8 number K ↔ ((seed : ℕ) × ((p : List ℕ) × (IsFrame o seed p × GivesAttempts o seed p S number K))))
      (sym (numbers_are o first S M begun)) (retried_exactly o S M K (ready o first S M begun)),
  (
    λ seed p frame. subst (Returned o first S M begun K seed p) (sym (numbers_are o first S M begun))
        (returned o first S M begun K seed p frame),
    λ k e.
        let same = eight_changes_nothing o S M k (sym (number_is o first S (lengths M) begun k) ∙ e) in (
          handed_is o first S (lengths M) begun (k + 1) ∙ ap state_number same.0 ∙ sym (handed_is o first S (lengths M) begun k),
          slice_is o first S (lengths M) begun k (M k) ∙ same.1,
        ),
  ),
)

-- ---- numbers that are no state

-- the result of a step that is 12
twelve_parts : (result back : ℕ) → result ≡ 12 + 4096 * back → (number_in result ≡ 12) × ((seed_in result ≡ 0) × (state_in result ≡ back))
twelve_parts result back e = (omega (arith, e), (omega (arith, e), omega (arith, e)))

module _ (o : OpenSettings) (state : ℕ) (points : List Float) (slice : List ℕ) where
  -- a call by its test
  result_by : (none : Bool) → leb 562949953421312 state ≡ none → step_result o state points (length slice)
      ≡ cond none (12 + 4096 * closed_number state) (stepped_number (step_of (reader_of o state) points (length slice)))
  result_by none e =
      ap (λ (b : Bool). cond b (12 + 4096 * closed_number state) (stepped_number (step_of (reader_of o state) points (length slice)))) e

  slice_by : (none : Bool) → leb 562949953421312 state ≡ none
      → step_result_into o state points slice ≡ cond none slice (step_into (reader_of o state) points slice)
  slice_by none e = ap (λ (b : Bool). cond b slice (step_into (reader_of o state) points slice)) e

  -- from a number that is no state
  closed_none : 562949953421312 ≤ state → ClosedStep o state points slice (closed_number state)
  closed_none high =
      let none : leb 562949953421312 state ≡ true = le-leb 562949953421312 state high in
      let parts = twelve_parts (step_result o state points (length slice)) (closed_number state) (result_by true none) in
      (parts.0, (parts.1.0, (parts.1.1, slice_by true none)))

  -- from a state whose end is marked
  module _ (low : 281474976710656 ≤ state) (below : state < 562949953421312) where
    ended_state : (reader_of o state).ended ≡ true
    unfolding reader_of
    ended_state = eq-eqb (state / 281474976710656 % 2) 1 (omega arith)

    some_state : leb 562949953421312 state ≡ false
    some_state = lt-leb 562949953421312 state below

    ended_result : step_result o state points (length slice) ≡ 12 + 4096 * state
    unfolding stepped_number
    ended_result =
        result_by false some_state
        ∙ ap stepped_number (ended_step (reader_of o state) ended_state points (length slice))
        ∙ ap (λ (k : ℕ). 12 + 4096 * k) (number_back o state below)

    closed_some : ClosedStep o state points slice state
    closed_some =
        let parts = twelve_parts (step_result o state points (length slice)) state ended_result in
        (parts.0, (parts.1.0, (parts.1.1, slice_by false some_state ∙ ended_slice (reader_of o state) ended_state points slice)))

pub no_state_closed : NoStateClosed
no_state_closed o state points slice high = (
  closed_none o state points slice high,
  λ o' points' slice'. closed_some o' (closed_number state) points' slice' (omega arith) (omega arith),
)

-- ---- demand 2 (d)

-- a step that is 12 has no seed
closed_seed : (a : Result (Option ℕ) StepRefusal) → step_number a ≡ 12 → step_seed a ≡ 0
closed_seed (Ok (Some seed)) e = absurd (let n : ◌≡◌ {A = ℕ} 0 12 = e in omega (arith, n))
closed_seed (Ok None) e = refl
closed_seed (Err (BadPoint i z)) e = refl
closed_seed (Err (StepRefused r)) e = refl

module _ (o : OpenSettings) (first : ℕ) (S : ℕ → List Float) (M : ℕ → List ℕ) (begun : BegunWith o first) where
  closed_calls : (n : ℕ) → ClosedFrom o S M n → CallsClosedFrom o first S M n
  closed_calls n closed k l =
      let c = closed k l in (
        number_is o first S (lengths M) begun k ∙ c.0,
        (
          seed_is o first S (lengths M) begun k ∙ closed_seed (answer_to o S (lengths M) k) c.0,
          (
            state_is o first S (lengths M) begun k ∙ ap state_number c.1.0 ∙ sym (handed_is o first S (lengths M) begun n),
            slice_is o first S (lengths M) begun k (M k) ∙ c.1.1,
          ),
        ),
      )

pub calls_closed : CallsClosed
calls_closed o first S M begun = (
  λ n refused. closed_calls o first S M begun (n + 1)
      ((demand_2d o S M).0 n
      (subst (λ (number : ℕ → ℕ). (number n ≡ 9) ⊎ ((number n ≡ 10) ⊎ (number n ≡ 11))) (numbers_are o first S M begun) refused)),
  λ K. subst (λ (number : ℕ → ℕ). AcceptedOr8 number K → symbols_before number K ≡ symbols_of (settings_for o) → CallsClosedFrom o first S M K)
      (sym (numbers_are o first S M begun))
      (λ all last. closed_calls o first S M begun K (retried_closes o S M K (ready o first S M begun) all last)),
)
