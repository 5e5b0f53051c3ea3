-- Demand 2 of the reader's C calls: "The reader, begun by its start and handed back each state as it was returned, accepts symbols exactly
-- when some payload and seed give them, and returns that payload and seed." The words are those of Demand2 and Retried in
-- crates/demands/specs. And of every call: "A refusal changes nothing in lent memory" (docs/C-API.md). The terms are in proofs/CallRuns,
-- proofs/Closing and proofs/Unchanged.
use Rattle.std.specs.Prelude.{◌≡◌, cond, List, ◌↔◌, ◌⊎◌, ℕ, ◌+◌, ◌%◌, ◌<◌, ◌≤◌, eqb, length as length_of, ℤ, pos, Float}
use Rattle.settings.specs.Settings.{check_of}
use Rattle.symbols.specs.Symbols.{symbols_of}
use Rattle.signal.specs.HtSig.{written_of, written_into}
use Rattle.frame.specs.Points.{points_of, points_into}
use Rattle.query.specs.Query.{query_of}
use Rattle.conversions.specs.Results.{raw_of, written_result, points_result, carrier_result, carrier_into}
use Rattle.reader_state.specs.declared.state.OpenSettings.{OpenSettings}
use Rattle.reader_state.specs.State.{start_of}
use Rattle.reader.specs.Step.{step_number, step_seed}
use Rattle.reader_numbers.specs.Numbers.{open_of, state_number, start_result, step_result, step_result_into}
use Rattle.reader_numbers.specs.Statements.{HasState}
use Rattle.reader_runs.specs.Run.{state_before, answer_to, slice_after}
use Rattle.reader_runs.specs.Sent.{settings_for}
use Rattle.demands.specs.Demand2.{Begun, IsFrame, GivesSymbol, lengths, RoomAt, LeavesBytes}
use Rattle.demands.specs.Retried.{symbols_before, AcceptedOr8, GivesAttempts}
use Rattle.frame_steps.specs.WholeFrame.{read_frame_of, read_frame_into}
use Rattle.frame_steps.specs.Statements.{ReadsShowing}
use Rattle.frame_reader.specs.Result.{frame_result}
use Rattle.call_runs.specs.CallRun.{number_in, seed_in, state_in, handed_to, result_of, slice_left}

-- "begun by its start": the call returned a number that is not negative
abbrev pub BegunWith : (o : OpenSettings) (first : ℕ) → Type 0
BegunWith o first = start_result (start_of o) ≡ pos first

-- the calls are the steps: number, seed and slice of each, and the state that goes through C as a number is the state that was returned
abbrev pub CallsAreSteps : Type 0
CallsAreSteps = (o : OpenSettings) (first : ℕ) (S : ℕ → List Float) (bytes : ℕ → ℕ) → BegunWith o first
    → Begun o
    × ((n : ℕ)
    → (number_in (result_of o first S bytes n) ≡ step_number (answer_to o S bytes n))
    × ((seed_in (result_of o first S bytes n) ≡ step_seed (answer_to o S bytes n))
    × (((slice : List ℕ) → slice_left o first S bytes n slice ≡ slice_after o S bytes n slice)
    × ((state_in (result_of o first S bytes n) ≡ state_number (state_before o S bytes (n + 1)))
    × (handed_to o first S bytes (n + 1) ≡ state_in (result_of o first S bytes n))))))

-- field by field: the number handed to step n has the fields of the state before symbol n
abbrev pub CallStatesTold : Type 0
CallStatesTold = (o : OpenSettings) (first : ℕ) (S : ℕ → List Float) (bytes : ℕ → ℕ) → BegunWith o first
    → (n : ℕ) → HasState (handed_to o first S bytes n) (state_before o S bytes n)

-- and so demand 2 (a) and (b) hold of them: accepted exactly where some payload and seed give the symbols; the result of symbol 0 has that seed, and step n
-- leaves in its slice the bytes that are now complete and all else as it was
abbrev pub CallsExactly : Type 0
CallsExactly = (o : OpenSettings) (first : ℕ) (S : ℕ → List Float) (M : ℕ → List ℕ) (m : ℕ) → BegunWith o first
    → m < symbols_of (settings_for o) → ((n : ℕ) → n ≤ m → RoomAt o S M n)
    → (((n : ℕ) → n ≤ m → number_in (result_of o first S (lengths M) n) ≡ 0)
    ↔ ((seed : ℕ) × ((p : List ℕ) × (IsFrame o seed p × ((n : ℕ) → n ≤ m → GivesSymbol o seed p n (S n))))))
    × ((seed : ℕ) (p : List ℕ) → IsFrame o seed p → ((n : ℕ) → n ≤ m → GivesSymbol o seed p n (S n))
    → (seed_in (result_of o first S (lengths M) 0) ≡ seed)
    × ((n : ℕ) → n ≤ m → LeavesBytes o p n (M n) (slice_left o first S (lengths M) n (M n))))

-- and of `ht_read_frame`, whose result shows a seed as a number that is not negative
abbrev pub FrameCallExactly : Type 0
FrameCallExactly = (o : OpenSettings) (points : List Float) (payload : List ℕ)
    → ReadsShowing (λ seed. frame_result (read_frame_of o points (length_of payload)) ≡ pos seed)
    o points payload (read_frame_into o points payload)

-- ---- calls of which any are 8: attempt k has the points S k and the slice M k

-- the number of attempt k's result
abbrev pub call_number : (o : OpenSettings) (first : ℕ) (S : ℕ → List Float) (M : ℕ → List ℕ) (k : ℕ) → ℕ
call_number o first S M k = number_in (result_of o first S (lengths M) k)

-- demand 2 (a) and (b) of them: every attempt is accepted or 8 exactly where some payload and seed give the symbols of those that are
-- not 8, and these return that seed and payload; one that is 8 gives back the number that it was handed, and leaves its slice as it was
abbrev pub RetriedCallsExactly : Type 0
RetriedCallsExactly = (o : OpenSettings) (first : ℕ) (S : ℕ → List Float) (M : ℕ → List ℕ) (K : ℕ) → BegunWith o first
    → (AcceptedOr8 (call_number o first S M) K
    ↔ ((seed : ℕ) × ((p : List ℕ) × (IsFrame o seed p × GivesAttempts o seed p S (call_number o first S M) K))))
    × (((seed : ℕ) (p : List ℕ) → IsFrame o seed p → GivesAttempts o seed p S (call_number o first S M) K
    → (k : ℕ) → k < K → (call_number o first S M k ≡ 8 → ⊥) → let n = symbols_before (call_number o first S M) k in
    (seed_in (result_of o first S (lengths M) k) ≡ cond (eqb n 0) seed 0)
    × LeavesBytes o p n (M k) (slice_left o first S (lengths M) k (M k)))
    × ((k : ℕ) → call_number o first S M k ≡ 8
    → (handed_to o first S (lengths M) (k + 1) ≡ handed_to o first S (lengths M) k) × (slice_left o first S (lengths M) k (M k) ≡ M k)))

-- ---- closed for ever

-- a step that is 12: no seed, `back` as the state that it gives back, and its slice as it was
abbrev pub ClosedStep : (o : OpenSettings) (state : ℕ) (points : List Float) (slice : List ℕ) (back : ℕ) → Type 0
ClosedStep o state points slice back = let result = step_result o state points (length_of slice) in
    (number_in result ≡ 12) × ((seed_in result ≡ 0) × ((state_in result ≡ back) × (step_result_into o state points slice ≡ slice)))

-- a number of 2^49 or more is no state: 12, and the state that comes back is that number modulo 2^48 with its end marked, so that every
-- further step, with any settings, points and slice, is 12 too, gives the same state back and changes nothing
abbrev pub NoStateClosed : Type 0
NoStateClosed = (o : OpenSettings) (state : ℕ) (points : List Float) (slice : List ℕ) → 562949953421312 ≤ state
    → let closed = state % 281474976710656 + 281474976710656 in
    ClosedStep o state points slice closed
    × ((o' : OpenSettings) (points' : List Float) (slice' : List ℕ) → ClosedStep o' closed points' slice' closed)

-- from call n on every call is 12, and gives back the number that call n was handed
abbrev pub CallsClosedFrom : (o : OpenSettings) (first : ℕ) (S : ℕ → List Float) (M : ℕ → List ℕ) (n : ℕ) → Type 0
CallsClosedFrom o first S M n = (k : ℕ) → n ≤ k
    → ClosedStep o (handed_to o first S (lengths M) k) (S k) (M k) (handed_to o first S (lengths M) n)

-- demand 2 (d) of the calls: after the first 9, 10 or 11, and after the last symbol was accepted, whatever calls were 8 on the way
abbrev pub CallsClosed : Type 0
CallsClosed = (o : OpenSettings) (first : ℕ) (S : ℕ → List Float) (M : ℕ → List ℕ) → BegunWith o first
    → ((n : ℕ) → ((call_number o first S M n ≡ 9) ⊎ ((call_number o first S M n ≡ 10) ⊎ (call_number o first S M n ≡ 11)))
    → CallsClosedFrom o first S M (n + 1))
    × ((K : ℕ) → AcceptedOr8 (call_number o first S M) K → symbols_before (call_number o first S M) K ≡ symbols_of (settings_for o)
    → CallsClosedFrom o first S M K)

-- ---- "A refusal changes nothing in lent memory"

-- a result below 0: it is no number from 0 on
abbrev pub Negative : ℤ → Type 0
Negative result = (n : ℕ) → result ≡ pos n → ⊥

-- where the call refuses, the lent slice afterwards is the slice as it was
abbrev pub Unchanged : {A : Type 0} (Refuses : List A → Type 0) (after : List A → List A) → Type 0
Unchanged {A} Refuses after = (lent : List A) → Refuses lent → after lent ≡ lent

-- each exported call that is lent a slice to write, by its name, over the definitions of its promise (crates/capi/src/lib.rt)
pub record RefusalsChangeNothing : Type 0 where
  pub ht_sig_write : (width mcs format length seed smoothing notSounding aggregation shortGuard : ℕ)
      → let checked = check_of (raw_of width mcs format length seed smoothing notSounding aggregation shortGuard) in
      Unchanged (λ out. Negative (written_result (written_of checked (length_of out)))) (λ out. written_into checked out)
  pub ht_points : (width mcs format length seed smoothing notSounding aggregation shortGuard : ℕ) (payload : List ℕ) (symbol : ℕ)
      → let checked = check_of (raw_of width mcs format length seed smoothing notSounding aggregation shortGuard) in
      Unchanged (λ out. Negative (points_result (points_of checked (length_of payload) symbol (length_of out))))
      (λ out. points_into checked payload symbol out)
  pub ht_carrier : (width mcs format length seed smoothing notSounding aggregation shortGuard : ℕ) (payload : List ℕ)
      (symbol stream : ℕ) (subcarrier : ℤ)
      → let checked = check_of (raw_of width mcs format length seed smoothing notSounding aggregation shortGuard) in
      let answer = query_of checked payload symbol stream subcarrier in
      Unchanged (λ out. Negative (carrier_result answer (length_of out))) (λ out. carrier_into answer out)
  pub ht_reader_step : (width mcs format length smoothing notSounding aggregation shortGuard state : ℕ) (points : List Float)
      → let o = open_of width mcs format length smoothing notSounding aggregation shortGuard in
      Unchanged (λ payload. number_in (step_result o state points (length_of payload)) ≡ 0 → ⊥)
      (λ payload. step_result_into o state points payload)
  pub ht_read_frame : (width mcs format length smoothing notSounding aggregation shortGuard : ℕ) (points : List Float)
      → let o = open_of width mcs format length smoothing notSounding aggregation shortGuard in
      Unchanged (λ payload. Negative (frame_result (read_frame_of o points (length_of payload)))) (λ payload. read_frame_into o points payload)
