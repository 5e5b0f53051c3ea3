-- A run of the strict reader (demand 2: "begun by its start and handed back each state as it was returned"). Symbol n's points are S n; its step is lent a
-- payload slice of `bytes n` bytes.
use Rattle.acceptance.specs.declared.accept.StepRefusal.{StepRefusal}
use Rattle.std.specs.Prelude.{List, ℕ, zero, suc, Float, Option, Result}
use Rattle.reader_state.specs.declared.state.OpenSettings.{OpenSettings}
use Rattle.reader_state.specs.declared.state.Reader.{Reader}
use Rattle.reader_state.specs.State.{start_of}
use Rattle.reader.specs.Step.{step_of, step_into}

-- the state before symbol n: the start's, and from there on the one that the step before returned
unfoldable pub state_before : (o : OpenSettings) (S : ℕ → List Float) (bytes : ℕ → ℕ) (n : ℕ) → Reader
state_before o S bytes zero = (start_of o).state
state_before o S bytes (suc n) = (step_of (state_before o S bytes n) (S n) (bytes n)).state

-- the answer to symbol n
abbrev pub answer_to : (o : OpenSettings) (S : ℕ → List Float) (bytes : ℕ → ℕ) (n : ℕ) → Result (Option ℕ) StepRefusal
answer_to o S bytes n = (step_of (state_before o S bytes n) (S n) (bytes n)).answer

-- symbol n's payload slice after its step
abbrev pub slice_after : (o : OpenSettings) (S : ℕ → List Float) (bytes : ℕ → ℕ) (n : ℕ) → List ℕ → List ℕ
slice_after o S bytes n slice = step_into (state_before o S bytes n) (S n) slice

-- one slice lent to every step: what it holds before symbol n
unfoldable pub memory_before : (o : OpenSettings) (S : ℕ → List Float) (bytes : ℕ → ℕ) (n : ℕ) → List ℕ → List ℕ
memory_before o S bytes zero slice = slice
memory_before o S bytes (suc n) slice = slice_after o S bytes n (memory_before o S bytes n slice)
