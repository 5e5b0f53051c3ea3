-- A run of the reader by its C calls (demand 2: "begun by its start and handed back each state as it was returned"; docs/C-API.md): `ht_reader_start` returned the
-- number `first`, symbol n's points are S n, and its `ht_reader_step` is lent a payload slice of `bytes n` bytes.
use Rattle.std.specs.Prelude.{List, ℕ, zero, suc, ◌/◌, ◌%◌, Float}
use Rattle.reader_state.specs.declared.state.OpenSettings.{OpenSettings}
use Rattle.reader_numbers.specs.Numbers.{step_result, step_result_into}

-- what a step's result holds: number + 2^5·seed + 2^12·state
abbrev pub number_in : (result : ℕ) → ℕ
number_in result = result % 32

abbrev pub seed_in : (result : ℕ) → ℕ
seed_in result = result / 32 % 128

abbrev pub state_in : (result : ℕ) → ℕ
state_in result = result / 4096

-- the state handed to symbol n's step: the start's, and from there on the one in the result of the step before
unfoldable pub handed_to : (o : OpenSettings) (first : ℕ) (S : ℕ → List Float) (bytes : ℕ → ℕ) (n : ℕ) → ℕ
handed_to o first S bytes zero = first
handed_to o first S bytes (suc n) = state_in (step_result o (handed_to o first S bytes n) (S n) (bytes n))

-- the result of symbol n's step
abbrev pub result_of : (o : OpenSettings) (first : ℕ) (S : ℕ → List Float) (bytes : ℕ → ℕ) (n : ℕ) → ℕ
result_of o first S bytes n = step_result o (handed_to o first S bytes n) (S n) (bytes n)

-- symbol n's payload slice after its step
abbrev pub slice_left : (o : OpenSettings) (first : ℕ) (S : ℕ → List Float) (bytes : ℕ → ℕ) (n : ℕ) → List ℕ → List ℕ
slice_left o first S bytes n slice = step_result_into o (handed_to o first S bytes n) (S n) slice
