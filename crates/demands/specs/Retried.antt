-- Demand 2 of runs in which any steps are 8: "The reader, begun by its start and handed back each state as it was returned, accepts symbols
-- exactly when some payload and seed give them, and returns that payload and seed." A step that is 8 gives its state back, and its symbol
-- is tried again: attempt k has the points S k and is lent the payload slice M k, and it is of the symbol that the attempts before it have
-- come to. The words are those of specs/Demand2, whose (d) holds after 9, 10 and 11 of these runs as of any. The terms are in
-- proofs/Retried.
use Rattle.std.specs.Prelude.{◌≡◌, cond, List, ◌↔◌, ◌⊎◌, ℕ, zero, suc, ◌+◌, ◌*◌, ◌<◌, ◌≤◌, eqb, get_or, Float, None, Ok, Some}
use Rattle.settings.specs.Settings.{plan_for}
use Rattle.symbols.specs.Symbols.{symbols_of}
use Rattle.reader_state.specs.declared.state.OpenSettings.{OpenSettings}
use Rattle.reader.specs.Step.{step_number}
use Rattle.reader_runs.specs.Run.{state_before, answer_to, slice_after}
use Rattle.reader_runs.specs.Sent.{settings_for}
use Rattle.demands.specs.Demand2.{Begun, IsFrame, GivesSymbol, lengths, LeavesBytes, ClosedFrom}

-- how many of the attempts before attempt k were not 8, by the attempts' numbers: the symbol that attempt k is of
unfoldable pub symbols_before : (number : ℕ → ℕ) (k : ℕ) → ℕ
symbols_before number zero = 0
symbols_before number (suc k) = cond (eqb (number k) 8) (symbols_before number k) (symbols_before number k + 1)

-- the number of attempt k's answer
abbrev pub attempt_number : (o : OpenSettings) (S : ℕ → List Float) (M : ℕ → List ℕ) (k : ℕ) → ℕ
attempt_number o S M k = step_number (answer_to o S (lengths M) k)

-- "accepts symbols": every attempt before K is accepted or 8
abbrev pub AcceptedOr8 : (number : ℕ → ℕ) (K : ℕ) → Type 0
AcceptedOr8 number K = (k : ℕ) → k < K → (number k ≡ 0) ⊎ (number k ≡ 8)

-- "some payload and seed give them": every attempt before K that is not 8 has the points of its symbol
abbrev pub GivesAttempts : (o : OpenSettings) (seed : ℕ) (p : List ℕ) (S : ℕ → List Float) (number : ℕ → ℕ) (K : ℕ) → Type 0
GivesAttempts o seed p S number K = (k : ℕ) → k < K → (number k ≡ 8 → ⊥) → GivesSymbol o seed p (symbols_before number k) (S k)

-- ---- (a) "accepts symbols exactly when some payload and seed give them"
abbrev pub RetriedExactly : Type 0
RetriedExactly = (o : OpenSettings) (S : ℕ → List Float) (M : ℕ → List ℕ) (K : ℕ) → Begun o
    → AcceptedOr8 (attempt_number o S M) K
    ↔ ((seed : ℕ) × ((p : List ℕ) × (IsFrame o seed p × GivesAttempts o seed p S (attempt_number o S M) K)))

-- ---- (b) "and returns that payload and seed": the seed with symbol 0, and with each symbol the bytes that are now complete
abbrev pub RetriedReturns : Type 0
RetriedReturns = (o : OpenSettings) (S : ℕ → List Float) (M : ℕ → List ℕ) (K : ℕ) → Begun o
    → (seed : ℕ) (p : List ℕ) → IsFrame o seed p → GivesAttempts o seed p S (attempt_number o S M) K
    → (k : ℕ) → k < K → (attempt_number o S M k ≡ 8 → ⊥) → let n = symbols_before (attempt_number o S M) k in
    (answer_to o S (lengths M) k ≡ cond (eqb n 0) (Ok (Some seed)) (Ok None)) × LeavesBytes o p n (M k) (slice_after o S (lengths M) k (M k))

-- ---- (c) "that payload and seed": there are no two. The seed and every byte complete by then are told, and the whole payload at the end
abbrev pub RetriedTells : Type 0
RetriedTells = (o : OpenSettings) (S : ℕ → List Float) (M : ℕ → List ℕ) (K : ℕ) → Begun o → let n = symbols_before (attempt_number o S M) K in
    0 < n → (seed seed' : ℕ) (p q : List ℕ) → IsFrame o seed p → IsFrame o seed' q
    → GivesAttempts o seed p S (attempt_number o S M) K → GivesAttempts o seed' q S (attempt_number o S M) K
    → (seed ≡ seed')
    × (((j : ℕ) → j < o.length → 16 + 8 * j + 8 ≤ n * (plan_for (settings_for o)).dbps → get_or p j 0 ≡ get_or q j 0)
    × (n ≡ symbols_of (settings_for o) → p ≡ q))

-- an attempt that is 8 changes nothing, in any run: state and slice stay as they were
abbrev pub EightChangesNothing : Type 0
EightChangesNothing = (o : OpenSettings) (S : ℕ → List Float) (M : ℕ → List ℕ) (k : ℕ) → attempt_number o S M k ≡ 8
    → (state_before o S (lengths M) (k + 1) ≡ state_before o S (lengths M) k) × (slice_after o S (lengths M) k (M k) ≡ M k)

-- ---- (d) after the last symbol every further attempt is 12, also one without room, and changes nothing
abbrev pub RetriedCloses : Type 0
RetriedCloses = (o : OpenSettings) (S : ℕ → List Float) (M : ℕ → List ℕ) (K : ℕ) → Begun o → AcceptedOr8 (attempt_number o S M) K
    → symbols_before (attempt_number o S M) K ≡ symbols_of (settings_for o) → ClosedFrom o S M K
