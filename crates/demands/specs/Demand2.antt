-- Demand 2 of the reader: "The reader, begun by its start and handed back each state as it was returned, accepts symbols exactly when some payload and seed
-- give them, and returns that payload and seed." The terms are in proofs/Demand2; `read_frame` (crate frame_reader) promises the same of its own slices.
use Rattle.acceptance.specs.declared.accept.StepRefusal.{StepRefusal}
use Rattle.std.specs.Prelude.{◌≡◌, cond, List, ◌++◌, ◌↔◌, ◌⊎◌, ℕ, ◌+◌, ◌*◌, ◌<◌, ◌≤◌, eqb, length, get_or, take, drop, Float, None, Ok, Option, Result, Some}
use Rattle.laws.specs.Bytes.{AreBytes}
use Rattle.chain.specs.DataBits.{payload_bit}
use Rattle.settings.specs.declared.settings.RawSettings.{RawSettings}
use Rattle.settings.specs.declared.settings.Settings.{Settings}
use Rattle.settings.specs.Settings.{check_of, plan_for}
use Rattle.symbols.specs.Symbols.{symbols_of}
use Rattle.frame.specs.Points.{floats_of, points_of, points_into, points_number}
use Rattle.frame.specs.Compared.{SameSymbol}
use Rattle.reader_state.specs.declared.state.OpenSettings.{OpenSettings}
use Rattle.reader_state.specs.declared.state.Reader.{Reader}
use Rattle.reader_state.specs.State.{with_seed, start_of}
use Rattle.acceptance.specs.Accepted.{bits_before}
use Rattle.reader.specs.Step.{step_of, step_number}
use Rattle.reader_runs.specs.Run.{state_before, answer_to, slice_after, memory_before}
use Rattle.reader_runs.specs.Sent.{settings_for, state_after}
use Rattle.demands.specs.Frames.{WholePayload}

-- The words. Settings o are without a seed; symbol n's points are S n, and its step is lent the payload slice M n, with anything in it.

-- "begun by its start"
abbrev pub Begun : OpenSettings → Type 0
Begun o = (start_of o).answer ≡ Ok tt

-- "some payload and seed": a seed of 1 to 127, and as many bytes as the settings' length says
abbrev pub IsFrame : (o : OpenSettings) (seed : ℕ) (p : List ℕ) → Type 0
IsFrame o seed p = (1 ≤ seed) × ((seed ≤ 127) × ((length p ≡ o.length) × AreBytes p))

-- "give them": asked for symbol n of that frame, and lent any slice with room, the points call writes floats with the bits of these points
abbrev pub GivesSymbol : (o : OpenSettings) (seed : ℕ) (p : List ℕ) (n : ℕ) (points : List Float) → Type 0
GivesSymbol o seed p n points = (out : List Float) → floats_of (settings_for o) ≤ length out
    → (points_number (points_of (check_of (with_seed o seed)) (length p) n (length out)) ≡ 0)
    × SameSymbol (settings_for o) points (points_into (check_of (with_seed o seed)) p n out)

-- the lengths of the payload slices
abbrev pub lengths : (M : ℕ → List ℕ) (n : ℕ) → ℕ
lengths M n = length (M n)

-- points and payload slice have room for symbol n, so that its step is not 8
abbrev pub RoomAt : (o : OpenSettings) (S : ℕ → List Float) (M : ℕ → List ℕ) (n : ℕ) → Type 0
RoomAt o S M n = (floats_of (settings_for o) ≤ length (S n)) × (o.length ≤ length (M n))

-- "accepts"
abbrev pub Accepts : Result (Option ℕ) StepRefusal → Type 0
Accepts a = step_number a ≡ 0

-- byte j is complete with symbol n and was not before it: its last bit, data bit 16 + 8j + 7, is one of the symbol's own
abbrev pub CompleteWith : (o : OpenSettings) (n j : ℕ) → Type 0
CompleteWith o n j =
    (j < o.length) × ((n * (plan_for (settings_for o)).dbps < 16 + 8 * j + 8) × (16 + 8 * j + 8 ≤ (n + 1) * (plan_for (settings_for o)).dbps))

-- the step of symbol n leaves in its slice the bytes of p that are now complete, and all else as it was
abbrev pub LeavesBytes : (o : OpenSettings) (p : List ℕ) (n : ℕ) (before after : List ℕ) → Type 0
LeavesBytes o p n before after = (length after ≡ length before)
    × (((j : ℕ) → CompleteWith o n j → get_or after j 0 ≡ get_or p j 0)
    × ((j : ℕ) → (CompleteWith o n j → ⊥) → get_or after j 0 ≡ get_or before j 0))

-- ---- (a) "accepts symbols exactly when some payload and seed give them": symbols 0 to m, for every m in the frame
abbrev pub Demand2a : Type 0
Demand2a = (o : OpenSettings) (S : ℕ → List Float) (M : ℕ → List ℕ) (m : ℕ) → Begun o → m < symbols_of (settings_for o) → ((n : ℕ) → n ≤ m → RoomAt o S M n)
    → ((n : ℕ) → n ≤ m → Accepts (answer_to o S (lengths M) n))
    ↔ ((seed : ℕ) × ((p : List ℕ) × (IsFrame o seed p × ((n : ℕ) → n ≤ m → GivesSymbol o seed p n (S n)))))

-- ---- (b) "and returns that payload and seed": the answer to symbol 0 has the seed, and step n leaves in its slice the bytes that are now complete and all
-- else as it was
abbrev pub Demand2b : Type 0
Demand2b = (o : OpenSettings) (S : ℕ → List Float) (M : ℕ → List ℕ) (m : ℕ) → Begun o → m < symbols_of (settings_for o) → ((n : ℕ) → n ≤ m → RoomAt o S M n)
    → (seed : ℕ) (p : List ℕ) → IsFrame o seed p → ((n : ℕ) → n ≤ m → GivesSymbol o seed p n (S n))
    → (n : ℕ) → n ≤ m
    → (answer_to o S (lengths M) n ≡ cond (eqb n 0) (Ok (Some seed)) (Ok None))
    × LeavesBytes o p n (M n) (slice_after o S (lengths M) n (M n))

-- ---- (c) "that payload and seed": there are no two. The seed and every byte complete by symbol m are told by symbols 0 to m, and the whole payload at the end
abbrev pub Demand2c : Type 0
Demand2c = (o : OpenSettings) (S : ℕ → List Float) (m : ℕ) → Begun o → m < symbols_of (settings_for o)
    → (seed seed' : ℕ) (p q : List ℕ) → IsFrame o seed p → IsFrame o seed' q
    → ((n : ℕ) → n ≤ m → GivesSymbol o seed p n (S n)) → ((n : ℕ) → n ≤ m → GivesSymbol o seed' q n (S n))
    → (seed ≡ seed')
    × (((j : ℕ) → j < o.length → 16 + 8 * j + 8 ≤ (m + 1) * (plan_for (settings_for o)).dbps → get_or p j 0 ≡ get_or q j 0)
    × (m + 1 ≡ symbols_of (settings_for o) → p ≡ q))

-- ---- (d) after the first 9, 10 or 11, and after the last symbol, every further step is 12 and changes nothing: the state stays, and so does every slice
abbrev pub ClosedFrom : (o : OpenSettings) (S : ℕ → List Float) (M : ℕ → List ℕ) (n : ℕ) → Type 0
ClosedFrom o S M n = (k : ℕ) → n ≤ k
    → (step_number (answer_to o S (lengths M) k) ≡ 12)
    × ((state_before o S (lengths M) (k + 1) ≡ state_before o S (lengths M) n) × (slice_after o S (lengths M) k (M k) ≡ M k))

abbrev pub Demand2d : Type 0
Demand2d = (o : OpenSettings) (S : ℕ → List Float) (M : ℕ → List ℕ) →
    ((n : ℕ) → ((step_number (answer_to o S (lengths M) n) ≡ 9) ⊎ ((step_number (answer_to o S (lengths M) n) ≡ 10) ⊎ (step_number (answer_to o S (lengths M) n) ≡ 11)))
    → ClosedFrom o S M (n + 1))
    × (Begun o → ((n : ℕ) → n < symbols_of (settings_for o) → RoomAt o S M n) → ((n : ℕ) → n < symbols_of (settings_for o) → Accepts (answer_to o S (lengths M) n))
    → ClosedFrom o S M (symbols_of (settings_for o)))

-- ---- (e) the step law that carries these, and the states of a run

-- two frames agree before symbol n: on the payload bits before it and, where there is a symbol before it, on the seed
abbrev pub AgreeBefore : (o : OpenSettings) (n seed : ℕ) (p : List ℕ) (seed' : ℕ) (q : List ℕ) → Type 0
AgreeBefore o n seed p seed' q = (0 < n → seed' ≡ seed) × ((k : ℕ) → k < bits_before (settings_for o) n → payload_bit q k ≡ payload_bit p k)

-- the state that reading symbols 0 to n - 1 of the frame leads to
abbrev pub state_of : (o : OpenSettings) (seed : ℕ) (p : List ℕ) (n : ℕ) → Reader
state_of o seed p n = state_after o (settings_for o) (payload_bit p) seed n

-- from there a symbol is accepted exactly when some frame that agrees before symbol n gives it, and the state returned is that frame's
abbrev pub StepsExactly : Type 0
StepsExactly = (o : OpenSettings) (n : ℕ) → Begun o → n < symbols_of (settings_for o) → (seed : ℕ) (p : List ℕ) → IsFrame o seed p
    → (points : List Float) (bytes : ℕ) → floats_of (settings_for o) ≤ length points → o.length ≤ bytes
    → (Accepts (step_of (state_of o seed p n) points bytes).answer
    ↔ ((seed' : ℕ) × ((q : List ℕ) × (IsFrame o seed' q × (AgreeBefore o n seed p seed' q × GivesSymbol o seed' q n points)))))
    × ((seed' : ℕ) (q : List ℕ) → IsFrame o seed' q → AgreeBefore o n seed p seed' q → GivesSymbol o seed' q n points
    → (step_of (state_of o seed p n) points bytes).state ≡ state_of o seed' q (n + 1))

-- and a run's states are those: before symbol 0 of every frame, and then of each that gives the symbols so far
abbrev pub StatesLead : Type 0
StatesLead = (o : OpenSettings) (S : ℕ → List Float) (M : ℕ → List ℕ) (m : ℕ) → Begun o → m ≤ symbols_of (settings_for o) → ((n : ℕ) → n < m → RoomAt o S M n)
    → (seed : ℕ) (p : List ℕ) → IsFrame o seed p → ((n : ℕ) → n < m → GivesSymbol o seed p n (S n))
    → state_before o S (lengths M) m ≡ state_of o seed p m

abbrev pub Demand2e : Type 0
Demand2e = StepsExactly × StatesLead

-- ---- (f) corollary: reading the points that the points call writes for an accepted frame, symbol by symbol, accepts each, and returns its payload and seed

-- settings with their seed left out
abbrev pub without_seed : RawSettings → OpenSettings
without_seed a = record {
  width = a.width;
  mcs = a.mcs;
  format = a.format;
  length = a.length;
  smoothing = a.smoothing;
  not_sounding = a.not_sounding;
  aggregation = a.aggregation;
  short_guard = a.short_guard;
}

-- symbol n as the points call writes it into a lent slice
abbrev pub symbols_of_frame : (a : RawSettings) (p : List ℕ) (out : ℕ → List Float) (n : ℕ) → List Float
symbols_of_frame a p out n = points_into (check_of a) p n (out n)

abbrev pub Demand2f : Type 0
Demand2f = (a : RawSettings) (p : List ℕ) (s : Settings) → check_of a ≡ Ok s → WholePayload a p
    → (out : ℕ → List Float) → ((n : ℕ) → floats_of s ≤ length (out n)) → (slice : List ℕ) → a.length ≤ length slice
    → ((n : ℕ) → n < symbols_of s
    → answer_to (without_seed a) (symbols_of_frame a p out) (λ k. length slice) n ≡ cond (eqb n 0) (Ok (Some a.seed)) (Ok None))
    × (memory_before (without_seed a) (symbols_of_frame a p out) (λ k. length slice) (symbols_of s) slice ≡ take a.length p ++ drop a.length slice)

-- ---- (g) corollary: two accepted frames, equal in every setting but the seed, whose symbols are all equal have equal payloads and seeds
abbrev pub Demand2g : Type 0
Demand2g = (a a' : RawSettings) (p q : List ℕ) (s s' : Settings) → check_of a ≡ Ok s → check_of a' ≡ Ok s' → without_seed a ≡ without_seed a'
    → WholePayload a p → WholePayload a' q
    → (out out' : ℕ → List Float) → ((n : ℕ) → (floats_of s ≤ length (out n)) × (floats_of s ≤ length (out' n)))
    → ((n : ℕ) → n < symbols_of s → SameSymbol s (symbols_of_frame a p out n) (symbols_of_frame a' q out' n))
    → (a.seed ≡ a'.seed) × (take a.length p ≡ take a.length q)
