-- Demand 3, sentence by sentence. Each type speaks of the answers and of the lent slices after two calls; the terms are in proofs/Demand3, and
-- the functions of crate two_calls make the calls and promise the same of their own slices.
use Rattle.query.specs.declared.query.Carried.{Carried}
use Rattle.settings.specs.declared.settings.Refusal.{Refusal}
use Rattle.std.specs.Prelude.{◌≡◌, List, ℕ, ◌+◌, ◌*◌, ◌/◌, ◌<◌, ◌≤◌, length, get_or, ℤ, Float, Err, Ok, Result}
use Rattle.settings.specs.declared.settings.RawSettings.{RawSettings}
use Rattle.settings.specs.declared.settings.Settings.{Settings}
use Rattle.settings.specs.Settings.{check_of, plan_for}
use Rattle.symbols.specs.Symbols.{symbols_of, count_of}
use Rattle.subcarriers.specs.declared.layout.Use.TheVariants.{Pilot}
use Rattle.subcarriers.specs.Subcarriers.{places_of, subcarrier_at, use_of}
use Rattle.signal.specs.HtSig.{written_of, written_into}
use Rattle.modulator.specs.Symbol.{stream_floats}
use Rattle.query.specs.declared.query.Carried.TheVariants.{Silent, Pilot as PilotSign, Data}
use Rattle.mapper.specs.declared.point.Point.{Point}
use Rattle.frame.specs.Points.{floats_of, points_of, points_into, points_number}
use Rattle.frame.specs.Compared.{SameLevel, SameSymbol}
use Rattle.query.specs.Query.{query_of, query_number}
use Rattle.demands.specs.Frames.{WholePayload, DifferentSymbol, DifferentPoints, AgreeWhereLooked, PayloadsDiffer, FirstDiffering}

-- The two calls of one kind: for raw settings a and a' and payload slices p and q, answers r and r', and lent slices that were out and out' and are l and l'.

-- ---- (a) "Take any two frames with equal settings, length and seed, whatever bytes their payloads hold, both payloads whole, asked for the same symbol,
-- stream and subcarrier with the same room. Signal bits, symbol count, refusals and pilots are equal."

-- the symbol count, refused or not
abbrev pub SameCount : (a a' : RawSettings) (r r' : Result ℕ Refusal) → Type 0
SameCount a a' r r' = a ≡ a' → r ≡ r'

-- the signal write, refused or not, and its six bytes
abbrev pub SameSignal : (a a' : RawSettings) (out out' : List ℕ) (r r' : Result (Unit {0}) Refusal) (l l' : List ℕ) → Type 0
SameSignal a a' out out' r r' l l' = a ≡ a' → length out ≡ length out' → (r ≡ r') × (r ≡ Ok tt → (k : ℕ) → k < 6 → get_or l k 0 ≡ get_or l' k 0)

-- the levels of every pilot in two slices
abbrev pub SamePilots : Settings → (l l' : List Float) → Type 0
SamePilots s l l' = (i f q axis : ℕ) → i < (plan_for s).streams → f < places_of s.width → axis < 2
    → use_of s.width (subcarrier_at s.width f) ≡ Pilot q
    → SameLevel l l' (i * stream_floats s.width + (2 * f + axis))

-- the points call: "Refusals are equal when both calls give the same number or neither refuses"
abbrev pub SamePoints : (a a' : RawSettings) (p q : List ℕ) (n : ℕ) (out out' : List Float) (r r' : Result ℕ Refusal) (l l' : List Float) → Type 0
SamePoints a a' p q n out out' r r' l l' = a ≡ a' → WholePayload a p → WholePayload a' q → length out ≡ length out'
    → (points_number r ≡ points_number r') × ((s : Settings) → check_of a ≡ Ok s → points_number r ≡ 0 → SamePilots s l l')

-- the question: "silent or not, pilot or not and the pilot's sign are always equal between the two frames of equal seed"
abbrev pub SameKind : (r r' : Result Carried Refusal) → Type 0
SameKind (Ok Silent) r' = r' ≡ Ok Silent
SameKind (Ok (PilotSign x)) r' = r' ≡ Ok (PilotSign x)
SameKind (Ok (Data x)) r' = (y : Point) × (r' ≡ Ok (Data y))
SameKind (Err e) r' = r' ≡ Err e

abbrev pub SameQuery : (a a' : RawSettings) (p q : List ℕ) (n : ℕ) (r r' : Result Carried Refusal) → Type 0
SameQuery a a' p q n r r' = a ≡ a' → WholePayload a p → WholePayload a' q → (query_number r ≡ query_number r') × SameKind r r'

-- ---- (b) "Each symbol is equal whenever the payloads agree on every byte with a bit in that symbol's own data bits or in the last six steps of each
-- encoder before it."

abbrev pub LocalPoints : (a a' : RawSettings) (p q : List ℕ) (n : ℕ) (out out' : List Float) (r r' : Result ℕ Refusal) (l l' : List Float) → Type 0
LocalPoints a a' p q n out out' r r' l l' = a ≡ a' → WholePayload a p → WholePayload a' q → length out ≡ length out'
    → (s : Settings) → check_of a ≡ Ok s → points_number r ≡ 0 → AgreeWhereLooked s n p q → SameSymbol s l l'

-- the question: "a data point is equal, by its levels' bits, wherever demand 3 makes its symbol equal": here the whole answer
abbrev pub LocalQuery : (a a' : RawSettings) (p q : List ℕ) (n : ℕ) (r r' : Result Carried Refusal) → Type 0
LocalQuery a a' p q n r r' = a ≡ a' → WholePayload a p → WholePayload a' q
    → (s : Settings) → check_of a ≡ Ok s → AgreeWhereLooked s n p q → r ≡ r'

-- ---- (c) "Where both frames are accepted and their payloads differ, the symbol that carries the first differing bit differs."

-- in the slices of two points calls for that symbol: "with number d, symbol floor(d/D) carries it"
abbrev pub DifferingPoints : (a a' : RawSettings) (p q : List ℕ) (n : ℕ) (out out' : List Float) (r r' : Result ℕ Refusal) (l l' : List Float) → Type 0
DifferingPoints a a' p q n out out' r r' l l' = a ≡ a' → WholePayload a p → WholePayload a' q → length out ≡ length out'
    → (s : Settings) → check_of a ≡ Ok s → points_number r ≡ 0
    → (d : ℕ) → FirstDiffering a p q d → n ≡ d / (plan_for s).dbps → DifferentSymbol s l l'

-- the first differing bit is there, its symbol is in the frame and differs, and so does a data point that the question gives for it
abbrev pub PayloadsShown : Type 0
PayloadsShown = (a : RawSettings) (p q : List ℕ) (s : Settings) → check_of a ≡ Ok s → WholePayload a p → WholePayload a q → PayloadsDiffer a p q
    → (d : ℕ) × (FirstDiffering a p q d × ((d / (plan_for s).dbps < symbols_of s)
    × (((out out' : List Float) → length out ≡ length out' → floats_of s ≤ length out
    → DifferentSymbol s (points_into (check_of a) p (d / (plan_for s).dbps) out) (points_into (check_of a) q (d / (plan_for s).dbps) out'))
    × ((i : ℕ) × ((z : ℤ) × ((i < (plan_for s).streams)
    × DifferentPoints (query_of (check_of a) p (d / (plan_for s).dbps) i z) (query_of (check_of a) q (d / (plan_for s).dbps) i z)))))))

-- ---- (d) "Any two accepted frames of unequal seeds, equal in every other setting, differ in symbol 0, whatever whole payloads they have."

abbrev pub EqualButSeed : (a a' : RawSettings) → Type 0
EqualButSeed a a' =
    (a.width ≡ a'.width) × ((a.mcs ≡ a'.mcs) × ((a.format ≡ a'.format) × ((a.length ≡ a'.length) × ((a.seed ≡ a'.seed → ⊥)
    × ((a.smoothing ≡ a'.smoothing) × ((a.not_sounding ≡ a'.not_sounding) × ((a.aggregation ≡ a'.aggregation) × (a.short_guard ≡ a'.short_guard))))))))

abbrev pub SeedPoints : (a a' : RawSettings) (p q : List ℕ) (n : ℕ) (out out' : List Float) (r r' : Result ℕ Refusal) (l l' : List Float) → Type 0
SeedPoints a a' p q n out out' r r' l l' = EqualButSeed a a' → WholePayload a p → WholePayload a' q → length out ≡ length out'
    → (s s' : Settings) → check_of a ≡ Ok s → check_of a' ≡ Ok s' → n ≡ 0 → points_number r ≡ 0 → DifferentSymbol s l l'

abbrev pub SeedsShown : Type 0
SeedsShown = (a a' : RawSettings) (p q : List ℕ) (s s' : Settings) → check_of a ≡ Ok s → check_of a' ≡ Ok s' → EqualButSeed a a'
    → WholePayload a p → WholePayload a' q
    → ((out out' : List Float) → length out ≡ length out' → floats_of s ≤ length out
    → DifferentSymbol s (points_into (check_of a) p 0 out) (points_into (check_of a') q 0 out'))
    × ((i : ℕ) × ((z : ℤ) × ((i < (plan_for s).streams) × DifferentPoints (query_of (check_of a) p 0 i z) (query_of (check_of a') q 0 i z))))

-- ---- the sentences of the calls as this build makes them

abbrev pub Counts : Type 0
Counts = (a a' : RawSettings) → SameCount a a' (count_of (check_of a)) (count_of (check_of a'))

abbrev pub Signals : Type 0
Signals = (a a' : RawSettings) (out out' : List ℕ)
    → SameSignal a a' out out' (written_of (check_of a) (length out)) (written_of (check_of a') (length out')) (written_into (check_of a) out) (written_into (check_of a') out')

-- a sentence of two points calls, of the answers and slices that the calls give
abbrev pub AtPoints : (Sentence : (a a' : RawSettings) (p q : List ℕ) (n : ℕ) (out out' : List Float) (r r' : Result ℕ Refusal) (l l' : List Float) → Type 0)
    → (a a' : RawSettings) (p q : List ℕ) (n : ℕ) (out out' : List Float) → Type 0
AtPoints Sentence a a' p q n out out' =
    Sentence a a' p q n out out' (points_of (check_of a) (length p) n (length out)) (points_of (check_of a') (length q) n (length out'))
    (points_into (check_of a) p n out) (points_into (check_of a') q n out')

abbrev pub OfPoints : (Sentence : (a a' : RawSettings) (p q : List ℕ) (n : ℕ) (out out' : List Float) (r r' : Result ℕ Refusal) (l l' : List Float) → Type 0) → Type 0
OfPoints Sentence = (a a' : RawSettings) (p q : List ℕ) (n : ℕ) (out out' : List Float) → AtPoints Sentence a a' p q n out out'

-- a sentence of two questions, of the answers that they give
abbrev pub AtQueries : (Sentence : (a a' : RawSettings) (p q : List ℕ) (n : ℕ) (r r' : Result Carried Refusal) → Type 0)
    → (a a' : RawSettings) (p q : List ℕ) (n i : ℕ) (z : ℤ) → Type 0
AtQueries Sentence a a' p q n i z = Sentence a a' p q n (query_of (check_of a) p n i z) (query_of (check_of a') q n i z)

abbrev pub OfQueries : (Sentence : (a a' : RawSettings) (p q : List ℕ) (n : ℕ) (r r' : Result Carried Refusal) → Type 0) → Type 0
OfQueries Sentence = (a a' : RawSettings) (p q : List ℕ) (n i : ℕ) (z : ℤ) → AtQueries Sentence a a' p q n i z

-- ---- demand 3 whole

-- "Take any two frames with equal settings, length and seed, whatever bytes their payloads hold, both payloads whole, asked for the same symbol, stream and
-- subcarrier with the same room. Signal bits, symbol count, refusals and pilots are equal."
abbrev pub Demand3a : Type 0
Demand3a = Counts × (Signals × (OfPoints SamePoints × OfQueries SameQuery))

-- "Each symbol is equal whenever the payloads agree on every byte with a bit in that symbol's own data bits or in the last six steps of each encoder
-- before it."
abbrev pub Demand3b : Type 0
Demand3b = OfPoints LocalPoints × OfQueries LocalQuery

-- "Where both frames are accepted and their payloads differ, the symbol that carries the first differing bit differs."
abbrev pub Demand3c : Type 0
Demand3c = OfPoints DifferingPoints × PayloadsShown

-- "Any two accepted frames of unequal seeds, equal in every other setting, differ in symbol 0, whatever whole payloads they have."
abbrev pub Demand3d : Type 0
Demand3d = OfPoints SeedPoints × SeedsShown
