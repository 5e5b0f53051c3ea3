-- What is proved of the reader beside its contracts, in document 01's words. The terms are in proofs/.
use Rattle.acceptance.specs.declared.accept.StepRefusal.TheVariants.{BadPoint}
use Rattle.std.specs.Prelude.{◌≡◌, List, ◌↔◌, ◌⊎◌, ℕ, ◌+◌, ◌-◌, ◌*◌, ◌<◌, ◌≤◌, length, get_or, ℤ, Float, Err, Ok, Some}
use Rattle.chain.specs.Plan.{groups_of}
use Rattle.chain.specs.Decoder.{history_after, dealt}
use Rattle.settings.specs.declared.settings.Settings.{Settings}
use Rattle.settings.specs.Settings.{check_of, settings_of, plan_for}
use Rattle.settings.specs.Statements.{SettingsRefusals}
use Rattle.subcarriers.specs.Subcarriers.{places_of, subcarrier_at}
use Rattle.frame.specs.Points.{floats_of}
use Rattle.detector.specs.Detected.{shown_bit, PointByRules}
use Rattle.decoder.specs.Statements.{SomeInputs}
use Rattle.deframer.specs.Statements.{RightBit}
use Rattle.reader_state.specs.declared.state.OpenSettings.{OpenSettings}
use Rattle.reader_state.specs.declared.state.Reader.{Reader}
use Rattle.reader_state.specs.State.{InRange, OnlyEnded, open_raw, start_of, start_number, history_of, first_bit}
use Rattle.acceptance.specs.Accepted.{scrambler_for, plain_of}
use Rattle.reader.specs.Step.{heard_input, step_of, step_into, step_number, step_stream, step_subcarrier}
use Rattle.reader_place.specs.Place.{place_of, place_number, place_stream, place_subcarrier}

-- ---- refusals: each "given exactly when" its row applies and none tested before it does; 0 where none applies

-- the settings that a state's numbers mean
abbrev pub settings_in : Reader → Settings
settings_in st = settings_of (open_raw st.settings)

-- a state in range, its settings accepted
pub record InReach (st : Reader) : Type 0 where
  pub accepted : check_of (open_raw st.settings) ≡ Ok (settings_in st)
  pub in_range : InRange (settings_in st) st

-- 12, "reader state finished, ended by 9 to 11, or outside its ranges"
abbrev pub ClosedRow : Reader → Type 0
ClosedRow st = InReach st → ⊥

-- 8, "the lent slice for points .. or payload is too short"
abbrev pub StepRoomRow : Reader → (floats bytes : ℕ) → Type 0
StepRoomRow st floats bytes = (floats < floats_of (settings_in st)) ⊎ (bytes < (settings_in st).length)

-- 9, "some point or pilot is not one the rules give"
pub record PointRow (st : Reader) (points : List Float) : Type 0 where
  pub stream : ℕ
  pub place : ℕ
  pub stream_in : stream < (plan_for (settings_in st)).streams
  pub place_in : place < places_of (settings_in st).width
  pub not_given : PointByRules (plan_for (settings_in st)) points (settings_in st).format st.symbol stream place → ⊥

-- the label bits that the points show, and the inputs that they force after the state's histories
abbrev pub shown_in : Reader → List Float → (i r : ℕ) → ℕ
shown_in st points i r = shown_bit (plan_for (settings_in st)) points i r

abbrev pub input_in : Reader → List Float → (d : ℕ) → ℕ
input_in st points d = heard_input (settings_in st) st (shown_in st points) d

-- 10, "no data bits give these coded bits after the earlier ones"
abbrev pub CodeRow : Reader → List Float → Type 0
CodeRow st points = SomeInputs (plan_for (settings_in st)) (history_of st) (shown_in st points) → ⊥

-- a data bit of the symbol, by its number in it, that is a service, tail or pad bit and wrong
pub record WrongBit (s : Settings) (st : Reader) (X : ℕ → ℕ) : Type 0 where
  pub number : ℕ
  pub inside : number < (plan_for s).dbps
  pub wrong : RightBit s.length (plan_for s).encoders (first_bit s st.symbol + number) (X number) (plain_of st X number) → ⊥

-- 11, "service, tail or pad bit wrong, or the seed would be 0"
abbrev pub FrameRow : Reader → List Float → Type 0
FrameRow st points = (scrambler_for st (input_in st points) ≡ 0) ⊎ WrongBit (settings_in st) st (input_in st points)

-- the step: 12 first, and of a state in range 8, 9, 10, 11 in this order
abbrev pub StepRefusals : Type 0
StepRefusals = (st : Reader) (points : List Float) (bytes : ℕ) → let n = step_number (step_of st points bytes).answer in
    ((n ≡ 12) ↔ ClosedRow st)
    × (InReach st
    → ((n ≡ 8) ↔ (StepRoomRow st (length points) bytes × Unit {0}))
    × (((n ≡ 9) ↔ (PointRow st points × ((StepRoomRow st (length points) bytes → ⊥) × Unit {0})))
    × (((n ≡ 10) ↔ (CodeRow st points × ((StepRoomRow st (length points) bytes → ⊥) × ((PointRow st points → ⊥) × Unit {0}))))
    × (((n ≡ 11) ↔ (FrameRow st points × ((StepRoomRow st (length points) bytes → ⊥) × ((PointRow st points → ⊥) × ((CodeRow st points → ⊥) × Unit {0})))))
    × ((n ≡ 0) ↔ ((StepRoomRow st (length points) bytes → ⊥) × ((PointRow st points → ⊥) × ((CodeRow st points → ⊥) × ((FrameRow st points → ⊥) × Unit {0})))))))))

-- "9 also returns the place: streams in order, subcarriers rising, the first failing point ends the search"
pub record FirstPlace (st : Reader) (points : List Float) (i : ℕ) (z : ℤ) : Type 0 where
  pub place : ℕ
  pub stream_in : i < (plan_for (settings_in st)).streams
  pub place_in : place < places_of (settings_in st).width
  pub subcarrier : z ≡ subcarrier_at (settings_in st).width place
  pub not_given : PointByRules (plan_for (settings_in st)) points (settings_in st).format st.symbol i place → ⊥
  pub streams_before : (j f : ℕ) → j < i → f < places_of (settings_in st).width
      → PointByRules (plan_for (settings_in st)) points (settings_in st).format st.symbol j f
  pub places_before : (f : ℕ) → f < place → PointByRules (plan_for (settings_in st)) points (settings_in st).format st.symbol i f

-- a step that gives 9 names its place, and that is the first
abbrev pub PlaceIsFirst : Type 0
PlaceIsFirst = (st : Reader) (points : List Float) (bytes : ℕ) → let a = (step_of st points bytes).answer in step_number a ≡ 9
    → (a ≡ Err (BadPoint (step_stream a) (step_subcarrier a))) × FirstPlace st points (step_stream a) (step_subcarrier a)

-- "A refusal .. writes nothing"
abbrev pub RefusedUnchanged : Type 0
RefusedUnchanged = (st : Reader) (points : List Float) (payload : List ℕ) → (step_number (step_of st points (length payload)).answer ≡ 0 → ⊥)
    → step_into st points payload ≡ payload

-- "Refusals 9, 10, 11 return the state given with only its end marked; 8 and 12 return the state given"
abbrev pub RefusedState : Type 0
RefusedState = (st : Reader) (points : List Float) (bytes : ℕ) → let r = step_of st points bytes in
    (((step_number r.answer ≡ 9) ⊎ ((step_number r.answer ≡ 10) ⊎ (step_number r.answer ≡ 11))) → OnlyEnded st r.state)
    × (((step_number r.answer ≡ 8) ⊎ (step_number r.answer ≡ 12)) → r.state ≡ st)

-- "With one encoder the second history stays as given", whatever the answer
abbrev pub SecondHistoryKept : Type 0
SecondHistoryKept = (st : Reader) (points : List Float) (bytes : ℕ) → (plan_for (settings_in st)).encoders ≡ 1
    → get_or (step_of st points bytes).state.histories 1 0 ≡ get_or st.histories 1 0

-- "Encoders NES: 1 for NSS 1 and 2, else 2": one exactly below MCS 16
abbrev pub OneEncoder : Type 0
OneEncoder = (s : Settings) → ((plan_for s).encoders ≡ 1) ↔ (s.mcs < 16)

-- an accepted step moves each encoder's history by that encoder's own inputs
abbrev pub HistoriesMoved : Type 0
HistoriesMoved = (st : Reader) (points : List Float) (bytes : ℕ) → let p = plan_for (settings_in st) in
    step_number (step_of st points bytes).answer ≡ 0 → (j : ℕ) → j < p.encoders
    → get_or (step_of st points bytes).state.histories j 0
    ≡ history_after (get_or st.histories j 0) (dealt (input_in st points) p.encoders j) ((p.kept - 1) * groups_of p)

-- the start: 1 to 4, and 5 never; beside a refusal a state from which every step is 12
abbrev pub StartRefusals : Type 0
StartRefusals = (o : OpenSettings) → let n = start_number (start_of o).answer in
    SettingsRefusals (open_raw o) n × ((n ≡ 5 → ⊥) × ((n ≡ 0 → ⊥) → ClosedRow (start_of o).state))

-- the place call and the step are of one search: with room for both, the step gives 9 exactly where the place call finds a place, and it is the same
abbrev pub PlaceTied : Type 0
PlaceTied = (st : Reader) (points : List Float) (bytes : ℕ) → InReach st → (settings_in st).length ≤ bytes
    → let a = (step_of st points bytes).answer in let b = place_of st points in
    ((step_number a ≡ 9) ↔ (place_number b ≡ 9))
    × (place_number b ≡ 9
    → (b ≡ Ok (Some ((place_stream b), (place_subcarrier b)))) × ((step_stream a ≡ place_stream b) × (step_subcarrier a ≡ place_subcarrier b)))
