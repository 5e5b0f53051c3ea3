-- What is proved of the one-subcarrier question beside its contract, and of it and the points call together. The terms are in proofs/Refusals and
-- proofs/Tied.
use Rattle.std.specs.Prelude.{◌≡◌, cond, List, ◌↔◌, ◌⊎◌, ℕ, ◌+◌, ◌*◌, ◌-◌, ◌<◌, ◌≤◌, length, ℤ, pos, ◌<ℤ◌}
use Rattle.laws.specs.Integers.{minus}
use Rattle.mapper.specs.Levels.{whole, Levels, turned, point_of}
use Rattle.subcarriers.specs.Subcarriers.{reach, places_of, subcarrier_at, upper}
use Rattle.settings.specs.declared.settings.RawSettings.{RawSettings}
use Rattle.settings.specs.declared.settings.Settings.{Settings}
use Rattle.settings.specs.Settings.{check_of, settings_of, plan_for, Right}
use Rattle.settings.specs.Statements.{NoSettingsRow, SettingsRows}
use Rattle.modulator.specs.Symbol.{stream_floats}
use Rattle.frame.specs.Points.{point_float}
use Rattle.frame.specs.Statements.{PayloadRow, SymbolRow}
use Rattle.query.specs.Query.{carried_of, query_of, query_number, carried_point}

-- ---- refusals: "given exactly when" its row applies and none tested before it does; 0 where none applies

-- "it takes -32..31 or -64..63 ..; others are 7"
abbrev pub OutsideRow : RawSettings → ℤ → Type 0
OutsideRow a z = (z <ℤ minus (reach a.width)) ⊎ (pos (reach a.width - 1) <ℤ z)

-- "symbol, stream or subcarrier not in the frame"
abbrev pub PlaceRow : RawSettings → (symbol stream : ℕ) → ℤ → Type 0
PlaceRow a symbol stream z = SymbolRow a symbol ⊎ (((plan_for (settings_of a)).streams ≤ stream) ⊎ OutsideRow a z)

-- the one-subcarrier question: 1 to 5, then 6 and 7
abbrev pub QueryRefusals : Type 0
QueryRefusals = (a : RawSettings) (payload : List ℕ) (symbol stream : ℕ) (z : ℤ) → let n = query_number (query_of (check_of a) payload symbol stream z) in
    SettingsRows a n
    (((n ≡ 6) ↔ (PayloadRow a (length payload) × NoSettingsRow a (Unit {0})))
    × (((n ≡ 7) ↔ (PlaceRow a symbol stream z × NoSettingsRow a ((PayloadRow a (length payload) → ⊥) × Unit {0})))
    × ((n ≡ 0) ↔ NoSettingsRow a ((PayloadRow a (length payload) → ⊥) × ((PlaceRow a symbol stream z → ⊥) × Unit {0})))))

-- ---- the two calls are of one symbol: the floats at a place are the question's answer for its subcarrier, turned by step 8

pub record SubcarrierTied (s : Settings) (payload : List ℕ) (n i f : ℕ) : Type 0 where
  pub level : Levels
  pub answered : carried_point (carried_of s payload n i (subcarrier_at s.width f)) ≡ point_of level
  pub first_float : point_float s payload n (i * stream_floats s.width + 2 * f)
      ≡ whole (cond (upper s.width (subcarrier_at s.width f)) (turned level) level).first
  pub second_float : point_float s payload n (i * stream_floats s.width + (2 * f + 1))
      ≡ whole (cond (upper s.width (subcarrier_at s.width f)) (turned level) level).second

abbrev pub PointsTied : Type 0
PointsTied = (s : Settings) → Right s → (payload : List ℕ) (n i f : ℕ) → i < (plan_for s).streams → f < places_of s.width → SubcarrierTied s payload n i f
