-- The one-subcarrier question (document 01, 'From payload to points'): what a stream carries on one subcarrier, before step 8.
use Rattle.settings.specs.declared.settings.Refusal.{Refusal}
use Rattle.std.specs.Prelude.{Bool, cond, ◌||◌, List, ℕ, ltb, leb, length, ℤ, pos, Err, Ok, Result}
use Rattle.mapper.specs.declared.point.Point.{Point}
use Rattle.mapper.specs.Levels.{whole, Levels, levels, carrier_levels, point_of}
use Rattle.subcarriers.specs.declared.layout.Use.{Use}
use Rattle.subcarriers.specs.declared.layout.Use.TheVariants.{Silent as Unused, Pilot as PilotAt, Data as DataAt}
use Rattle.subcarriers.specs.Subcarriers.{use_of, outside}
use Rattle.pilots.specs.Pilots.{pilot_sign}
use Rattle.settings.specs.declared.settings.Refusal.TheVariants.{Source, Place}
use Rattle.settings.specs.declared.settings.Settings.{Settings}
use Rattle.settings.specs.Settings.{number_of, plan_for}
use Rattle.symbols.specs.Symbols.{symbols_of}
use Rattle.frame.specs.Points.{labels_of}
use Rattle.query.specs.declared.query.Carried.{Carried}
use Rattle.query.specs.declared.query.Carried.TheVariants.{Silent, Pilot, Data}

-- by the subcarrier's use: "silent, carries a pilot sign, or carries a data point (before step 8)"
abbrev pub carried_by : (sign : ℕ → ℤ) (carried : ℕ → Levels) → Use → Carried
carried_by sign carried Unused = Silent
carried_by sign carried (PilotAt q) = Pilot (whole (sign q))
carried_by sign carried (DataAt c) = Data (point_of (carried c))

unfoldable pub carried_of : (s : Settings) (payload : List ℕ) (n i : ℕ) (z : ℤ) → Carried
carried_of s payload n i z =
    carried_by (pilot_sign (plan_for s).width (plan_for s).streams s.format n i) (carrier_levels (plan_for s).bits (labels_of s payload n i))
    (use_of (plan_for s).width z)

-- "symbol, stream or subcarrier not in the frame"
abbrev pub not_in_frame : (s : Settings) (symbol stream : ℕ) (z : ℤ) → Bool
not_in_frame s symbol stream z = leb (symbols_of s) symbol || (leb (plan_for s).streams stream || outside (plan_for s).width z)

-- the answer: the settings' refusals, then 6 and 7, or what is carried
abbrev pub query_of : Result Settings Refusal → (payload : List ℕ) (symbol stream : ℕ) (z : ℤ) → Result Carried Refusal
query_of (Ok s) payload symbol stream z =
    cond (ltb (length payload) s.length) (Err Source)
    (cond (not_in_frame s symbol stream z) (Err Place) (Ok (carried_of s payload symbol stream z)))
query_of (Err r) payload symbol stream z = Err r

-- document 01's number of each case, 0 where something is answered
abbrev pub query_number : Result Carried Refusal → ℕ
query_number (Ok c) = 0
query_number (Err r) = number_of r

-- the values of each case: a silent subcarrier's point is (0, 0), a pilot's (sign, 0)
abbrev pub carried_point : Carried → Point
carried_point Silent = point_of (levels (pos 0) (pos 0))
carried_point (Pilot sign) = record { first = sign; second = whole (pos 0) }
carried_point (Data p) = p
