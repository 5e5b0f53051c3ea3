-- The points of one symbol (document 01 steps 6 to 8), from the streams' half labels h, stream by stream: h i m is half m of stream i.
use Rattle.std.specs.Prelude.{Bool, cond, ℕ, zero, suc, ◌*◌, ◌/◌, ◌%◌, ℤ, pos, Float}
use Rattle.chain.specs.declared.plan.Plan.{Plan}
use Rattle.mapper.specs.Levels.{whole, Levels, levels, carrier_levels, turned}
use Rattle.subcarriers.specs.declared.layout.Use.{Use}
use Rattle.subcarriers.specs.declared.layout.Use.TheVariants.{Silent, Pilot, Data}
use Rattle.subcarriers.specs.Subcarriers.{use_of, places_of, subcarrier_at, upper}
use Rattle.pilots.specs.Pilots.{pilot_sign}

-- what a use puts on a subcarrier: nothing, a pilot's sign on the first level, or a data carrier's levels
abbrev pub used_levels : (sign : ℕ → ℤ) (carried : ℕ → Levels) → Use → Levels
used_levels sign carried Silent = levels (pos 0) (pos 0)
used_levels sign carried (Pilot q) = levels (sign q) (pos 0)
used_levels sign carried (Data c) = carried c

-- what stream i carries on subcarrier z in symbol n, before step 8
unfoldable pub carried_levels : (p : Plan) (h : ℕ → ℕ → ℕ) (format n i : ℕ) (z : ℤ) → Levels
carried_levels p h format n i z =
    used_levels (pilot_sign p.width p.streams format n i) (carrier_levels p.bits (h i)) (use_of p.width z)

abbrev pub turned_if : Bool → Levels → Levels
turned_if b l = cond b (turned l) l

-- step 8: "At 40 MHz each subcarrier above 0, (a, b), becomes (-b, a), data and pilots"
unfoldable pub sent_levels : (p : Plan) (h : ℕ → ℕ → ℕ) (format n i : ℕ) (z : ℤ) → Levels
unfolding carried_levels
sent_levels p h format n i z = turned_if (upper p.width z) (carried_levels p h format n i z)

-- "first level then second"
abbrev pub axis_level : Levels → ℕ → ℤ
axis_level l zero = l.first
axis_level l (suc k) = l.second

-- "subcarriers rising": level g of stream i
unfoldable pub stream_level : (p : Plan) (h : ℕ → ℕ → ℕ) (format n i g : ℕ) → ℤ
unfolding sent_levels
stream_level p h format n i g = axis_level (sent_levels p h format n i (subcarrier_at p.width (g / 2))) (g % 2)

-- levels of a stream
abbrev pub stream_floats : (width : ℕ) → ℕ
stream_floats width = 2 * places_of width

-- "Points stand stream by stream": float g of the symbol
unfoldable pub symbol_float : (p : Plan) (h : ℕ → ℕ → ℕ) (format n g : ℕ) → Float
unfolding stream_level
symbol_float p h format n g = whole (stream_level p h format n (g / stream_floats p.width) (g % stream_floats p.width))
