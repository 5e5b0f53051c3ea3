-- What the search's answer says, and what a symbol's own floats show.
use Rattle.std.specs.Prelude.{◌≡◌, true, false, List, ℕ, ◌*◌, ◌/◌, ◌%◌, ◌^◌, ◌<◌, get_or, Float, None, Some}
use Rattle.std.specs.Float.{nan, binary32}
use Rattle.std.specs.Float.Ieee.{to_bits}
use Rattle.chain.specs.declared.plan.Plan.{Plan}
use Rattle.chain.specs.Parser.{axis_bits}
use Rattle.chain.specs.Labels.{halves_of}
use Rattle.subcarriers.specs.Subcarriers.{places_of}
use Rattle.modulator.specs.Symbol.{stream_floats, symbol_float}
use Rattle.demapper.specs.Demapped.{bit_of_label}
use Rattle.detector.specs.Detected.{point_given, search_of, shown_bit}

-- every point of a symbol is one the rules give
pub record AllPass (p : Plan) (points : List Float) (format n : ℕ) : Type 0 where
  pub all_given : search_of p points format n ≡ None
  pub passed : (i f : ℕ) → i < p.streams → f < places_of p.width → point_given p points format n i f ≡ true

-- "streams in order, subcarriers rising": the first that is not
pub record FirstFailing (p : Plan) (points : List Float) (format n : ℕ) : Type 0 where
  pub stream : ℕ
  pub place : ℕ
  pub found : search_of p points format n ≡ Some (stream, place)
  pub stream_in : stream < p.streams
  pub place_in : place < places_of p.width
  pub fails : point_given p points format n stream place ≡ false
  pub streams_before : (i f : ℕ) → i < stream → f < places_of p.width → point_given p points format n i f ≡ true
  pub places_before : (f : ℕ) → f < place → point_given p points format n stream f ≡ true

-- the floats are those of the half labels h, by their bits
pub record FloatsOf (p : Plan) (h : ℕ → ℕ → ℕ) (points : List Float) (format n : ℕ) : Type 0 where
  pub label : (i m : ℕ) → i < p.streams → m < halves_of p → h i m < 2 ^ axis_bits p.bits
  pub floats : (g : ℕ) → g < p.streams * stream_floats p.width → to_bits binary32 (get_or points g nan) ≡ to_bits binary32 (symbol_float p h format n g)

-- and then they are given, and show the half labels' bits
pub record ShownBack (p : Plan) (h : ℕ → ℕ → ℕ) (points : List Float) (format n : ℕ) : Type 0 where
  pub given : (i f : ℕ) → i < p.streams → f < places_of p.width → point_given p points format n i f ≡ true
  pub shown : (i r : ℕ) → i < p.streams → r < p.block
      → shown_bit p points i r ≡ bit_of_label (axis_bits p.bits) (h i (r / axis_bits p.bits)) (r % axis_bits p.bits)
