-- What a half label shows in a symbol's points.
use Rattle.std.specs.Prelude.{◌≡◌, ℕ, ◌*◌, ◌<◌}
use Rattle.std.specs.Float.{binary32}
use Rattle.std.specs.Float.Ieee.{to_bits}
use Rattle.chain.specs.declared.plan.Plan.{Plan}
use Rattle.mapper.specs.Levels.{whole, carrier_levels}
use Rattle.modulator.specs.Symbol.{stream_floats, symbol_float}

-- a half label of stream i differs between h and h': the carrier whose points differ, and a float of the symbol that differs, both by their bits
pub record LabelShown (p : Plan) (h h' : ℕ → ℕ → ℕ) (format n i : ℕ) : Type 0 where
  pub carrier : ℕ
  pub carrier_in : carrier < p.carriers
  pub points_differ : to_bits binary32 (whole (carrier_levels p.bits (h i) carrier).first)
      ≡ to_bits binary32 (whole (carrier_levels p.bits (h' i) carrier).first)
      → to_bits binary32 (whole (carrier_levels p.bits (h i) carrier).second)
      ≡ to_bits binary32 (whole (carrier_levels p.bits (h' i) carrier).second) → ⊥
  pub float : ℕ
  pub float_in : float < p.streams * stream_floats p.width
  pub floats_differ : to_bits binary32 (symbol_float p h format n float) ≡ to_bits binary32 (symbol_float p h' format n float) → ⊥
