-- The bit patterns of the nine floats that a level can be.
use Rattle.std.specs.Prelude.{List, [], ◌∷◌, pos}
use Rattle.std.specs.Float.{binary32}
use Rattle.std.specs.Float.Ieee.{to_bits}
use Rattle.laws.specs.Claim.{Claim, ◌is◌}
use Rattle.laws.specs.Integers.{minus}
use Rattle.mapper.specs.Levels.{whole}

-- "each an exact whole number; zero has a clear sign bit"
abbrev pub whole_bits : List Claim
whole_bits =
    (to_bits binary32 (whole (pos 0)) is 0x00000000)
    ∷ (to_bits binary32 (whole (pos 1)) is 0x3F800000) ∷ (to_bits binary32 (whole (minus 1)) is 0xBF800000)
    ∷ (to_bits binary32 (whole (pos 3)) is 0x40400000) ∷ (to_bits binary32 (whole (minus 3)) is 0xC0400000)
    ∷ (to_bits binary32 (whole (pos 5)) is 0x40A00000) ∷ (to_bits binary32 (whole (minus 5)) is 0xC0A00000)
    ∷ (to_bits binary32 (whole (pos 7)) is 0x40E00000) ∷ (to_bits binary32 (whole (minus 7)) is 0xC0E00000)
    ∷ []
