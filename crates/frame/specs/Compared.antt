-- Two slices of a symbol's floats compared (document 01, 'What each answer owes': "Two symbols are equal when all their levels are, by their bits").
use Rattle.std.specs.Prelude.{◌≡◌, List, ℕ, ◌<◌, get_or, Float}
use Rattle.std.specs.Float.{binary32, nan}
use Rattle.std.specs.Float.Ieee.{to_bits}
use Rattle.settings.specs.declared.settings.Settings.{Settings}
use Rattle.frame.specs.Points.{floats_of}

-- "by their bits"
abbrev pub SameBits : Float → Float → Type 0
SameBits x y = to_bits binary32 x ≡ to_bits binary32 y

abbrev pub SameLevel : (l l' : List Float) (g : ℕ) → Type 0
SameLevel l l' g = SameBits (get_or l g nan) (get_or l' g nan)

-- two slices hold the same symbol
abbrev pub SameSymbol : Settings → (l l' : List Float) → Type 0
SameSymbol s l l' = (g : ℕ) → g < floats_of s → SameLevel l l' g
