-- What the mapper's functions ask and promise.
use Rattle.std.specs.Prelude.{◌≡◌, cond, List, ℕ, zero, suc, ◌+◌, ◌*◌, ◌/◌, ◌^◌, ◌<◌, ◌≤◌, T, length, get_or, pos, nat_abs, Float}
use Rattle.std.specs.Float.{nan}
use Rattle.std.specs.Float.Ieee.{eq, neg}
use Rattle.laws.specs.Test.{among}
use Rattle.chain.specs.Plan.{bit_counts}
use Rattle.chain.specs.Parser.{axis_bits}
use Rattle.mapper.specs.declared.point.Point.{Point}
use Rattle.mapper.specs.Levels.{whole, level_of, Levels}

-- a table of the levels of s bits, by label
pub record LevelTable (s : ℕ) (table : List Float) : Type 0 where
  pub sized : length table ≡ 8
  pub level : (label : ℕ) → label < 2 ^ s → get_or table label nan ≡ whole (level_of s label)

-- half labels of a carrier: two, or one where its label is one bit
abbrev pub carrier_halves : (bits : ℕ) → ℕ
carrier_halves bits = bits / axis_bits bits

-- a stream's half labels from place `from` on, of `carriers` carriers
pub record HalvesAt (halves : List ℕ) (bits from carriers : ℕ) : Type 0 where
  pub inside : from + carrier_halves bits * carriers ≤ length halves
  pub label : (m : ℕ) → m < carrier_halves bits * carriers → get_or halves (from + m) 0 < 2 ^ axis_bits bits

pub record PointAsked (halves : List ℕ) (table : List Float) (bits from c : ℕ) : Type 0 where
  pub known : T (among bit_counts bits)
  pub tabled : LevelTable (axis_bits bits) table
  pub stands : HalvesAt halves bits from (c + 1)

-- levels that the mapper gives, or their negatives: at most 7
pub record Small (l : Levels) : Type 0 where
  pub first : nat_abs l.first < 8
  pub second : nat_abs l.second < 8

-- a level's negative: of zero "zero has a clear sign bit", of every other float the float with its sign flipped; nothing is rounded
unfoldable pub negated_level : Float → Float
negated_level x = cond (eq x (whole (pos 0))) (whole (pos 0)) (neg x)

-- step 8: "(a, b), becomes (-b, a)"
abbrev pub turned_point : Point → Point
turned_point p = record { first = negated_level p.second; second = p.first }

-- a point's floats in the order of the slice
abbrev pub axis_of : Point → ℕ → Float
axis_of p zero = p.first
axis_of p (suc k) = p.second
