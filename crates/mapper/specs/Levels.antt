-- The constellation mapper (document 01 step 6; IEEE 802.11, 18.3.5.8), the quarter turn of step 8, and the floats that whole numbers are.
use Rattle.std.specs.Prelude.{cond, List, [], ◌∷◌, ℕ, ◌+◌, ◌*◌, eqb, ℤ, pos, neg_ℤ, Float}
use Rattle.std.specs.Float.{binary32}
use Rattle.std.specs.Float.Ieee.{of_int}
use Rattle.laws.specs.Integers.{minus}
use Rattle.chain.specs.Parser.{axis_bits}
use Rattle.mapper.specs.declared.point.Point.{Point}

-- "each an exact whole number; zero has a clear sign bit": the float that a whole number is
abbrev pub whole : ℤ → Float
whole z = of_int binary32 z

-- a row of a printed table: the bits of one axis as the number that they write, the first the highest, and their level
pub record LevelRow : Type 0 where
  pub label : ℕ
  pub level : ℤ

infix 40 ◌to◌
abbrev pub ◌to◌ : ℕ → ℤ → LevelRow
label to level = record { label = label; level = level }

-- "B = 1: 0 to -1, 1 to 1"; "B = 2: the same sign rule on each level"
abbrev pub one_bit : List LevelRow
one_bit = (0 to minus 1) ∷ (1 to pos 1) ∷ []

-- "B = 4: 00 -3, 01 -1, 11 1, 10 3"
abbrev pub two_bits : List LevelRow
two_bits = (0b00 to minus 3) ∷ (0b01 to minus 1) ∷ (0b11 to pos 1) ∷ (0b10 to pos 3) ∷ []

-- "B = 6: 000 -7, 001 -5, 011 -3, 010 -1, 110 1, 111 3, 101 5, 100 7"
abbrev pub three_bits : List LevelRow
three_bits =
    (0b000 to minus 7) ∷ (0b001 to minus 5) ∷ (0b011 to minus 3) ∷ (0b010 to minus 1)
    ∷ (0b110 to pos 1) ∷ (0b111 to pos 3) ∷ (0b101 to pos 5) ∷ (0b100 to pos 7) ∷ []

abbrev pub level_in : List LevelRow → ℕ → ℤ
level_in [] label = pos 0
level_in (r ∷ rows) label = cond (eqb r.label label) r.level (level_in rows label)

-- the level of the s bits of one axis
unfoldable pub level_of : (s label : ℕ) → ℤ
level_of s label = level_in (cond (eqb s 3) three_bits (cond (eqb s 2) two_bits one_bit)) label

-- a point as whole numbers
pub record Levels : Type 0 where
  pub first : ℤ
  pub second : ℤ

abbrev pub levels : ℤ → ℤ → Levels
levels a b = record { first = a; second = b }

-- data carrier c's point, from a stream's half labels h: "First half of the bits is the first level"; at B = 1 "second level 0"
unfoldable pub carrier_levels : (bits : ℕ) (h : ℕ → ℕ) (c : ℕ) → Levels
carrier_levels bits h c =
    cond (eqb bits 1)
    (levels (level_of 1 (h c)) (pos 0))
    (levels (level_of (axis_bits bits) (h (2 * c))) (level_of (axis_bits bits) (h (2 * c + 1))))

-- step 8: "(a, b), becomes (-b, a)"
abbrev pub turned : Levels → Levels
turned l = levels (neg_ℤ l.second) l.first

-- "A point is two f32 levels"
abbrev pub point_of : Levels → Point
point_of l = record { first = whole l.first; second = whole l.second }
