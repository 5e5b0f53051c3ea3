-- What the functions that read a point ask and leave, and the tables that they look levels up in.
use Rattle.std.specs.Prelude.{◌≡◌, Bool, cond, ◌&&◌, List, [], ◌∷◌, ℕ, ◌+◌, ◌-◌, ◌*◌, ◌/◌, ◌%◌, ◌^◌, T, eqb, ltb, Float}
use Rattle.laws.specs.Test.{among}
use Rattle.laws.specs.Filled.{Filled}
use Rattle.chain.specs.Plan.{bit_counts, axis_counts}
use Rattle.chain.specs.Parser.{axis_bits}
use Rattle.modulator.specs.Asked.{pilot_point}
use Rattle.demapper.specs.declared.point.PointLabels.{PointLabels}
use Rattle.demapper.specs.Demapped.{same_bits, first_label, second_label, data_given, point_bit}

-- a number below 32 that tells the eight levels' bit patterns apart: the last two exponent bits, the first two of the fraction, and the sign
abbrev pub key_of : (pattern : ℕ) → ℕ
key_of pattern = pattern / 0x200000 % 16 + 16 * (pattern / 0x80000000)

-- the levels' bit patterns by their keys; 0 at a key that no level has
abbrev pub level_keys : List ℕ
level_keys =
    0 ∷ 0 ∷ 0x40400000 ∷ 0 ∷ 0 ∷ 0x40A00000 ∷ 0 ∷ 0x40E00000
    ∷ 0 ∷ 0 ∷ 0 ∷ 0 ∷ 0x3F800000 ∷ 0 ∷ 0 ∷ 0
    ∷ 0 ∷ 0 ∷ 0xC0400000 ∷ 0 ∷ 0 ∷ 0xC0A00000 ∷ 0 ∷ 0xC0E00000
    ∷ 0 ∷ 0 ∷ 0 ∷ 0 ∷ 0xBF800000 ∷ 0 ∷ 0 ∷ 0 ∷ []

-- the labels of s bits by the keys of their levels; 2^s at a key that none of their levels has
abbrev pub one_bit_keys : List ℕ
one_bit_keys =
    2 ∷ 2 ∷ 2 ∷ 2 ∷ 2 ∷ 2 ∷ 2 ∷ 2 ∷ 2 ∷ 2 ∷ 2 ∷ 2 ∷ 1 ∷ 2 ∷ 2 ∷ 2
    ∷ 2 ∷ 2 ∷ 2 ∷ 2 ∷ 2 ∷ 2 ∷ 2 ∷ 2 ∷ 2 ∷ 2 ∷ 2 ∷ 2 ∷ 0 ∷ 2 ∷ 2 ∷ 2 ∷ []

abbrev pub two_bit_keys : List ℕ
two_bit_keys =
    4 ∷ 4 ∷ 2 ∷ 4 ∷ 4 ∷ 4 ∷ 4 ∷ 4 ∷ 4 ∷ 4 ∷ 4 ∷ 4 ∷ 3 ∷ 4 ∷ 4 ∷ 4
    ∷ 4 ∷ 4 ∷ 0 ∷ 4 ∷ 4 ∷ 4 ∷ 4 ∷ 4 ∷ 4 ∷ 4 ∷ 4 ∷ 4 ∷ 1 ∷ 4 ∷ 4 ∷ 4 ∷ []

abbrev pub three_bit_keys : List ℕ
three_bit_keys =
    8 ∷ 8 ∷ 7 ∷ 8 ∷ 8 ∷ 5 ∷ 8 ∷ 4 ∷ 8 ∷ 8 ∷ 8 ∷ 8 ∷ 6 ∷ 8 ∷ 8 ∷ 8
    ∷ 8 ∷ 8 ∷ 3 ∷ 8 ∷ 8 ∷ 1 ∷ 8 ∷ 0 ∷ 8 ∷ 8 ∷ 8 ∷ 8 ∷ 2 ∷ 8 ∷ 8 ∷ 8 ∷ []

unfoldable pub label_keys : (s : ℕ) → List ℕ
label_keys s = cond (eqb s 3) three_bit_keys (cond (eqb s 2) two_bit_keys one_bit_keys)

-- the tables at hand for an axis of s bits
pub record Tables (s : ℕ) (levels labels : List ℕ) : Type 0 where
  pub axis : T (among axis_counts s)
  pub levels_are : levels ≡ level_keys
  pub labels_are : labels ≡ label_keys s

-- a label with its first bit flipped: the label of the negative level. 2^s, which is no label, stays
unfoldable pub flipped : (s label : ℕ) → ℕ
flipped s label = cond (ltb label (2 ^ s / 2)) (label + 2 ^ s / 2) (cond (ltb label (2 ^ s)) (label - 2 ^ s / 2) (2 ^ s))

-- the tables at hand for points of so many bits
pub record PointTables (bits s : ℕ) (levels labels : List ℕ) : Type 0 where
  pub known : T (among bit_counts bits)
  pub axis_is : s ≡ axis_bits bits
  pub tables : Tables s levels labels

-- what is read off a point
pub record PointRead (bits : ℕ) (turned : Bool) (x y : Float) (r : PointLabels) : Type 0 where
  pub first : r.first ≡ first_label bits turned x y
  pub second : r.second ≡ second_label bits turned x y
  pub given : r.given ≡ data_given bits turned x y

-- a data carrier's point: whether it is given, and its label bits from `at` on
pub record DataHeard (bits : ℕ) (turned : Bool) (x y : Float) (at : ℕ) (r : Bool) (out₀ out : List ℕ) : Type 0 where
  pub given : r ≡ data_given bits turned x y
  pub label : Filled 0 at (point_bit bits turned x y) bits out₀ out

-- whether (x, y) is the one point that a pilot of this sign has
abbrev pub pilot_heard : (sign : Float) (turned : Bool) (x y : Float) → Bool
pilot_heard sign turned x y = same_bits x (pilot_point sign turned).first && same_bits y (pilot_point sign turned).second
