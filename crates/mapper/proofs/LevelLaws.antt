-- The levels: how small they are, that they tell their labels apart, and the floats that they are. Assumes nothing.
use Rattle.std.proofs.Common.{◌≡◌, ◌∙◌, sym, ap, Bool, true, false, cond, List, [], ◌∷◌, ℕ, zero, suc, ◌*◌, ◌+◌, ◌^◌, ◌<◌, arith, T, eqb}
use Rattle.std.proofs.Common.{ltb, ltb→lt, ℤ, pos, negsuc, neg_ℤ, nat_abs}
use lib.IntN.{neg_ℤ-neg_ℤ}
use lib.Ieee.{Float, binary32, of_int, of_bits, to_bits, to_signed, eq, neg, fits}
use lib.Ieee.Bits.{of_bits-to_bits}
use lib.Ieee.Fits.{of_int-fits, neg-fits, cond-fits}
use Rattle.laws.specs.Test.{among, both, both_left, both_right}
use Rattle.laws.specs.Claim.{Claim, ◌is◌, ◌and◌, up_to, each, given, Holds, sound, table}
use Rattle.laws.specs.Integers.{counted}
use Rattle.laws.proofs.Integers.{counted_same}
use Rattle.chain.specs.Parser.{axis_bits}
use Rattle.chain.specs.Plan.{axis_counts}
use Rattle.mapper.specs.Levels.{whole, LevelRow, one_bit, two_bits, three_bits, level_in, level_of, Levels, levels, carrier_levels, turned}
use Rattle.mapper.specs.Mapped.{Small, negated_level}
use Rattle.mapper.specs.Bits.{whole_bits}

abbrev small_rows : List LevelRow → Bool
small_rows [] = true
small_rows (r ∷ rows) = both (ltb (nat_abs r.level) 8) (small_rows rows)

row_small : (t : Bool) (a b : ℤ) → nat_abs a < 8 → nat_abs b < 8 → nat_abs (cond t a b) < 8
row_small true a b h k = h
row_small false a b h k = k

-- a table whose levels are below 8 in size gives no other
rows_small : (rows : List LevelRow) → T (small_rows rows) → (label : ℕ) → nat_abs (level_in rows label) < 8
rows_small [] t label = omega arith
rows_small (r ∷ rows) t label =
    row_small (eqb r.label label) r.level (level_in rows label)
    (ltb→lt (nat_abs r.level) 8 (both_left (ltb (nat_abs r.level) 8) (small_rows rows) t))
    (rows_small rows (both_right (ltb (nat_abs r.level) 8) (small_rows rows) t) label)

tables_small : (t u : Bool) (label : ℕ) → nat_abs (level_in (cond t three_bits (cond u two_bits one_bit)) label) < 8
tables_small true u label = rows_small three_bits tt label
tables_small false true label = rows_small two_bits tt label
tables_small false false label = rows_small one_bit tt label

-- every level is below 8 in size
pub level_small : (s label : ℕ) → nat_abs (level_of s label) < 8
unfolding level_of
level_small s label = tables_small (eqb s 3) (eqb s 2) label

-- the levels of a carrier's point are small
pub carrier_small : (bits : ℕ) (h : ℕ → ℕ) (c : ℕ) → Small (carrier_levels bits h c)
unfolding carrier_levels
carrier_small bits h c = go (eqb bits 1)
  where
    go : (t : Bool)
        → Small (cond t (levels (level_of 1 (h c)) (pos 0)) (levels (level_of (axis_bits bits) (h (2 * c))) (level_of (axis_bits bits) (h (2 * c + 1)))))
    go true = record { first = level_small 1 (h c); second = omega arith }
    go false = record { first = level_small (axis_bits bits) (h (2 * c)); second = level_small (axis_bits bits) (h (2 * c + 1)) }

neg_small : (z : ℤ) → nat_abs z < 8 → nat_abs (neg_ℤ z) < 8
neg_small (pos zero) h = h
neg_small (pos (suc n)) h = h
neg_small (negsuc n) h = h

-- and so are those of the turned point
pub turned_small : (l : Levels) → Small l → Small (turned l)
turned_small l h = record { first = neg_small l.second h.second; second = h.first }

abbrev level_claim : Claim
level_claim = each axis_counts λ s. up_to (2 ^ s) λ l. up_to (2 ^ s) λ l'.
    given (counted (level_of s l)) (counted (level_of s l')) (l is l')

levels_differ : Holds level_claim
unfolding level_of
levels_differ = sound level_claim tt

-- two labels of s bits with one level are equal
pub level_told : (s l l' : ℕ) → T (among axis_counts s) → l < 2 ^ s → l' < 2 ^ s → level_of s l ≡ level_of s l' → l ≡ l'
level_told s l l' h k k' e = levels_differ s h l k l' k' (ap counted e)

-- two whole numbers with one negative are equal
pub neg_told : (a b : ℤ) → neg_ℤ a ≡ neg_ℤ b → a ≡ b
neg_told a b e = sym (neg_ℤ-neg_ℤ a) ∙ ap neg_ℤ e ∙ neg_ℤ-neg_ℤ b

-- two floats of the format with one bit pattern are equal
pub same_float_bits : (a b : Float) → T (fits binary32 a) → T (fits binary32 b) → to_bits binary32 a ≡ to_bits binary32 b → a ≡ b
same_float_bits a b fa fb e = sym (of_bits-to_bits binary32 a fa) ∙ ap (of_bits binary32) e ∙ of_bits-to_bits binary32 b fb

-- what holds at -8 .. 7 holds at every whole number below 8 in size
at_small : (P : ℤ → Type 0) → ((n : ℕ) → n < 8 → P (pos n) × P (negsuc n)) → (z : ℤ) → nat_abs z < 8 → P z
at_small P p (pos n) h = (p n h).0
at_small P p (negsuc n) h = (p n (omega (arith, h))).1

abbrev back_at : ℤ → Claim
back_at z = counted (to_signed 3 (whole z)) is counted z

abbrev back_claim : Claim
back_claim = up_to 8 λ n. back_at (pos n) and back_at (negsuc n)

backs : Holds back_claim
unfolding of_int to_signed
backs = sound back_claim tt

-- a small whole number comes back from its float
pub whole_back : (z : ℤ) → nat_abs z < 8 → to_signed 3 (whole z) ≡ z
whole_back z h = counted_same (to_signed 3 (whole z)) z (at_small (λ (y : ℤ). counted (to_signed 3 (whole y)) ≡ counted y) backs z h)

-- two small whole numbers whose floats have the same bits are equal
pub whole_told : (a b : ℤ) → nat_abs a < 8 → nat_abs b < 8 → to_bits binary32 (whole a) ≡ to_bits binary32 (whole b) → a ≡ b
whole_told a b h k e =
    sym (whole_back a h) ∙ ap (to_signed 3) (same_float_bits (whole a) (whole b) (of_int-fits binary32 a) (of_int-fits binary32 b) e) ∙ whole_back b k

-- the negative of a level that is zero, and of every other
pub negated_zero : (x : Float) → eq x (whole (pos 0)) ≡ true → whole (pos 0) ≡ negated_level x
unfolding negated_level
negated_zero x e = ap (λ (zero : Bool). cond zero (whole (pos 0)) (neg x)) (sym e)

pub negated_other : (x : Float) → eq x (whole (pos 0)) ≡ false → neg x ≡ negated_level x
unfolding negated_level
negated_other x e = ap (λ (zero : Bool). cond zero (whole (pos 0)) (neg x)) (sym e)

negated_fits : (x : Float) → T (fits binary32 x) → T (fits binary32 (negated_level x))
unfolding negated_level
negated_fits x f = cond-fits binary32 (eq x (whole (pos 0))) (whole (pos 0)) (neg x) (of_int-fits binary32 (pos 0)) (neg-fits binary32 x f)

abbrev negated_at : ℤ → Claim
negated_at z = to_bits binary32 (negated_level (whole z)) is to_bits binary32 (whole (neg_ℤ z))

abbrev negated_claim : Claim
negated_claim = up_to 8 λ n. negated_at (pos n) and negated_at (negsuc n)

negatives : Holds negated_claim
unfolding negated_level eq neg of_int to_bits
negatives = sound negated_claim tt

-- the negative of a small whole number's float is the float of its negative, zero's sign clear
pub negated_whole : (z : ℤ) → nat_abs z < 8 → negated_level (whole z) ≡ whole (neg_ℤ z)
negated_whole z h =
    same_float_bits _ _ (negated_fits (whole z) (of_int-fits binary32 z)) (of_int-fits binary32 (neg_ℤ z))
    (at_small (λ (y : ℤ). Holds (negated_at y)) negatives z h)

-- the bit patterns of the nine levels
pub whole_bits_lem : Holds (table whole_bits)
unfolding of_int to_bits
whole_bits_lem = sound (table whole_bits) tt
