-- The parser's maps undo one another and keep their ranges, over any group s, streams and encoders above 0; and so those of every plan that fits.
-- Assumes nothing.
use mathlib.Core.Path.{◌≡◌, ap, sym, ◌∙◌, subst}
use Prim.Native.Nat.{ℕ, ◌+◌, ◌*◌, ◌/◌, ◌%◌, ◌<◌}
use native.Mathlib.Nat.{mod-lt, mul_comm, div-div-eq-div-mul, div-add-mod', div-lt_iff_lt-mul}
use native.Mathlib.Omega.{arith}
use lib.Arith.{digits_lt, digits_div, digits_mod}
use Rattle.laws.specs.Claim.{Claim, ◌is◌, ◌under◌, ◌and◌, each, Holds, sound}
use Rattle.chain.specs.declared.plan.Plan.{Plan}
use Rattle.chain.specs.Plan.{widths, bit_counts, stream_counts, encoder_counts, carriers_of, Fits}
use Rattle.chain.specs.Parser.{axis_bits, encoder_of, index_of, stream_of, bit_of}
use Rattle.chain.specs.Labels.{share}
use Rattle.chain.specs.Statements.{Parses}

-- a number by three digits, to the bases s, A and the rest
over : (s A x : ℕ) → x / (A * s) ≡ x / s / A
over s A x = ap (λ (y : ℕ). x / y) (mul_comm A s) ∙ sym (div-div-eq-div-mul x s A)

regroup : (s A g e t : ℕ) → A * s * g + e * s + t ≡ (g * A + e) * s + t
regroup s A g e t = omega arith

whole : (s A x : ℕ) → A * s * (x / (A * s)) + x / s % A * s + x % s ≡ x
whole s A x =
    ap (λ (y : ℕ). A * s * y + x / s % A * s + x % s) (over s A x)
    ∙ regroup s A (x / s / A) (x / s % A) (x % s)
    ∙ ap (λ (y : ℕ). y * s + x % s) (div-add-mod' (x / s) A)
    ∙ div-add-mod' x s

-- a number below a product of three bases has its high digit below the third
high_lt : (s A g x : ℕ) → 0 < A * s → x < A * s * g → x / (A * s) < g
high_lt s A g x h l = (div-lt_iff_lt-mul h).1 (subst (λ (n : ℕ). x < n) (mul_comm (A * s) g) l)

-- a number made of three digits has them, and is below the product of the bases
module _ (s A g e t : ℕ) (ht : t < s) (he : e < A) where
  low : (A * s * g + e * s + t) % s ≡ t
  low = ap (λ (y : ℕ). y % s) (regroup s A g e t) ∙ digits_mod (g * A + e) ht

  rest : (A * s * g + e * s + t) / s ≡ g * A + e
  rest = ap (λ (y : ℕ). y / s) (regroup s A g e t) ∙ digits_div (g * A + e) ht

  mid : (A * s * g + e * s + t) / s % A ≡ e
  mid = ap (λ (y : ℕ). y % A) rest ∙ digits_mod g he

  high : (A * s * g + e * s + t) / (A * s) ≡ g
  high = over s A _ ∙ ap (λ (y : ℕ). y / A) rest ∙ digits_div g he

  made_lt : (n : ℕ) → g < n → A * s * g + e * s + t < A * s * n
  made_lt n hg = omega (arith, digits_lt (digits_lt hg he) ht)

module _ (s S E : ℕ) (hs : 0 < s) (hS : 0 < S) (hE : 0 < E) where
  product_pos : (A : ℕ) → 0 < A → 0 < A * s
  product_pos A hA = omega (arith, digits_lt hA hs)

  in_order : (i k : ℕ) → index_of s S E i k ≡ S * s * (k / (E * s)) + i * s + k % s
  unfolding index_of
  in_order i k = omega arith

  encoder_below : (k : ℕ) → encoder_of s E k < E
  unfolding encoder_of
  encoder_below k = mod-lt (k / s) hE

  stream_below : (y : ℕ) → stream_of s S y < S
  unfolding stream_of
  stream_below y = mod-lt (y / s) hS

  index_below : (g i k : ℕ) → i < S → k < E * s * g → index_of s S E i k < S * s * g
  index_below g i k hi hk =
      subst (λ (y : ℕ). y < S * s * g) (sym (in_order i k))
      (made_lt s S (k / (E * s)) i (k % s) (mod-lt k hs) hi g (high_lt s E g k (product_pos E hE) hk))

  bit_below : (g j y : ℕ) → j < E → y < S * s * g → bit_of s S E j y < E * s * g
  unfolding bit_of
  bit_below g j y hj hy = made_lt s E (y / (S * s)) j (y % s) (mod-lt y hs) hj g (high_lt s S g y (product_pos S hS) hy)

  stream_index : (i k : ℕ) → i < S → stream_of s S (index_of s S E i k) ≡ i
  unfolding stream_of
  stream_index i k hi = ap (λ (y : ℕ). y / s % S) (in_order i k) ∙ mid s S (k / (E * s)) i (k % s) (mod-lt k hs) hi

  bit_index : (i k : ℕ) → i < S → bit_of s S E (encoder_of s E k) (index_of s S E i k) ≡ k
  unfolding bit_of encoder_of
  bit_index i k hi =
      ap (λ (y : ℕ). E * s * (y / (S * s)) + k / s % E * s + y % s) (in_order i k)
      ∙ rw (high s S (k / (E * s)) i (k % s) (mod-lt k hs) hi, low s S (k / (E * s)) i (k % s) (mod-lt k hs) hi) (whole s E k)

  encoder_bit : (j y : ℕ) → j < E → encoder_of s E (bit_of s S E j y) ≡ j
  unfolding encoder_of bit_of
  encoder_bit j y hj = mid s E (y / (S * s)) j (y % s) (mod-lt y hs) hj

  index_bit : (j y : ℕ) → j < E → index_of s S E (stream_of s S y) (bit_of s S E j y) ≡ y
  unfolding bit_of stream_of
  index_bit j y hj =
      in_order (y / s % S) _
      ∙ rw (high s E (y / (S * s)) j (y % s) (mod-lt y hs) hj, low s E (y / (S * s)) j (y % s) (mod-lt y hs) hj) (whole s S y)

-- the numbers of a plan: a stream's block is a whole number of groups of every encoder, and an encoder's share as many groups of every stream
abbrev groups_claim : Claim
groups_claim = each widths λ w. each bit_counts λ b. each stream_counts λ S. each encoder_counts λ E.
    let s = axis_bits b in
    let g = carriers_of w * b / (E * s) in
    0 under s
    and 0 under S
    and 0 under E
    and carriers_of w * b is E * s * g
    and carriers_of w * b * S / E is S * s * g

groups : Holds groups_claim
unfolding axis_bits
groups = sound groups_claim tt

-- the parser of every plan that fits is one to one, each way undoing the other
pub parses : (p : Plan) → Fits p → Parses p
parses p f =
    let s = axis_bits p.bits in
    let S = p.streams in
    let E = p.encoders in
    let g = carriers_of p.width * p.bits / (E * s) in
    let c = groups p.width f.width p.bits f.bits S f.streams E f.encoders in
    let hs : 0 < s = c.0 in
    let hS : 0 < S = c.1.0 in
    let hE : 0 < E = c.1.1.0 in
    let block_is : p.block ≡ E * s * g = rw (f.block_is, f.carriers_is) c.1.1.1.0 in
    let share_is : share p ≡ S * s * g = rw (f.coded_is, f.block_is, f.carriers_is) c.1.1.1.1 in
    record {
      encoder_lt = encoder_below s S E hs hS hE;
      index_lt = λ i k hi hk. rw share_is (index_below s S E hs hS hE g i k hi (rw block_is at hk));
      stream_lt = stream_below s S E hs hS hE;
      bit_lt = λ j y hj hy. rw block_is (bit_below s S E hs hS hE g j y hj (rw share_is at hy));
      stream_back = stream_index s S E hs hS hE;
      bit_back = bit_index s S E hs hS hE;
      encoder_back = encoder_bit s S E hs hS hE;
      index_back = index_bit s S E hs hS hE;
    }
