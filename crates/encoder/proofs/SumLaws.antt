-- The sums made by xor are the sums modulo 2. Assumes nothing.
use mathlib.Core.Path.{◌≡◌, ap}
use Prim.Native.Nat.{ℕ, ◌+◌, ◌*◌, ◌%◌, ◌<◌, ◌≤◌}
use native.Mathlib.Omega.{arith}
use lib.Dec.{lit≤}
use lib.Bits.{bit_xor}
use Rattle.laws.specs.Claim.{Claim, ◌is◌, up_to, Holds, sound}
use Rattle.chain.specs.Encoder.{sum_a, sum_b, line_tap}
use Rattle.chain.proofs.Window.{tap_at}
use Rattle.encoder.specs.Sums.{xor_a, xor_b}

-- the xor of five bits is their sum modulo 2
abbrev five_claim : Claim
five_claim = up_to 2 λ a. up_to 2 λ b. up_to 2 λ c. up_to 2 λ d. up_to 2 λ e.
    bit_xor (bit_xor (bit_xor (bit_xor a b) c) d) e is (a + b + c + d + e) % 2

five : Holds five_claim
five = sound five_claim tt

module _ (line : ℕ → ℕ) (e j t : ℕ) (bits : (k : ℕ) → k ≤ 6 → line_tap line e j t k < 2) where
  -- the inputs of a step's sums, where the code reads them
  back_0 : line (e * t + j + 6 * e) ≡ line_tap line e j t 0
  back_0 = ap line (omega (arith, tap_at e t j 0 (lit≤ tt)))

  back_1 : line (e * t + j + 5 * e) ≡ line_tap line e j t 1
  back_1 = ap line (omega (arith, tap_at e t j 1 (lit≤ tt)))

  back_2 : line (e * t + j + 4 * e) ≡ line_tap line e j t 2
  back_2 = ap line (omega (arith, tap_at e t j 2 (lit≤ tt)))

  back_3 : line (e * t + j + 3 * e) ≡ line_tap line e j t 3
  back_3 = ap line (omega (arith, tap_at e t j 3 (lit≤ tt)))

  back_5 : line (e * t + j + e) ≡ line_tap line e j t 5
  back_5 = ap line (omega (arith, tap_at e t j 5 (lit≤ tt)))

  back_6 : line (e * t + j) ≡ line_tap line e j t 6
  back_6 = ap line (omega (arith, tap_at e t j 6 (lit≤ tt)))

  -- off a line of bits, the xor is sum A
  pub xor_a_lem : xor_a line e (e * t + j) ≡ sum_a (line_tap line e j t)
  xor_a_lem =
      rw (back_0, back_2, back_3, back_5, back_6)
      (five _ (bits 0 (lit≤ tt)) _ (bits 2 (lit≤ tt)) _ (bits 3 (lit≤ tt)) _ (bits 5 (lit≤ tt)) _ (bits 6 (lit≤ tt)))

  -- off a line of bits, the xor is sum B
  pub xor_b_lem : xor_b line e (e * t + j) ≡ sum_b (line_tap line e j t)
  xor_b_lem =
      rw (back_0, back_1, back_2, back_3, back_6)
      (five _ (bits 0 (lit≤ tt)) _ (bits 1 (lit≤ tt)) _ (bits 2 (lit≤ tt)) _ (bits 3 (lit≤ tt)) _ (bits 6 (lit≤ tt)))
