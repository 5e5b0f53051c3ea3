-- The lists of numbers that a plan is made of: how small their numbers are, and which one is left where the others are not. Assumes nothing.
use mathlib.Core.Path.{◌≡◌}
use mathlib.Core.Bool.{Bool, true, false, cond}
use Prim.Native.Nat.{ℕ, ◌<◌, ◌≤◌}
use native.Mathlib.Omega.{arith}
use lib.Dec.{T, eqb}
use Rattle.laws.specs.Test.{among, every_at}
use Rattle.laws.specs.Claim.{Claim, ◌is◌, ◌under◌, ◌and◌, each, unless, Holds, sound}
use Rattle.chain.specs.Plan.{widths, carriers_of, bit_counts, stream_counts, encoder_counts, kept_counts, axis_counts}
use Rattle.chain.specs.Parser.{axis_bits}

abbrev width_claim : Claim
width_claim = each widths λ w. w under 41 and unless w 40 (w is 20)

widths_are : Holds width_claim
widths_are = sound width_claim tt

-- a width has at most 108 data carriers
pub carriers_few : (w : ℕ) → carriers_of w ≤ 108
carriers_few w = go (eqb w 40)
  where
    go : (b : Bool) → cond b 108 52 ≤ 108
    go true = omega arith
    go false = omega arith

-- widths
module _ (w : ℕ) (h : T (among widths w)) where
  pub width_most : w ≤ 40
  width_most = omega (arith, (widths_are w h).0)

  pub width_other : (w ≡ 40 → ⊥) → w ≡ 20
  width_other = (widths_are w h).1

abbrev bits_claim : Claim
bits_claim = each bit_counts λ b.
    0 under b and b under 7 and 0 under axis_bits b and axis_bits b under 4 and unless b 1 (unless b 2 (unless b 4 (b is 6)))

bits_are : Holds bits_claim
unfolding axis_bits
bits_are = sound bits_claim tt

-- bits of a carrier, and of one axis of its point
module _ (b : ℕ) (h : T (among bit_counts b)) where
  pub bits_some : 0 < b
  bits_some = (bits_are b h).0

  pub bits_most : b ≤ 6
  bits_most = omega (arith, (bits_are b h).1.0)

  pub axis_some : 0 < axis_bits b
  axis_some = (bits_are b h).1.1.0

  pub axis_most : axis_bits b ≤ 3
  axis_most = omega (arith, (bits_are b h).1.1.1.0)

  -- an axis has one bit, two or three
  pub axis_known : T (among axis_counts (axis_bits b))
  unfolding axis_bits
  axis_known = every_at (λ (k : ℕ). among axis_counts (axis_bits k)) bit_counts tt b h

  pub bits_other : (b ≡ 1 → ⊥) → (b ≡ 2 → ⊥) → (b ≡ 4 → ⊥) → b ≡ 6
  bits_other = (bits_are b h).1.1.1.1

abbrev streams_claim : Claim
streams_claim = each stream_counts λ n. n under 5

streams_are : Holds streams_claim
streams_are = sound streams_claim tt

-- streams
pub streams_most : (n : ℕ) → T (among stream_counts n) → n ≤ 4
streams_most n h = omega (arith, streams_are n h)

abbrev encoders_claim : Claim
encoders_claim = each encoder_counts λ e. 0 under e and e under 3 and unless e 1 (e is 2) and unless e 2 (e is 1)

encoders_are : Holds encoders_claim
encoders_are = sound encoders_claim tt

-- encoders
module _ (e : ℕ) (h : T (among encoder_counts e)) where
  pub encoders_some : 1 ≤ e
  encoders_some = (encoders_are e h).0

  pub encoders_most : e ≤ 2
  encoders_most = omega (arith, (encoders_are e h).1.0)

  pub encoders_not_one : (e ≡ 1 → ⊥) → e ≡ 2
  encoders_not_one = (encoders_are e h).1.1.0

  pub encoders_not_two : (e ≡ 2 → ⊥) → e ≡ 1
  encoders_not_two = (encoders_are e h).1.1.1

abbrev kept_claim : Claim
kept_claim = each kept_counts λ q. 1 under q and q under 7 and unless q 2 (unless q 3 (unless q 4 (q is 6)))

kept_are : Holds kept_claim
kept_are = sound kept_claim tt

-- bits kept of a puncturing group
module _ (q : ℕ) (h : T (among kept_counts q)) where
  pub kept_low : 2 ≤ q
  kept_low = (kept_are q h).0

  pub kept_high : q ≤ 6
  kept_high = omega (arith, (kept_are q h).1.0)

  pub kept_other : (q ≡ 2 → ⊥) → (q ≡ 3 → ⊥) → (q ≡ 4 → ⊥) → q ≡ 6
  kept_other = (kept_are q h).1.1
