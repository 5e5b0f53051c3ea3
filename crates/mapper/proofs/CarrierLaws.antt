-- A carrier's half labels: how many, and that its levels come from them alone. Assumes of the plan that it fits.
use Rattle.std.proofs.Common.{◌≡◌, refl, ap, ap₂, Bool, true, false, cond, ℕ, ◌+◌, ◌*◌, ◌/◌, ◌<◌, ◌≤◌, mul-le-mul_left, arith, eqb-true, T}
use Rattle.std.proofs.Common.{eqb, pos}
use borrow.Author.Tests.{eqb-false}
use Rattle.laws.specs.Test.{among}
use Rattle.laws.specs.Claim.{Claim, ◌is◌, ◌and◌, each, given, unless, Holds, sound}
use Rattle.chain.specs.declared.plan.Plan.{Plan}
use Rattle.chain.specs.Plan.{widths, bit_counts, carriers_of, Fits}
use Rattle.chain.specs.Parser.{axis_bits}
use Rattle.chain.specs.Labels.{halves_of}
use Rattle.mapper.specs.Levels.{level_of, levels, carrier_levels}
use Rattle.mapper.specs.Mapped.{carrier_halves}

abbrev carrier_claim : Claim
carrier_claim = each bit_counts λ b.
    given b 1 (carrier_halves b is 1) and unless b 1 (carrier_halves b is 2)
    and (each widths λ w. carrier_halves b * carriers_of w is carriers_of w * b / axis_bits b)

carriers_are : Holds carrier_claim
unfolding axis_bits
carriers_are = sound carrier_claim tt

-- a carrier of one bit has one half label, and each other two
module _ (bits : ℕ) (known : T (among bit_counts bits)) where
  pub one_half : bits ≡ 1 → carrier_halves bits ≡ 1
  one_half = (carriers_are bits known).0

  pub two_halves : (bits ≡ 1 → ⊥) → carrier_halves bits ≡ 2
  two_halves = (carriers_are bits known).1.0

  -- a carrier's levels are those of its own half labels
  pub carrier_from : (f g : ℕ → ℕ) (c : ℕ) → ((m : ℕ) → m < carrier_halves bits * (c + 1) → f m ≡ g m) → carrier_levels bits f c ≡ carrier_levels bits g c
  unfolding carrier_levels
  carrier_from f g c same = go (eqb bits 1) refl
    where
      go : (t : Bool) → eqb bits 1 ≡ t
          → cond t (levels (level_of 1 (f c)) (pos 0)) (levels (level_of (axis_bits bits) (f (2 * c))) (level_of (axis_bits bits) (f (2 * c + 1))))
          ≡ cond t (levels (level_of 1 (g c)) (pos 0)) (levels (level_of (axis_bits bits) (g (2 * c))) (level_of (axis_bits bits) (g (2 * c + 1))))
      go true e = ap (λ (x : ℕ). levels (level_of 1 x) (pos 0)) (same c (rw (one_half (eqb-true bits 1 e)) (omega arith)))
      go false e =
          let two = two_halves (eqb-false bits 1 e) in
          ap₂ (λ (x y : ℕ). levels (level_of (axis_bits bits) x) (level_of (axis_bits bits) y))
          (same (2 * c) (rw two (omega arith))) (same (2 * c + 1) (rw two (omega arith)))

module _ (p : Plan) (fits : Fits p) where
  -- a stream's half labels are its carriers'
  pub all_halves : carrier_halves p.bits * p.carriers ≡ halves_of p
  all_halves = rw (fits.block_is, fits.carriers_is) ((carriers_are p.bits fits.bits).1.1 p.width fits.width)

  -- those of the carriers up to c are among them
  pub halves_to : (c : ℕ) → c < p.carriers → carrier_halves p.bits * (c + 1) ≤ halves_of p
  halves_to c h = omega (arith, all_halves, mul-le-mul_left (carrier_halves p.bits) h)

  -- half labels of a stream, where a carrier has one bit and where it has more
  pub halves_one : p.bits ≡ 1 → halves_of p ≡ p.carriers
  halves_one e = omega (arith, rw (one_half p.bits fits.bits e) at all_halves)

  pub halves_two : (p.bits ≡ 1 → ⊥) → halves_of p ≡ 2 * p.carriers
  halves_two n = omega (arith, rw (two_halves p.bits fits.bits n) at all_halves)

  -- a carrier's levels come from the stream's half labels
  pub carrier_ext : (f g : ℕ → ℕ) (c : ℕ) → c < p.carriers → ((m : ℕ) → m < halves_of p → f m ≡ g m)
      → carrier_levels p.bits f c ≡ carrier_levels p.bits g c
  carrier_ext f g c h same = carrier_from p.bits fits.bits f g c (λ m l. same m (omega (arith, l, halves_to c h)))
