-- The subcarrier of a place as a difference of two small numbers, at 32 bits with a sign. Assumes nothing.
use Rattle.std.proofs.Common.{◌≡◌, ◌∙◌, sym, ap, ap₂, subst, ℕ, ◌<◌, ◌≤◌, arith, ℤ, pos, negsuc, nat_abs, ◌-ℤ◌, cond, T, eqb, ltb}
use Rattle.std.proofs.Common.{lt-ltb, le-ltb}
use Rattle.std.proofs.Common.{Bool, true, false, refl}
use mir.Syntax.{w32}
use mir.Val.{SFits, to_z, of_z}
use mir.Facts.{to_z_pos, to_z-of_z}
use Rattle.laws.specs.Test.{among}
use Rattle.laws.specs.Integers.{counted}
use Rattle.laws.specs.Claim.{Claim, ◌is◌, ◌under◌, ◌and◌, up_to, each, given, Holds, sound}
use Rattle.laws.proofs.Integers.{counted_same}
use Rattle.chain.specs.Plan.{widths}
use Rattle.subcarriers.specs.Subcarriers.{used_subcarriers, places_of, subcarrier_at}
use Rattle.subcarriers.proofs.SubcarrierLaws.{one, places_few}

abbrev small_claim : Claim
small_claim = up_to 114 λ f. up_to 64 λ k. nat_abs (pos f -ℤ pos k) under 128

smalls : Holds small_claim
smalls = sound small_claim tt

small_fits : (z : ℤ) → nat_abs z < 128 → SFits w32 z
small_fits (pos n) h = record { sfits = omega arith }
small_fits (negsuc n) h = record { sfits = omega arith }

-- the machine's difference is the whole numbers', and fits
module _ (f k bits : ℕ) (hf : f < 114) (hk : k < 64) (told : to_z w32 bits ≡ pos k) where
  same : to_z w32 f -ℤ to_z w32 bits ≡ pos f -ℤ pos k
  same = ap₂ (λ (x y : ℤ). x -ℤ y) (to_z_pos w32 {n = f} (omega arith)) told

  pub difference_fits : SFits w32 (to_z w32 f -ℤ to_z w32 bits)
  difference_fits = subst (SFits w32) (sym same) (small_fits (pos f -ℤ pos k) (smalls f hf k hk))

  pub difference_is : to_z w32 (of_z w32 (to_z w32 f -ℤ to_z w32 bits)) ≡ pos f -ℤ pos k
  difference_is = to_z-of_z difference_fits ∙ same

-- where a width's places above 0 begin, and how far the places below 0 and those above are ahead of their own numbers
abbrev Shifts : Type 0
Shifts = ℕ × ℕ × ℕ

abbrev shifts_of : (width : ℕ) → Shifts
shifts_of width = cond (eqb width 40) (57, 58, 55) (28, 28, 27)

abbrev number_claim : Claim
number_claim = each widths λ w. up_to (places_of w) λ f.
    given (one (ltb f (shifts_of w).0)) 1 (counted (pos f -ℤ pos (shifts_of w).1) is counted (subcarrier_at w f))
    and given (one (ltb f (shifts_of w).0)) 0 (counted (pos f -ℤ pos (shifts_of w).2) is counted (subcarrier_at w f))

numbers : Holds number_claim
unfolding subcarrier_at used_subcarriers
numbers = sound number_claim tt

shift_small : (wide : Bool) → let s : Shifts = cond wide (57, 58, 55) (28, 28, 27) in (s.1 < 64) × (s.2 < 64)
shift_small true = (omega arith, omega arith)
shift_small false = (omega arith, omega arith)

-- the same at 32 bits with a sign
abbrev pub signed_shifts : (width : ℕ) → ℕ × ℤ × ℤ
signed_shifts width = cond (eqb width 40) (57, pos 58, pos 55) (28, pos 28, pos 27)

signed_are : (wide : Bool) → let s : Shifts = cond wide (57, 58, 55) (28, 28, 27) in
    ◌≡◌ {A = ℕ × ℤ × ℤ} (cond wide (57, pos 58, pos 55) (28, pos 28, pos 27)) (s.0, pos s.1, pos s.2)
signed_are true = refl
signed_are false = refl

shift_told : (k bits : ℕ) (z : ℤ) → k < 64 → z ≡ pos k → to_z w32 bits ≡ to_z w32 (of_z w32 z) → to_z w32 bits ≡ pos k
shift_told k bits z l e told = told ∙ ap (λ (x : ℤ). to_z w32 (of_z w32 x)) e ∙ to_z-of_z (small_fits (pos k) (omega arith))

-- the subcarriers of a width, below 0 and above, as the machine's differences
module _ (width f bits : ℕ) (half : ℕ × ℤ × ℤ) (h : T (among widths width)) (inside : f < places_of width)
    (e : half ≡ signed_shifts width) where
  shifts : half ≡ ((shifts_of width).0, pos (shifts_of width).1, pos (shifts_of width).2)
  shifts = e ∙ signed_are (eqb width 40)

  few : f < 114
  few = omega (arith, inside, places_few width)

  pub lower_number : f < half.0 → to_z w32 bits ≡ to_z w32 (of_z w32 half.1)
      → to_z w32 (of_z w32 (to_z w32 f -ℤ to_z w32 bits)) ≡ subcarrier_at width f
  lower_number l told =
      let k = (shifts_of width).1 in
      let small = (shift_small (eqb width 40)).0 in
      difference_is f k bits few small (shift_told k bits half.1 small (ap (λ (x : ℕ × ℤ × ℤ). x.1) shifts) told)
      ∙ counted_same _ _ ((numbers width h f inside).0 (ap one (lt-ltb f (shifts_of width).0 (rw shifts at l))))

  pub upper_number : half.0 ≤ f → to_z w32 bits ≡ to_z w32 (of_z w32 half.2)
      → to_z w32 (of_z w32 (to_z w32 f -ℤ to_z w32 bits)) ≡ subcarrier_at width f
  upper_number l told =
      let k = (shifts_of width).2 in
      let small = (shift_small (eqb width 40)).1 in
      difference_is f k bits few small (shift_told k bits half.2 small (ap (λ (x : ℕ × ℤ × ℤ). x.2) shifts) told)
      ∙ counted_same _ _ ((numbers width h f inside).1 (ap one (le-ltb f (shifts_of width).0 (rw shifts at l))))
