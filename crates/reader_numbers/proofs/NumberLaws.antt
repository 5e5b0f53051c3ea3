-- The number of a place, and of an answer that is none. Assumes nothing.
use Rattle.std.specs.Prelude.{Err}
use mathlib.Core.Path.{◌≡◌, ◌∙◌, sym, ap}
use Prim.Native.Nat.{ℕ, ◌+◌, ◌*◌, ◌<◌}
use native.Mathlib.Omega.{arith}
use borrow.Author.Tests.{ne_eqb}
use lib.IntN.{ℤ, pos, ◌+ℤ◌}
use Rattle.laws.specs.Integers.{counted}
use Rattle.laws.specs.Claim.{Claim, ◌is◌, up_to, Holds, sound}
use Rattle.laws.proofs.Integers.{counted_same}
use Rattle.settings.specs.declared.settings.Refusal.{Refusal}
use Rattle.settings.specs.Settings.{number_of}
use Rattle.settings.proofs.SettingsLaws.{number_range}
use Rattle.subcarriers.specs.Subcarriers.{subcarrier_from}
use Rattle.conversions.specs.Results.{refused_result}
use Rattle.reader_numbers.specs.Numbers.{placed_result}

abbrev place_claim : Claim
place_claim = up_to 128 λ k. counted (subcarrier_from k +ℤ pos 128) is counted (pos (k + 64))

places : Holds place_claim
places = sound place_claim tt

-- the subcarrier, counted from -128 on
pub place_sum_is : (k : ℕ) (z : ℤ) → subcarrier_from k ≡ z → k < 128 → pos (k + 64) ≡ z +ℤ pos 128
place_sum_is k z e l = sym (counted_same (subcarrier_from k +ℤ pos 128) (pos (k + 64)) (places k l)) ∙ ap (λ (y : ℤ). y +ℤ pos 128) e

-- a place's number
pub place_number_is : (stream k : ℕ) (z : ℤ) → subcarrier_from k ≡ z → k < 128 → pos (256 * stream + (k + 64)) ≡ pos (256 * stream) +ℤ (z +ℤ pos 128)
place_number_is stream k z e l = ap (λ (y : ℤ). pos (256 * stream) +ℤ y) (place_sum_is k z e l)

-- a refusal that is no 9 is its number negated
pub refused_placed : (r : Refusal) → (number_of r ≡ 9 → ⊥) → refused_result r ≡ placed_result (Err r)
refused_placed r other = simp (ne_eqb (number_of r) 0 (λ e. omega (arith, e, (number_range r).0)), ne_eqb (number_of r) 9 other)
