-- A number as it is, at 64 bits; what a result tells. Assumes nothing.
use mathlib.Core.Path.{◌≡◌, ap}
use Prim.Native.Nat.{ℕ, zero, suc, ◌+◌, ◌*◌, ◌<◌, ◌≤◌}
use native.Mathlib.Omega.{arith}
use lib.IntN.{pos}
use mir.Syntax.{w64}
use mir.Val.{SFits, to_z}
use mir.Facts.{to_z_pos}
use Rattle.settings.specs.declared.settings.Refusal.{Refusal}
use Rattle.settings.proofs.SettingsLaws.{number_range}
use Rattle.settings.specs.Settings.{number_of}
use Rattle.laws.specs.Integers.{counted, minus}
use Rattle.conversions.specs.Results.{refused_result}

pub pos_fits : (n : ℕ) → n < 268435456 → SFits w64 (pos n)
pos_fits n h = record { sfits = omega arith }

pub pos_is : (n : ℕ) → n < 268435456 → to_z w64 n ≡ pos n
pos_is n h = to_z_pos w64 {n = n} (omega arith)

-- every refusal's number is small
pub number_small : (r : Refusal) → number_of r < 16
number_small r = omega (arith, (number_range r).1)

-- ---- a result that is not negative is no refusal, and no two numbers have the same result

pub pos_told : (a b : ℕ) → pos a ≡ pos b → a ≡ b
pos_told a b e = let d : 2 * a ≡ 2 * b = ap counted e in omega (arith, d)

pub minus_not_pos : (n k : ℕ) → 1 ≤ n → minus n ≡ pos k → ⊥
minus_not_pos zero k l e = omega arith
minus_not_pos (suc n) k l e = let d : 2 * n + 1 ≡ 2 * k = ap counted e in omega (arith, d)

pub refused_not_pos : (r : Refusal) (k : ℕ) → refused_result r ≡ pos k → ⊥
refused_not_pos r k e = minus_not_pos (number_of r) k (number_range r).0 e
