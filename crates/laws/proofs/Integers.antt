-- Whole numbers by their numbers in the order 0, -1, 1, -2, 2, .. Assumes nothing.
use mathlib.Core.Path.{◌≡◌, sym, ap}
use Prim.Native.Nat.{ℕ, ◌+◌, ◌*◌}
use native.Mathlib.Omega.{arith}
use lib.IntN.{ℤ, pos, negsuc}
use Rattle.laws.specs.Integers.{counted}

apart : (m n : ℕ) → 2 * m ≡ 2 * n + 1 → ⊥
apart m n e = omega (arith, e)

-- no two have the same number
pub counted_same : (a b : ℤ) → counted a ≡ counted b → a ≡ b
counted_same (pos m) (pos n) e = ap pos (omega (arith, e))
counted_same (pos m) (negsuc n) e = absurd (apart m n e)
counted_same (negsuc m) (pos n) e = absurd (apart n m (sym e))
counted_same (negsuc m) (negsuc n) e = ap negsuc (omega (arith, e))
