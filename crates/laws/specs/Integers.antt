-- Whole numbers with a sign, as computed tests need them.
use Rattle.std.specs.Prelude.{Bool, ℕ, ◌+◌, ◌*◌, eqb, ℤ, pos, negsuc, neg_ℤ}

-- - n
abbrev pub minus : ℕ → ℤ
minus n = neg_ℤ (pos n)

-- 0, -1, 1, -2, 2, .. by their number in this order: two whole numbers are equal exactly where their numbers are (`counted_same`)
abbrev pub counted : ℤ → ℕ
counted (pos n) = 2 * n
counted (negsuc n) = 2 * n + 1

abbrev pub alike : ℤ → ℤ → Bool
alike a b = eqb (counted a) (counted b)
