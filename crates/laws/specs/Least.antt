-- The first number at which a test passes, by looking.
use Rattle.std.specs.Prelude.{Bool, cond, ℕ, zero, suc}

-- of n numbers from k on; k + n where it passes at none
abbrev pub first_from : (f : ℕ → Bool) (k n : ℕ) → ℕ
first_from f k zero = k
first_from f k (suc n) = cond (f k) k (first_from f (suc k) n)
