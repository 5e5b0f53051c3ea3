-- The numbers that decimal digits are. Assumes nothing.
use Rattle.std.proofs.Common.{◌≡◌, refl, not, List, [], ◌∷◌, ◌++◌, ℕ, zero, suc, ◌+◌, ◌-◌, ◌*◌, ◌<◌, ◌≤◌}
use Rattle.std.proofs.Common.{length, get_or, drop, drop-cons, add-one, arith}
use Rattle.std.proofs.Math.Bool.{not-not}
use Rattle.std.specs.Char.{is_ascii_digit}
use Rattle.parsing.specs.Parsing.{is_digit, decimal_from, AllDigits}

-- std's test for a digit is the definition's
pub digit_by_std : (b : ℕ) → not (not (is_ascii_digit b)) ≡ is_digit b
digit_by_std b = not-not (is_digit b)

-- ten to a power
unfoldable pub tens : ℕ → ℕ
tens zero = 1
tens (suc k) = 10 * tens k

pub tens_next : (k : ℕ) → tens (suc k) ≡ 10 * tens k
unfolding tens
tens_next k = refl

pub tens_none : tens 0 ≡ 1
unfolding tens
tens_none = refl

pub tens_five : tens 5 ≡ 100000
unfolding tens
tens_five = refl

-- at most five digits
pub tens_most : (k : ℕ) → k ≤ 5 → tens k ≤ 100000
unfolding tens
tens_most zero h = omega arith
tens_most (suc zero) h = omega arith
tens_most (suc (suc zero)) h = omega arith
tens_most (suc (suc (suc zero))) h = omega arith
tens_most (suc (suc (suc (suc zero)))) h = omega arith
tens_most (suc (suc (suc (suc (suc zero))))) h = omega arith
tens_most (suc (suc (suc (suc (suc (suc k)))))) h = absurd (omega arith)

-- ---- the value of digits

-- one digit more at the end
pub value_snoc : (m : ℕ) (xs : List ℕ) (d : ℕ) → decimal_from m (xs ++ (d ∷ [])) ≡ 10 * decimal_from m xs + (d - 48)
value_snoc m [] d = refl
value_snoc m (x ∷ xs) d = value_snoc (10 * m + (x - 48)) xs d

-- digits are below ten to the power of how many they are
pub value_below : (xs : List ℕ) (m k : ℕ) → AllDigits xs → m < k → decimal_from m xs < k * tens (length xs)
value_below [] m k a h = rw tens_none (omega arith)
value_below (x ∷ xs) m k a h =
    let e : 10 * k * tens (length xs) ≡ k * (10 * tens (length xs)) = omega arith in
    rw (tens_next, ← e) (value_below xs (10 * m + (x - 48)) (10 * k) a.1 (omega arith))

-- a turn of the loop that reads digits
pub value_next : (l : List ℕ) (i v : ℕ) {z : ℕ} → i < length l → decimal_from v (drop i l) ≡ z
    → decimal_from (10 * v + (get_or l i 0 - 48)) (drop (i + 1) l) ≡ z
value_next l i v h e = rw (drop-cons l i 0 h, ← add-one i) at e

-- the bound that the loop keeps, whatever the bytes are
pub value_room : (k v d : ℕ) → v + 23 ≤ 23 * tens k → d ≤ 207 → 10 * v + d + 23 ≤ 23 * tens (k + 1)
value_room k v d h b = rw (add-one, tens_next) (omega arith)
