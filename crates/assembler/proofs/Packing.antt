-- Bits and the number that they write.
use Rattle.std.proofs.Common.{◌≡◌, ◌∙◌, refl, sym, ap, ap₂, ⊎_elim, ℕ, zero, suc, ◌+◌, ◌-◌, ◌*◌, ◌/◌, ◌%◌, ◌^◌, ◌<◌, ◌≤◌, add-one, arith}
use Rattle.std.proofs.Math.Nat.{not-suc-le-zero, eq-or-lt_of_le, le_of_suc-le-suc, mul_comm, mul_assoc, mul-zero, pow-suc, pow-zero}
use Rattle.std.proofs.Math.Nat.{mul-le-mul_left, mul-one, add-suc, add-zero, add-mul-div_left, mod-eq_of_lt}
use Rattle.std.proofs.lemmas.Nat.{pow_pos, pow_below}
use Rattle.laws.proofs.Radix.{quot_of}
use Rattle.assembler.specs.Assembled.{bits_number}

-- the same bits at two places write the same number
pub packed_as : (f h : ℕ → ℕ) (a b r : ℕ) → ((k : ℕ) → k < r → f (a + k) ≡ h (b + k)) → bits_number f a r ≡ bits_number h b r
unfolding bits_number
packed_as f h a b zero e = refl
packed_as f h a b (suc r) e = ap₂ (λ (x y : ℕ). x + 2 ^ r * y) (packed_as f h a b r (λ k l. e k (omega arith))) (e r (omega arith))

-- only the bits that are bits_number count
pub packed_ext : (f h : ℕ → ℕ) (a r : ℕ) → ((k : ℕ) → k < r → f (a + k) ≡ h (a + k)) → bits_number f a r ≡ bits_number h a r
packed_ext f h a r e = packed_as f h a a r e

-- zeros after the bits add nothing
pub packed_rest : (f : ℕ → ℕ) (a r s : ℕ) → r ≤ s → ((k : ℕ) → r ≤ k → f (a + k) ≡ 0) → bits_number f a s ≡ bits_number f a r
unfolding bits_number
packed_rest f a r zero l z = let e : 0 ≡ r = omega arith in ap (bits_number f a) e
packed_rest f a r (suc s) l z =
    ⊎_elim
    (λ (e : r ≡ suc s). ap (bits_number f a) (sym e))
    (λ (h : r < suc s). rw (z s (omega arith), mul-zero (2 ^ s), add-zero (bits_number f a s)) (packed_rest f a r s (omega arith) z))
    (eq-or-lt_of_le l)

pow_split : (k m : ℕ) → 2 ^ (k + suc m) ≡ 2 ^ k * (2 * 2 ^ m)
pow_split k zero = rw (add-suc, add-zero, pow-suc)
pow_split k (suc m) = rw (add-suc, pow-suc 2 (k + suc m)) (ap (λ (x : ℕ). x * 2) (pow_split k m) ∙ rw (pow-suc, mul_assoc, mul_assoc))

even_more : (a b : ℕ) → (a + 2 * b) % 2 ≡ a % 2
even_more a b = omega arith

-- a higher bit does not count
higher : (w k m b : ℕ) → (w + 2 ^ (k + suc m) * b) / 2 ^ k % 2 ≡ w / 2 ^ k % 2
higher w k m b =
    rw (pow_split k m, mul_assoc, mul_assoc, add-mul-div_left w (2 * (2 ^ m * b)) (pow_pos k)) (even_more _ _)

module _ (f : ℕ → ℕ) (a : ℕ) where
  -- r bits write a number below 2 ^ r
  pub packed_small : (r : ℕ) → ((k : ℕ) → k < r → f (a + k) < 2) → bits_number f a r < 2 ^ r
  unfolding bits_number
  packed_small zero b = rw pow-zero (omega arith)
  packed_small (suc r) b =
      let l : 2 ^ r * f (a + r) ≤ 2 ^ r * 1 = mul-le-mul_left (2 ^ r) (le_of_suc-le-suc (b r (omega arith))) in
      rw pow-suc (omega (arith, rw mul-one at l, packed_small r (λ k m. b k (omega arith))))

  -- and each of them is a bit of that number
  pub packed_bit : (r : ℕ) → ((k : ℕ) → k < r → f (a + k) < 2) → (k : ℕ) → k < r → bits_number f a r / 2 ^ k % 2 ≡ f (a + k)
  unfolding bits_number
  packed_bit zero b k l = absurd (not-suc-le-zero l)
  packed_bit (suc r) b k l =
      ⊎_elim
      (λ (e : k ≡ r).
      rw e (ap (λ (x : ℕ). x % 2) (quot_of (2 ^ r) (f (a + r)) (bits_number f a r) _ (packed_small r (λ k m. b k (omega arith))) (rw (mul_comm (2 ^ r) (f (a + r))) (omega arith)))
      ∙ omega (arith, b r (omega arith))))
      (λ (h : k < r).
      let e : r ≡ k + suc (r - suc k) = omega arith in
      ap (λ (z : ℕ). (bits_number f a r + 2 ^ z * f (a + r)) / 2 ^ k % 2) e ∙ higher (bits_number f a r) k (r - suc k) (f (a + r)) ∙ packed_bit r (λ k m. b k (omega arith)) k h)
      (eq-or-lt_of_le (le_of_suc-le-suc l))

pub packed_none : (f : ℕ → ℕ) (a : ℕ) → bits_number f a 0 ≡ 0
unfolding bits_number
packed_none f a = refl

-- a bit moved up k places in a byte
moved_up : (x k : ℕ) → x < 2 → k < 8 → x * 2 ^ k % 256 ≡ 2 ^ k * x
moved_up x k b h =
    let l : 2 ^ k * x ≤ 2 ^ k * 1 = mul-le-mul_left (2 ^ k) (le_of_suc-le-suc b) in
    rw (mul_comm x (2 ^ k)) (mod-eq_of_lt (omega (arith, rw mul-one at l, pow_below k 8 h)))

-- one bit more of eight
pub packed_more : (f : ℕ → ℕ) (a k byte : ℕ) → k < 8 → f (a + k) < 2 → byte ≡ bits_number f a k → byte < 2 ^ k
    → (byte + f (a + k) * 2 ^ k % 256 ≡ bits_number f a (k + 1)) × (byte + f (a + k) * 2 ^ k % 256 < 2 ^ (k + 1))
unfolding bits_number
packed_more f a k byte h b e l =
    let m : 2 ^ k * f (a + k) ≤ 2 ^ k * 1 = mul-le-mul_left (2 ^ k) (le_of_suc-le-suc b) in
    (rw (moved_up (f (a + k)) k b h, e, add-one), rw (moved_up (f (a + k)) k b h, add-one, pow-suc) (omega (arith, rw mul-one at m)))
