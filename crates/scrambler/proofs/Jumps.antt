-- Many steps of the scrambler at once: up to four by moving the stages, and powers of two by xor of few. Computed over the 128 states.
use Rattle.std.proofs.Common.{◌≡◌, ◌∙◌, sym, ap, ℕ, ◌+◌, ◌-◌, ◌*◌, ◌/◌, ◌%◌, ◌^◌, ◌<◌, ◌≤◌, arith}
use Rattle.std.specs.Int.Bits.{bit_xor}
use Rattle.std.proofs.lemmas.Nat.{mod-pow-add}
use Rattle.laws.specs.Claim.{Claim, ◌is◌, ◌and◌, up_to, Holds, sound}
use Rattle.chain.specs.Scrambler.{next, state_at}
use Rattle.chain.proofs.ScramblerLaws.{state_on}

-- the stages moved up by n, and below them what the outputs are made of
abbrev pub moved : (s n : ℕ) → ℕ
moved s n = s * 2 ^ n % 256 % 128 + bit_xor (s / 2 ^ (7 - n)) (s / 2 ^ (4 - n)) % (1 * 2 ^ n % 256)

abbrev moved_claim : Claim
moved_claim = up_to 5 λ n. up_to 128 λ s. moved s n is state_at s n

moves : Holds moved_claim
unfolding state_at
moves = sound moved_claim tt

pub moved_is : (s n : ℕ) → s < 128 → n ≤ 4 → moved s n ≡ state_at s n
moved_is s n h l = moves n (omega arith) s h

abbrev powers_claim : Claim
powers_claim = up_to 128 λ s.
    next s is state_at s 1
    and bit_xor (state_at s 4) (next s) is state_at s 8
    and bit_xor (bit_xor (state_at s 4) (state_at s 2)) (next s) is state_at s 16
    and bit_xor (state_at s 2) (next s) is state_at s 32
    and bit_xor (state_at s 4) (state_at s 2) is state_at s 64

-- 1, 8, 16, 32 and 64 steps by those of 1, 2 and 4
pub powers : Holds powers_claim
unfolding state_at
powers = sound powers_claim tt

-- a bit more of a number
more_bits : (m k : ℕ) → m % 2 ^ (k + 1) ≡ m / 2 ^ k % 2 * 2 ^ k + m % 2 ^ k
more_bits m k = ap (λ (j : ℕ). m % 2 ^ j) (omega arith) ∙ mod-pow-add m 1 k

module _ (s m k : ℕ) where
  -- bit k of a number of steps is 1: 2^k steps more than its lower bits ask for
  pub bit_taken : m / 2 ^ k % 2 ≡ 1 → state_at (state_at s (m % 2 ^ k)) (2 ^ k) ≡ state_at s (m % 2 ^ (k + 1))
  bit_taken e = sym (state_on s (m % 2 ^ k) (2 ^ k)) ∙ ap (state_at s) (rw (more_bits, e) (omega arith))

  -- it is 0: no more
  pub bit_left : (m / 2 ^ k % 2 ≡ 1 → ⊥) → state_at s (m % 2 ^ k) ≡ state_at s (m % 2 ^ (k + 1))
  bit_left n = ap (state_at s) (let e : m / 2 ^ k % 2 ≡ 0 = omega arith in rw (more_bits, e) (omega arith))
