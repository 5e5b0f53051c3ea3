-- Kept bits: the printed patterns are one closed form, of which only seven inputs of one step count.
-- Assumes nothing.
use mathlib.Core.Path.{◌≡◌, ◌∙◌, sym, ap₂}
use mathlib.Core.Bool.{cond}
use Prim.Native.Nat.{ℕ, ◌+◌, ◌-◌, ◌*◌, ◌/◌, ◌%◌, ◌<◌, ◌≤◌}
use native.Mathlib.Nat.{mod-lt, mul-suc, mul_comm, mul-le-mul_left, div-lt_iff_lt-mul}
use native.Mathlib.Omega.{arith}
use lib.Dec.{T, lit≤, eqb}
use lib.ListN.{get_or}
use Rattle.laws.specs.Test.{among}
use Rattle.laws.specs.Claim.{Claim, ◌is◌, up_to, each, Holds, sound}
use Rattle.chain.specs.Plan.{kept_counts}
use Rattle.chain.specs.Encoder.{sum_a, sum_b}
use Rattle.chain.specs.Puncture.{Kept, A, B, pattern, sum_of, kept_of, kept_step, closed_kept}
use Rattle.chain.proofs.Counts.{kept_low}

-- A0 B0 A1 B1 .. as one number: 0, 1, 2, 3, ..
abbrev number_of : Kept → ℕ
number_of (A t) = 2 * t
number_of (B t) = 2 * t + 1

abbrev pattern_claim : Claim
pattern_claim = each kept_counts λ q. up_to q λ m. number_of (get_or (pattern q) m (A 0)) is 2 * (m - 1) + m % 2

patterns : Holds pattern_claim
patterns = sound pattern_claim tt

-- the sum at place m of a pattern: A and B alternate
abbrev pub sum_at : (m : ℕ) (u : ℕ → ℕ) → ℕ
sum_at m u = cond (eqb (m % 2) 0) (sum_a u) (sum_b u)

numbered : (k : Kept) (w : ℕ → ℕ → ℕ) (m : ℕ) → number_of k ≡ 2 * (m - 1) + m % 2 → sum_of k w ≡ sum_at m (w (m - 1))
numbered (A t) w m e =
    let s : t ≡ m - 1 = omega arith in
    let z : m % 2 ≡ 0 = omega arith in
    rw (z, ← s)
numbered (B t) w m e =
    let s : t ≡ m - 1 = omega arith in
    let z : m % 2 ≡ 1 = omega arith in
    rw (z, ← s)

-- all four patterns are a prefix of A0 B0 A1 B2 A3 B4
pub kept_form : (u : ℕ → ℕ → ℕ) (q i : ℕ) → T (among kept_counts q) → kept_of u q i ≡ closed_kept u q i
unfolding kept_of kept_step
kept_form u q i h =
    let low : 2 ≤ q = kept_low q h in
    numbered (get_or (pattern q) (i % q) (A 0)) (λ t. u ((q - 1) * (i / q) + t)) (i % q) (patterns q h (i % q) (mod-lt i (omega arith)))

-- sums of the same seven inputs are the same
pub sum_ext : (m : ℕ) (u v : ℕ → ℕ) → ((k : ℕ) → k ≤ 6 → u k ≡ v k) → sum_at m u ≡ sum_at m v
sum_ext m u v e =
    ap₂ (cond (eqb (m % 2) 0))
    (cc (e 0 (lit≤ tt), e 2 (lit≤ tt), e 3 (lit≤ tt), e 5 (lit≤ tt), e 6 (lit≤ tt)))
    (cc (e 0 (lit≤ tt), e 1 (lit≤ tt), e 2 (lit≤ tt), e 3 (lit≤ tt), e 6 (lit≤ tt)))

-- kept bits of the same seven inputs are the same
pub kept_ext : (u v : ℕ → ℕ → ℕ) (q i : ℕ) → T (among kept_counts q)
    → ((k : ℕ) → k ≤ 6 → u (kept_step q i) k ≡ v (kept_step q i) k) → kept_of u q i ≡ kept_of v q i
kept_ext u v q i h e = kept_form u q i h ∙ sum_ext (i % q) (u (kept_step q i)) (v (kept_step q i)) e ∙ sym (kept_form v q i h)

sum_bit : (k : Kept) (w : ℕ → ℕ → ℕ) → sum_of k w < 2
sum_bit (A t) w = mod-lt _ (omega arith)
sum_bit (B t) w = mod-lt _ (omega arith)

-- a kept bit is a bit
pub kept_bit_lem : (u : ℕ → ℕ → ℕ) (q i : ℕ) → kept_of u q i < 2
unfolding kept_of
kept_bit_lem u q i = sum_bit (get_or (pattern q) (i % q) (A 0)) (λ t. u ((q - 1) * (i / q) + t))

-- the steps of g groups
pub step_below : (q i : ℕ) → 2 ≤ q → (g : ℕ) → i < q * g → kept_step q i < (q - 1) * g
unfolding kept_step
step_below q i two g l =
    let n : i / q < g = (div-lt_iff_lt-mul {k = q} (omega arith)).1 (rw (mul_comm g q) l) in
    let m : i % q < q = mod-lt i (omega arith) in
    omega (arith, rw mul-suc at (mul-le-mul_left (q - 1) n))
