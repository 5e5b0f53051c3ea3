-- The scrambler: its state goes on, stays in range and repeats after 127 steps; its first seven outputs and its seed determine each other.
use mathlib.Core.Path.{◌≡◌, ◌∙◌, refl, sym, ap}
use Prim.Native.Nat.{ℕ, zero, suc, ◌+◌, ◌-◌, ◌*◌, ◌/◌, ◌%◌, ◌<◌}
use native.Mathlib.Nat.{add-zero, add-suc, suc-add}
use native.Mathlib.Numerals.{add-one}
use native.Mathlib.Omega.{arith}
use lib.Dec.{lit<}
use Rattle.laws.specs.Claim.{Claim, ◌is◌, ◌under◌, up_to, Holds, sound}
use Rattle.chain.specs.Scrambler.{output, next, state_at, scrambler_bit, seed_of}

-- no step leaves the seed
pub state_zero : (s : ℕ) → state_at s 0 ≡ s
unfolding state_at
state_zero s = refl

-- one step more
pub step_more : (s d : ℕ) → next (state_at s d) ≡ state_at s (d + 1)
unfolding state_at
step_more s d = rw add-one

-- steps go on where others ended
pub state_on : (s a t : ℕ) → state_at s (a + t) ≡ state_at (state_at s a) t
unfolding state_at
state_on s a zero = ap (state_at s) (add-zero a)
state_on s a (suc t) = rw add-suc (ap next (state_on s a t))

-- a state stays below 128
pub state_small : (s d : ℕ) → s < 128 → state_at s d < 128
unfolding state_at
state_small s zero h = h
state_small s (suc d) h = omega arith

-- a state above zero stays above zero, and below 128
abbrev some_claim : Claim
some_claim = up_to 127 λ k. 0 under next (suc k)

next_some : Holds some_claim
next_some = sound some_claim tt

pub state_some : (s d : ℕ) → 0 < s → s < 128 → (0 < state_at s d) × (state_at s d < 128)
unfolding state_at
state_some s zero h l = (h, l)
state_some s (suc d) h l =
    let e = state_some s d h l in
    let back : suc (state_at s d - 1) ≡ state_at s d = omega arith in
    (rw back at (next_some (state_at s d - 1) (omega arith)), omega arith)

-- every state comes back after 127 steps, at any place; that no fewer steps bring one back is not said here
abbrev round_claim : Claim
round_claim = up_to 128 λ s. state_at s 127 is s

round : Holds round_claim
unfolding state_at
round = sound round_claim tt

pub period : (s d : ℕ) → s < 128 → state_at s (d + 127) ≡ state_at s d
unfolding state_at
period s zero h = round s h
period s (suc d) h = rw suc-add (ap next (period s d h))

periods : (s d k : ℕ) → s < 128 → state_at s (d + k * 127) ≡ state_at s d
periods s d zero h = ap (state_at s) (omega arith)
periods s d (suc k) h = ap (state_at s) (omega arith) ∙ period s (d + k * 127) h ∙ periods s d k h

-- only the number of steps modulo 127 counts for the state
pub by_period : (s n : ℕ) → s < 128 → state_at s (n % 127) ≡ state_at s n
by_period s n h = sym (periods s (n % 127) (n / 127) h) ∙ ap (state_at s) (omega arith)

-- and for the output
pub output_period : (s t : ℕ) → s < 128 → scrambler_bit s (t % 127) ≡ scrambler_bit s t
output_period s t h = ap output (by_period s t h)

-- an output is a bit
pub scrambler_bit_lem : (s d : ℕ) → scrambler_bit s d < 2
scrambler_bit_lem s d = omega arith

-- outputs from a state on are later outputs of the seed
pub output_on : (s a t : ℕ) → scrambler_bit s (a + t) ≡ scrambler_bit (state_at s a) t
output_on s a t = ap output (state_on s a t)

-- the first seven outputs give the seed back
abbrev back_claim : Claim
back_claim = up_to 128 λ s. seed_of (λ d. scrambler_bit s d) is s

pub seed_back : (s : ℕ) → s < 128 → seed_of (λ d. scrambler_bit s d) ≡ s
unfolding state_at seed_of
seed_back = sound back_claim tt

-- any seven bits give a state
pub seed_small : (o : ℕ → ℕ) → ((k : ℕ) → o k < 2) → seed_of o < 128
unfolding seed_of
seed_small o bits = state_small _ 120 (omega (arith, bits 0, bits 1, bits 2, bits 3, bits 4, bits 5, bits 6))

-- only seven outputs count
pub seed_ext : (x y : ℕ → ℕ) → ((k : ℕ) → k < 7 → x k ≡ y k) → seed_of x ≡ seed_of y
unfolding seed_of
seed_ext x y e = cc (e 0 (lit< tt), e 1 (lit< tt), e 2 (lit< tt), e 3 (lit< tt), e 4 (lit< tt), e 5 (lit< tt), e 6 (lit< tt))

-- seeds whose first seven outputs are the same are the same
pub seed_told : (s s' : ℕ) → s < 128 → s' < 128 → ((k : ℕ) → k < 7 → scrambler_bit s k ≡ scrambler_bit s' k) → s ≡ s'
seed_told s s' h h' e = sym (seed_back s h) ∙ seed_ext (λ d. scrambler_bit s d) (λ d. scrambler_bit s' d) e ∙ seed_back s' h'
