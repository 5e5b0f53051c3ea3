-- Seed and plain bits of a symbol's inputs.
use Rattle.std.proofs.Common.{◌≡◌, ◌∙◌, ap, List, ℕ, zero, suc, ◌+◌, ◌*◌, ◌^◌, ◌<◌, get_or, arith}
use Rattle.std.specs.Int.Bits.{bit_xor}
use Rattle.laws.specs.Filled.{Filled}
use Rattle.laws.proofs.Filling.{fill_at, fill_as}
use Rattle.laws.proofs.Xor.{xor_bits}
use Rattle.chain.specs.Scrambler.{state_at, scrambler_bit, seed_of}
use Rattle.chain.proofs.ScramblerLaws.{state_small, scrambler_bit_lem}
use Rattle.deframer.specs.Deframed.{plain_bit}

-- a plain bit is a bit
pub plain_bit_lem : (s : ℕ) (X : ℕ → ℕ) (d : ℕ) → plain_bit s X d < 2
plain_bit_lem s X d = omega arith

-- k bits as a number, the first the highest
abbrev pub first_highest : (X : ℕ → ℕ) (k : ℕ) → ℕ
first_highest X zero = 0
first_highest X (suc k) = 2 * first_highest X k + X k

-- the seed by the first seven bits
pub seed_by : (X : ℕ → ℕ) (v k r : ℕ) → k ≡ 7 → v ≡ first_highest X k → v < 2 ^ k → r ≡ state_at v 120 → (r ≡ seed_of X) × (r < 128)
unfolding seed_of
seed_by X v k r seven h s e =
    let number : v ≡ first_highest X 7 = h ∙ ap (first_highest X) seven in
    let small : v < 2 ^ 7 = rw seven at s in
    (e ∙ ap (λ (z : ℕ). state_at z 120) (omega arith), rw e (state_small v 120 small))

-- inputs with the scrambler's outputs on them are the plain bits
pub plain_filled : (inputs outputs₀ outputs plain₀ plain : List ℕ) (state count : ℕ) → ((d : ℕ) → d < count → get_or inputs d 0 < 2)
    → Filled 0 0 (λ t. scrambler_bit state t) count outputs₀ outputs
    → Filled 0 0 (λ d. bit_xor (get_or inputs d 0) (get_or outputs d 0)) count plain₀ plain
    → Filled 0 0 (plain_bit state (λ d. get_or inputs d 0)) count plain₀ plain
plain_filled inputs outputs₀ outputs plain₀ plain state count bits out p =
    fill_as _ _ _ (plain_bit state (λ d. get_or inputs d 0)) _ _ _
    (λ d h. rw (fill_at 0 (λ t. scrambler_bit state t) out d h) (xor_bits (get_or inputs d 0) (bits d h) (scrambler_bit state d) (scrambler_bit_lem state d)))
    p
