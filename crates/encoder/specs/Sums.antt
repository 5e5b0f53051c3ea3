-- The encoders' sums off a line, as the code makes them.
use Rattle.std.specs.Prelude.{◌≡◌, List, ℕ, ◌+◌, ◌-◌, ◌*◌, ◌<◌, ◌≤◌, length, get_or}
use Rattle.std.specs.Int.Bits.{bit_xor}

-- sums A and B of the input at place j + 6·NES of a line
abbrev pub xor_a : (line : ℕ → ℕ) (encoders j : ℕ) → ℕ
xor_a line encoders j =
    bit_xor (bit_xor (bit_xor (bit_xor (line (j + 6 * encoders)) (line (j + 4 * encoders))) (line (j + 3 * encoders))) (line (j + encoders))) (line j)

abbrev pub xor_b : (line : ℕ → ℕ) (encoders j : ℕ) → ℕ
xor_b line encoders j =
    bit_xor (bit_xor (bit_xor (bit_xor (line (j + 6 * encoders)) (line (j + 5 * encoders))) (line (j + 4 * encoders))) (line (j + 3 * encoders))) (line j)

-- the sum of the newest input, those k, l and m steps before it, and the oldest: A is that of 2, 3 and 5, B that of 1, 2 and 3
abbrev pub xor_of : (k l m : ℕ) (line : ℕ → ℕ) (encoders j : ℕ) → ℕ
xor_of k l m line encoders j =
    let x = λ (t : ℕ). line (j + (6 - t) * encoders) in
    bit_xor (bit_xor (bit_xor (bit_xor (line (j + 6 * encoders)) (x k)) (x l)) (x m)) (line j)

pub record SumsAsked (sums line : List ℕ) (encoders count : ℕ) : Type 0 where
  pub room : 2160 + count ≤ length sums
  pub few : count ≤ 2160
  pub at_most_two : encoders ≤ 2
  pub near : count + 6 * encoders ≤ length line

-- sum A of each input from 0 on, sum B from 2160 on
pub record Sums (line : ℕ → ℕ) (encoders count : ℕ) (sums₀ sums : List ℕ) : Type 0 where
  pub same : length sums ≡ length sums₀
  pub a_done : (j : ℕ) → j < count → get_or sums j 0 ≡ xor_a line encoders j
  pub b_done : (j : ℕ) → j < count → get_or sums (2160 + j) 0 ≡ xor_b line encoders j
