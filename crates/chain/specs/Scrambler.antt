-- The scrambler x^7 + x^4 + 1 (document 01 step 1; IEEE 802.11, 18.3.5.5). Its state is a number below 128: "seed bit 0 is x1, bit 6 is x7".
use Rattle.std.specs.Prelude.{ℕ, zero, suc, ◌+◌, ◌*◌, ◌/◌, ◌%◌}

-- stages x7 and x4 of a state
abbrev pub stage7 : ℕ → ℕ
stage7 state = state / 64 % 2

abbrev pub stage4 : ℕ → ℕ
stage4 state = state / 8 % 2

-- "output x7 xor x4"
abbrev pub output : ℕ → ℕ
output state = (stage7 state + stage4 state) % 2

-- every stage moves up by one, and the output is "fed into x1"
abbrev pub next : ℕ → ℕ
next state = 2 * (state % 64) + output state

-- the state after d steps from a seed, and output d
unfoldable pub state_at : (seed d : ℕ) → ℕ
state_at seed zero = seed
state_at seed (suc d) = next (state_at seed d)

abbrev pub scrambler_bit : (seed d : ℕ) → ℕ
scrambler_bit seed d = output (state_at seed d)

-- the seed that begins with seven given outputs: they are the state seven steps on, the newest in x1, and 120 steps more complete the period
unfoldable pub seed_of : (o : ℕ → ℕ) → ℕ
seed_of o = state_at (o 6 + 2 * o 5 + 4 * o 4 + 8 * o 3 + 16 * o 2 + 32 * o 1 + 64 * o 0) 120
