-- The convolutional encoders (document 01 step 2; IEEE 802.11, 18.3.5.6), over any input bits given by their number.
use Rattle.std.specs.Prelude.{cond, ℕ, ◌+◌, ◌-◌, ◌*◌, ◌%◌, ltb}

-- "A = x(t)+x(t-2)+x(t-3)+x(t-5)+x(t-6), B = x(t)+x(t-1)+x(t-2)+x(t-3)+x(t-6), mod 2": u k is x(t-k)
abbrev pub sum_a : (u : ℕ → ℕ) → ℕ
sum_a u = (u 0 + u 2 + u 3 + u 5 + u 6) % 2

abbrev pub sum_b : (u : ℕ → ℕ) → ℕ
sum_b u = (u 0 + u 1 + u 2 + u 3 + u 6) % 2

-- "Bit d goes to encoder d mod NES. Each starts at zero": step t of encoder j takes bit NES·t + j; what it got k steps before step t
unfoldable pub tap : (x : ℕ → ℕ) (encoders j t k : ℕ) → ℕ
tap x encoders j t k = cond (ltb t k) 0 (x (encoders * (t - k) + j))

-- the same inputs on one line, with six zeros for each encoder before the first
unfoldable pub with_history : (x : ℕ → ℕ) (encoders e : ℕ) → ℕ
with_history x encoders e = cond (ltb e (6 * encoders)) 0 (x (e - 6 * encoders))

-- what encoder j got k steps before its step t, off such a line from any symbol's first place on
abbrev pub line_tap : (line : ℕ → ℕ) (encoders j t k : ℕ) → ℕ
line_tap line encoders j t k = line (encoders * (t + 6 - k) + j)
