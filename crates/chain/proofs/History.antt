-- An encoder's history as a number says what its taps say: the sums of both are the same, and one input more is one tap more.
-- Assumes nothing.
use mathlib.Core.Path.{◌≡◌, ◌∙◌}
use Prim.Native.Nat.{ℕ, ◌+◌, ◌*◌, ◌/◌, ◌%◌, ◌<◌, ◌≤◌}
use native.Mathlib.Omega.{arith}
use lib.Dec.{lit≤}
use Rattle.chain.specs.Encoder.{sum_a, sum_b}
use Rattle.chain.specs.Decoder.{history_of_taps, history_with, history_a, history_b}

by2 : (h a r : ℕ) → h ≡ a + 2 * r → a < 2 → h / 2 ≡ r
by2 h a r e l = omega arith

by4 : (h a r : ℕ) → h ≡ a + 4 * r → a < 4 → h / 4 ≡ r
by4 h a r e l = omega arith

by16 : (h a r : ℕ) → h ≡ a + 16 * r → a < 16 → h / 16 ≡ r
by16 h a r e l = omega arith

by32 : (h a r : ℕ) → h ≡ a + 32 * r → a < 32 → h / 32 ≡ r
by32 h a r e l = omega arith

mod64 : (a r q : ℕ) → a ≡ r + 64 * q → r < 64 → a % 64 ≡ r
mod64 a r q e l = omega arith

even : (a b r : ℕ) → a ≡ b + 2 * r → a % 2 ≡ b % 2
even a b r e = omega arith

-- six bits and the number that they write
module _ (b u1 u2 u3 u4 u5 u6 : ℕ) (l1 : u1 < 2) (l2 : u2 < 2) (l3 : u3 < 2) (l4 : u4 < 2) (l5 : u5 < 2) (l6 : u6 < 2) where
  h : ℕ
  h = u1 + 2 * u2 + 4 * u3 + 8 * u4 + 16 * u5 + 32 * u6

  q2 : h / 2 ≡ u2 + 2 * u3 + 4 * u4 + 8 * u5 + 16 * u6
  unfolding h
  q2 = by2 _ u1 _ (omega arith) l1

  q4 : h / 4 ≡ u3 + 2 * u4 + 4 * u5 + 8 * u6
  unfolding h
  q4 = by4 _ (u1 + 2 * u2) _ (omega arith) (omega arith)

  q16 : h / 16 ≡ u5 + 2 * u6
  unfolding h
  q16 = by16 _ (u1 + 2 * u2 + 4 * u3 + 8 * u4) _ (omega arith) (omega arith)

  q32 : h / 32 ≡ u6
  unfolding h
  q32 = by32 _ (u1 + 2 * u2 + 4 * u3 + 8 * u4 + 16 * u5) _ (omega arith) (omega arith)

  same_A : (b + h / 2 + h / 4 + h / 16 + h / 32) % 2 ≡ (b + u2 + u3 + u5 + u6) % 2
  same_A = rw (q2, q4, q16, q32) (even _ _ (u3 + 3 * u4 + 6 * u5 + 13 * u6) (omega arith))

  same_B : (b + h + h / 2 + h / 4 + h / 32) % 2 ≡ (b + u1 + u2 + u3 + u6) % 2
  unfolding h
  same_B = rw (q2, q4, q32) (even _ _ (u2 + 3 * u3 + 7 * u4 + 14 * u5 + 28 * u6) (omega arith))

  moved : b < 2 → (2 * h + b) % 64 ≡ b + 2 * u1 + 4 * u2 + 8 * u3 + 16 * u4 + 32 * u5
  unfolding h
  moved l = mod64 _ _ u6 (omega arith) (omega arith)

module _ (u : ℕ → ℕ) (bit : (k : ℕ) → k ≤ 6 → u k < 2) where
  -- sum A of the history's number is sum A of its taps
  pub history_A : history_a (history_of_taps u) (u 0) ≡ sum_a u
  unfolding h
  history_A =
      same_A (u 0) (u 1) (u 2) (u 3) (u 4) (u 5) (u 6)
      (bit 1 (lit≤ tt)) (bit 2 (lit≤ tt)) (bit 3 (lit≤ tt)) (bit 4 (lit≤ tt)) (bit 5 (lit≤ tt)) (bit 6 (lit≤ tt))

  -- and sum B is sum B
  pub history_B : history_b (history_of_taps u) (u 0) ≡ sum_b u
  unfolding h
  history_B =
      same_B (u 0) (u 1) (u 2) (u 3) (u 4) (u 5) (u 6)
      (bit 1 (lit≤ tt)) (bit 2 (lit≤ tt)) (bit 3 (lit≤ tt)) (bit 4 (lit≤ tt)) (bit 5 (lit≤ tt)) (bit 6 (lit≤ tt))

  -- one step on, where v k is u (k - 1)
  pub history_moves : (v : ℕ → ℕ) → ((k : ℕ) → v (k + 1) ≡ u k) → history_with (history_of_taps u) (u 0) ≡ history_of_taps v
  unfolding h
  history_moves v e =
      moved (u 0) (u 1) (u 2) (u 3) (u 4) (u 5) (u 6)
      (bit 1 (lit≤ tt)) (bit 2 (lit≤ tt)) (bit 3 (lit≤ tt)) (bit 4 (lit≤ tt)) (bit 5 (lit≤ tt)) (bit 6 (lit≤ tt)) (bit 0 (lit≤ tt))
      ∙ cc (e 0, e 1, e 2, e 3, e 4, e 5)
