-- Puncturing (document 01 step 3; IEEE 802.11, 18.3.5.6 and 20.3.11.6), over the coded bits kept of one encoder step less.
use Rattle.std.specs.Prelude.{cond, List, [], ◌∷◌, ℕ, ◌+◌, ◌-◌, ◌*◌, ◌/◌, ◌%◌, eqb, get_or}
use Rattle.chain.specs.Encoder.{sum_a, sum_b, tap, line_tap}

-- a kept bit: sum A or sum B of a step, counted from the group's first
pub data Kept : Type 0 where
  A B : ℕ → Kept

-- "rate 1/2 A0 B0; 2/3 A0 B0 A1; 3/4 A0 B0 A1 B2; 5/6 A0 B0 A1 B2 A3 B4"
abbrev pub pattern : (kept : ℕ) → List Kept
pattern kept =
    cond (eqb kept 2) (A 0 ∷ B 0 ∷ [])
    (cond (eqb kept 3) (A 0 ∷ B 0 ∷ A 1 ∷ [])
    (cond (eqb kept 4) (A 0 ∷ B 0 ∷ A 1 ∷ B 2 ∷ [])
    (A 0 ∷ B 0 ∷ A 1 ∷ B 2 ∷ A 3 ∷ B 4 ∷ [])))

-- the sum, where u t k is the input k steps before step t of the group
abbrev pub sum_of : Kept → (u : ℕ → ℕ → ℕ) → ℕ
sum_of (A t) u = sum_a (u t)
sum_of (B t) u = sum_b (u t)

-- kept bit i of an encoder that got u t k at k steps before step t: each group of kept - 1 steps gives the bits of the pattern
unfoldable pub kept_of : (u : ℕ → ℕ → ℕ) (kept i : ℕ) → ℕ
kept_of u kept i = sum_of (get_or (pattern kept) (i % kept) (A 0)) (λ t. u ((kept - 1) * (i / kept) + t))

-- all four patterns are a prefix of A0 B0 A1 B2 A3 B4, so kept bit i has a closed form: its step is 0, 0, 1, 2, .. of its group, and A and B alternate
unfoldable pub kept_step : (kept i : ℕ) → ℕ
kept_step kept i = (kept - 1) * (i / kept) + (i % kept - 1)

abbrev pub closed_kept : (u : ℕ → ℕ → ℕ) (kept i : ℕ) → ℕ
closed_kept u kept i = cond (eqb (i % kept % 2) 0) (sum_a (u (kept_step kept i))) (sum_b (u (kept_step kept i)))

-- kept bit i of encoder j of the input bits x
abbrev pub kept_bit : (x : ℕ → ℕ) (encoders kept j i : ℕ) → ℕ
kept_bit x encoders kept j i = kept_of (tap x encoders j) kept i

-- the same off a line with the encoders' histories before the inputs
abbrev pub line_kept : (line : ℕ → ℕ) (encoders kept j i : ℕ) → ℕ
line_kept line encoders kept j i = kept_of (line_tap line encoders j) kept i
