-- What a loop that scatters leaves after n turns: a list written at the places `to 0`, .., `to (n - 1)`; all else is as it was.
use Rattle.std.specs.Prelude.{◌≡◌, List, ℕ, ◌<◌, length, get_or}

pub record Scattered {A : Type 0} (z : A) (to : ℕ → ℕ) (val : ℕ → A) (n : ℕ) (d₀ d : List A) : Type 0 where
  pub same : length d ≡ length d₀
  pub done : (k : ℕ) → k < n → get_or d (to k) z ≡ val k
  pub rest : (l : ℕ) → ((k : ℕ) → k < n → l ≡ to k → ⊥) → get_or d l z ≡ get_or d₀ l z
