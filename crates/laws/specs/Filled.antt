-- What a loop that fills a part of a list leaves: from `from` on, n elements are those of an index function; all else is as it was.
use Rattle.std.specs.Prelude.{◌≡◌, List, ℕ, ◌+◌, ◌<◌, ◌≤◌, length, get_or}

-- `d` is `d₀` with `f 0`, .., `f (n - 1)` written from place `from` on; `z` is what `get_or` gives past the end
pub record Filled {A : Type 0} (z : A) (from : ℕ) (f : ℕ → A) (n : ℕ) (d₀ d : List A) : Type 0 where
  pub same : length d ≡ length d₀
  pub done : (i : ℕ) → i < n → get_or d (from + i) z ≡ f i
  pub before : (i : ℕ) → i < from → get_or d i z ≡ get_or d₀ i z
  pub after : (i : ℕ) → from + n ≤ i → get_or d i z ≡ get_or d₀ i z
