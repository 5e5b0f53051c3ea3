-- A list by an index function.
use Rattle.std.specs.Prelude.{List, [], ◌∷◌, ℕ, zero, suc}

-- f 0, .., f (n - 1)
abbrev pub firsts : {A : Type 0} (f : ℕ → A) (n : ℕ) → List A
firsts f zero = []
firsts f (suc n) = f 0 ∷ firsts (λ k. f (suc k)) n
