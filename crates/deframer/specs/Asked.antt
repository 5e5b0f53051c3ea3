-- What the inner calls of this crate give.
use Rattle.std.specs.Prelude.{◌≡◌, ℕ, ◌*◌, ◌<◌, ◌≤◌}

-- numbers added up from one place to another: zero exactly when all are
pub record Counted (f : ℕ → ℕ) (from to total : ℕ) : Type 0 where
  pub none : total ≡ 0 → (d : ℕ) → from ≤ d → d < to → f d ≡ 0
  pub zero : ((d : ℕ) → from ≤ d → d < to → f d ≡ 0) → total ≡ 0
  pub small : total ≤ 255 * to
