-- Bounded search: a test passes at every number below n, or fails at a first one. Assumes nothing.
use mathlib.Core.Path.{◌≡◌, refl, sym, subst}
use mathlib.Core.Bool.{Bool, true, false}
use mathlib.Core.Logic.{◌⊎◌, inl, inr, ⊎_elim}
use Prim.Native.Nat.{ℕ, zero, suc, ◌<◌, ◌≤◌}
use native.Mathlib.Decide.{dec_lt}
use native.Mathlib.Nat.{not-suc-le-zero, eq-or-lt_of_le, le_of_suc-le-suc}
use native.Mathlib.Omega.{arith}

-- a number is below another, or it is not
pub lt_or_le : (a b : ℕ) → (a < b) ⊎ (b ≤ a)
lt_or_le a b = elim (dec_lt a b) [ yes h ↦ inl h | no h ↦ inr (omega arith) ]

-- a number that is not 0 is above it
pub above : (n : ℕ) → (n ≡ 0 → ⊥) → 0 < n
above zero h = absurd (h refl)
above (suc n) h = omega arith

-- a number is in one of the three parts that two others make
pub parts : {P : Type 0} (a b t : ℕ) → (t < a → P) → (a ≤ t → t < b → P) → (b ≤ t → P) → P
parts a b t low middle high =
    ⊎_elim low
    (λ (h : a ≤ t). ⊎_elim (λ (k : t < b). middle h k) high (lt_or_le t b))
    (lt_or_le t a)

abbrev pub AllBelow : (ℕ → Bool) → ℕ → Type 0
AllBelow f n = (k : ℕ) → k < n → f k ≡ true

-- the first number below n at which a test fails
pub record FirstFailing (f : ℕ → Bool) (n : ℕ) : Type 0 where
  pub at : ℕ
  pub below : at < n
  pub fails : f at ≡ false
  pub passed : AllBelow f at

pub search_below : (f : ℕ → Bool) (n : ℕ) → AllBelow f n ⊎ FirstFailing f n
search_below f zero = inl (λ k h. absurd (not-suc-le-zero h))
search_below f (suc n) = ⊎_elim (λ a. go a (f n) refl) (λ (e : FirstFailing f n). inr (later e)) (search_below f n)
  where
    later : FirstFailing f n → FirstFailing f (suc n)
    later e = record { at = e.at; below = omega (arith, e.below); fails = e.fails; passed = e.passed }

    go : AllBelow f n → (b : Bool) → f n ≡ b → AllBelow f (suc n) ⊎ FirstFailing f (suc n)
    go a true p =
        inl (λ k h. ⊎_elim (λ e. subst (λ (m : ℕ). f m ≡ true) (sym e) p) (λ l. a k l) (eq-or-lt_of_le (le_of_suc-le-suc h)))
    go a false p = inr (record { at = n; below = omega arith; fails = p; passed = a })
