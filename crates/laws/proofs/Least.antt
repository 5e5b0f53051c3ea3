-- What a search by `first_from` gives, and a search for a number among the values of a function. Assumes nothing.
use mathlib.Core.Path.{◌≡◌, ◌∙◌, refl, sym, subst}
use mathlib.Core.Bool.{Bool, true, false, cond}
use mathlib.Core.Logic.{◌⊎◌, inl, inr, ⊎_elim}
use Prim.Native.Nat.{ℕ, zero, suc, ◌+◌, ◌<◌, ◌≤◌}
use native.Mathlib.Nat.{eq-or-lt_of_le}
use native.Mathlib.Omega.{arith}
use borrow.Author.Tests.{eqb-true, eq-eqb}
use lib.Dec.{eqb}
use Rattle.laws.specs.Least.{first_from}
use Rattle.laws.proofs.Refusing.{true_not_false}
use Rattle.laws.proofs.Search.{lt_or_le}

-- r is the first of n numbers from k on that passes
pub record Passing (f : ℕ → Bool) (k n r : ℕ) : Type 0 where
  pub from : k ≤ r
  pub below : r < k + n
  pub passes : f r ≡ true
  pub first : (b : ℕ) → k ≤ b → b < r → f b ≡ false

-- none of them passes, and r is k + n
pub record NonePasses (f : ℕ → Bool) (k n r : ℕ) : Type 0 where
  pub beyond : r ≡ k + n
  pub fails : (b : ℕ) → k ≤ b → b < k + n → f b ≡ false

-- a search ends at the first that passes, or beyond the last
pub first_cases : (f : ℕ → Bool) (k n : ℕ) → Passing f k n (first_from f k n) ⊎ NonePasses f k n (first_from f k n)
first_cases f k zero = inr (record { beyond = omega arith; fails = λ b l u. absurd (omega (arith, l, u)) })
first_cases f k (suc n) = go (f k) refl (first_cases f (suc k) n)
  where
    this : f k ≡ false → {e : ℕ} → ((b : ℕ) → suc k ≤ b → b < e → f b ≡ false) → (b : ℕ) → k ≤ b → b < e → f b ≡ false
    this p rest b l u = ⊎_elim (λ e. subst (λ (m : ℕ). f m ≡ false) e p) (λ h. rest b h u) (eq-or-lt_of_le l)

    go : (t : Bool) → f k ≡ t → Passing f (suc k) n (first_from f (suc k) n) ⊎ NonePasses f (suc k) n (first_from f (suc k) n)
        → Passing f k (suc n) (cond t k (first_from f (suc k) n)) ⊎ NonePasses f k (suc n) (cond t k (first_from f (suc k) n))
    go true p more = inl (record { from = omega arith; below = omega arith; passes = p; first = λ b l u. absurd (omega (arith, l, u)) })
    go false p (inl s) =
        inl (record { from = omega (arith, s.from); below = omega (arith, s.below); passes = s.passes; first = this p s.first })
    go false p (inr s) = inr (record { beyond = omega (arith, s.beyond); fails = this p (λ b l u. s.fails b l (omega arith)) })

-- a number is the first to pass where it passes and none before it does
pub first_is : (f : ℕ → Bool) (k n a : ℕ) → k ≤ a → a < k + n → f a ≡ true → ((b : ℕ) → k ≤ b → b < a → f b ≡ false) → first_from f k n ≡ a
first_is f k zero a low high hit none = absurd (omega arith)
first_is f k (suc n) a low high hit none =
    ⊎_elim
    (λ (e : k ≡ a). let t : f k ≡ true = subst (λ (m : ℕ). f m ≡ true) (sym e) hit in simp t e)
    (λ (l : k < a). let t : f k ≡ false = none k (omega arith) l in simp t (first_is f (suc k) n a l (omega arith) hit (λ b h. none b (omega arith))))
    (eq-or-lt_of_le low)

-- a search in which none passes
pub first_none : (f : ℕ → Bool) (k n : ℕ) → ((b : ℕ) → k ≤ b → b < k + n → f b ≡ false) → first_from f k n ≡ k + n
first_none f k n fails =
    ⊎_elim
    (λ (s : Passing f k n (first_from f k n)). absurd (true_not_false (sym s.passes ∙ fails (first_from f k n) s.from s.below)))
    (λ (s : NonePasses f k n (first_from f k n)). s.beyond)
    (first_cases f k n)

-- r is the number below n at which a function has the value v, and n where it has it at none
pub record Found (n : ℕ) (g : ℕ → ℕ) (v r : ℕ) : Type 0 where
  pub told : (l : ℕ) → l < n → v ≡ g l → l ≡ r
  pub shows : r < n → v ≡ g r
  pub most : r ≤ n

-- there is one such number
pub found_is : (n : ℕ) (g : ℕ → ℕ) (v r r' : ℕ) → Found n g v r → Found n g v r' → r ≡ r'
found_is n g v r r' f f' =
    ⊎_elim (λ (h : r < n). f'.told r h (f.shows h))
    (λ (h : n ≤ r). ⊎_elim (λ (h' : r' < n). sym (f.told r' h' (f'.shows h'))) (λ (h' : n ≤ r'). omega (arith, f.most, f'.most)) (lt_or_le r' n))
    (lt_or_le r n)

-- a search finds it, where no two values are the same
pub first_found : (n : ℕ) (g : ℕ → ℕ) (v : ℕ) → ((l l' : ℕ) → l < n → l' < n → g l ≡ g l' → l ≡ l') → Found n g v (first_from (λ l. eqb v (g l)) 0 n)
first_found n g v apart =
    ⊎_elim
    (λ (s : Passing (λ l. eqb v (g l)) 0 n (first_from (λ l. eqb v (g l)) 0 n)).
    let r = first_from (λ l. eqb v (g l)) 0 n in
    let below : r < n = omega (arith, s.below) in
    record {
      told = λ l h e. apart l r h below (sym e ∙ eqb-true v (g r) s.passes);
      shows = λ h. eqb-true v (g r) s.passes;
      most = omega arith;
    })
    (λ (s : NonePasses (λ l. eqb v (g l)) 0 n (first_from (λ l. eqb v (g l)) 0 n)).
    record {
      told = λ l h e. absurd (true_not_false (sym (eq-eqb v (g l) e) ∙ s.fails l (omega arith) (omega arith)));
      shows = λ h. absurd (omega (arith, s.beyond, h));
      most = omega (arith, s.beyond);
    })
    (first_cases (λ l. eqb v (g l)) 0 n)
