-- A loop that writes a list at places that are never the same twice, one store a turn. Assumes nothing.
use mathlib.Core.Path.{◌≡◌, refl, sym, ◌∙◌, subst}
use mathlib.Core.List.{List}
use Prim.Native.Nat.{ℕ, ◌+◌, ◌<◌}
use native.Mathlib.Omega.{arith}
use native.Mathlib.Nat.{not-suc-le-zero}
use lib.ListN.{length, get_or, set, length-set}
use lib.Seq.{get_or-set_same, get_or-set_other}
use borrow.Author.Count.{below_more}
use Rattle.laws.specs.Scattered.{Scattered}

module _ {A : Type 0} (z : A) (to : ℕ → ℕ) (val : ℕ → A) where
  -- before the first turn
  pub scatter_none : (d : List A) → Scattered z to val 0 d d
  scatter_none d = record { same = refl; done = λ k h. absurd (not-suc-le-zero h); rest = λ l h. refl }

  -- a turn: the store of `val n` at a place that no earlier turn wrote
  pub scatter_more : (n : ℕ) (d₀ d : List A) → to n < length d₀ → ((k : ℕ) → k < n → to k ≡ to n → ⊥)
      → Scattered z to val n d₀ d → Scattered z to val (n + 1) d₀ (set d (to n) (val n))
  scatter_more n d₀ d h apart s = record {
    same = length-set d (to n) (val n) ∙ s.same;
    done = below_more (λ (k : ℕ). get_or (set d (to n) (val n)) (to k) z ≡ val k) n
        (λ k hk. get_or-set_other d (to n) (to k) (val n) z (apart k hk) ∙ s.done k hk)
        (get_or-set_same d (to n) (val n) z (subst (λ (m : ℕ). to n < m) (sym s.same) h));
    rest = λ l away. get_or-set_other d (to n) l (val n) z (away n (omega arith)) ∙ s.rest l (λ k hk. away k (omega arith));
  }
