-- Scattered writes: another count, the same places by another name, and one run after another. Assumes nothing.
use mathlib.Core.Path.{◌≡◌, ◌∙◌, sym, ap, subst}
use mathlib.Core.List.{List}
use mathlib.Core.Logic.{⊎_elim}
use Prim.Native.Nat.{ℕ, ◌+◌, ◌-◌, ◌<◌, ◌≤◌}
use native.Mathlib.Omega.{arith}
use lib.ListN.{get_or}
use Rattle.laws.specs.Scattered.{Scattered}
use Rattle.laws.proofs.Search.{lt_or_le}

-- the count by another name, as at the loop's end
pub scatter_end : {A : Type 0} {z : A} {to : ℕ → ℕ} {val : ℕ → A} {n m : ℕ} {d₀ d : List A} → n ≡ m → Scattered z to val n d₀ d → Scattered z to val m d₀ d
scatter_end {z = z} {to = to} {val = val} {d₀ = d₀} {d = d} e s = subst (λ (k : ℕ). Scattered z to val k d₀ d) e s

-- the same places and values by other functions
pub scatter_as : (to to' val val' : ℕ → ℕ) (n : ℕ) (d₀ d : List ℕ) → ((k : ℕ) → k < n → to k ≡ to' k) → ((k : ℕ) → k < n → val k ≡ val' k)
    → Scattered 0 to val n d₀ d → Scattered 0 to' val' n d₀ d
scatter_as to to' val val' n d₀ d places values s = record {
  same = s.same;
  done = λ k l. ap (λ (x : ℕ). get_or d x 0) (sym (places k l)) ∙ s.done k l ∙ values k l;
  rest = λ l away. s.rest l (λ k h e. away k h (e ∙ places k h));
}

-- a run, and then the run after it
pub scatter_join : (to val : ℕ → ℕ) (n m : ℕ) (d₀ d d' : List ℕ) → ((k l : ℕ) → k < l → l < n + m → to k ≡ to l → ⊥)
    → Scattered 0 to val n d₀ d → Scattered 0 (λ k. to (n + k)) (λ k. val (n + k)) m d d' → Scattered 0 to val (n + m) d₀ d'
scatter_join to val n m d₀ d d' apart one two = record {
  same = two.same ∙ one.same;
  done = λ k l. ⊎_elim
      (λ (h : k < n). two.rest (to k) (λ r b. apart k (n + r) (omega arith) (omega arith)) ∙ one.done k h)
      (λ (h : n ≤ k).
      let e : k ≡ n + (k - n) = omega arith in
      ap (λ (x : ℕ). get_or d' (to x) 0) e ∙ two.done (k - n) (omega arith) ∙ ap val (sym e))
      (lt_or_le k n);
  rest = λ l away.
      two.rest l (λ k b. away (n + k) (omega arith))
      ∙ one.rest l (λ k b. away k (omega arith));
}
