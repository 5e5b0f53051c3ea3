-- The steps of a group, one after another, and group after group: the forced inputs, and the history after them.
-- Assumes nothing.
use mathlib.Core.Path.{◌≡◌, ◌∙◌, refl, sym, ap, ap₂, subst}
use mathlib.Core.List.{List}
use Prim.Native.Nat.{ℕ, zero, suc, ◌+◌, ◌-◌, ◌*◌, ◌/◌, ◌%◌, ◌<◌, ◌≤◌}
use native.Mathlib.Nat.{mod-lt, add-zero, add-suc, div-add-mod', mul-le-mul_left, mul-suc}
use native.Mathlib.Numerals.{add-one}
use native.Mathlib.Omega.{arith}
use lib.ListN.{length, set}
use Rattle.laws.specs.Scattered.{Scattered}
use Rattle.laws.proofs.Radix.{rem_of, quot_of}
use Rattle.laws.proofs.Scattering.{scatter_none, scatter_more}
use Rattle.chain.specs.Decoder.{sum_after, forcing_bit, forced_push, forced_history, forced_input}
use Rattle.deinterleaver.proofs.ScatterLaws.{scatter_end, scatter_as, scatter_join}
use Rattle.forcing.specs.Asked.{StepDone, Part}

-- a store in steps of the number of encoders
stride_apart : (e first k n : ℕ) → 1 ≤ e → k < n → e * k + first ≡ e * n + first → ⊥
stride_apart e first k n some h same = omega (arith, same, rw mul-suc at (mul-le-mul_left {m = suc k} {n = n} e h))

module _ (h : ℕ) (c : ℕ → ℕ) (q e first : ℕ) where
  -- before the first step
  pub part_none : (d : List ℕ) → h < 64 → Part h c q e first 0 h d d
  unfolding forced_history
  part_none d small = record { moved = refl; small = small; forced = scatter_none _ _ _ _ }

  -- step t of the first group, at place t + 1 of the pattern
  first_rem : (t : ℕ) → t + 1 < q → t % (q - 1) ≡ t
  first_rem t l = rem_of (q - 1) 0 t t (omega arith) (omega arith)

  first_bit_lem : (t : ℕ) → t + 1 < q → forcing_bit q t ≡ t + 1
  unfolding forcing_bit
  first_bit_lem t l = rw (first_rem t l, quot_of (q - 1) 0 t t (omega arith) (omega arith)) (omega arith)

  first_input : (t g : ℕ) → t + 1 < q → g ≡ forced_history h c q t → sum_after (t + 1) g (c (t + 1)) ≡ forced_input h c q t
  unfolding forced_input
  first_input t g l same = rw (first_rem t l, first_bit_lem t l, same)

  first_moved : (t g : ℕ) → t + 1 < q → g ≡ forced_history h c q t → forced_push (t + 1) (c (t + 1)) g ≡ forced_history h c q (t + 1)
  unfolding forced_history
  first_moved t g l same = rw (add-one t, first_rem t l, first_bit_lem t l, same, ← (add-one t))

  pub part_more : {t g g' to : ℕ} {d₀ d d' : List ℕ} → 1 ≤ e → t + 1 < q → to ≡ e * t + first → e * t + first < length d₀
      → Part h c q e first t g d₀ d → StepDone (t + 1) g (c (t + 1)) to g' d d' → Part h c q e first (t + 1) g' d₀ d'
  part_more {t} {g} {g'} {to} {d₀} {d} {d'} some l there room p s = record {
    moved = s.moved ∙ first_moved t g l p.moved;
    small = s.small;
    forced = subst (λ (z : List ℕ). Scattered 0 (λ k. e * k + first) (λ k. forced_input h c q k) (t + 1) d₀ z)
        (ap₂ (set d) (sym there) (sym (first_input t g l p.moved)) ∙ sym s.written)
        (scatter_more 0 (λ k. e * k + first) (λ k. forced_input h c q k) t d₀ d room (λ k b. stride_apart e first k t some b) p.forced);
  }

-- n groups on: the machine goes on from the history before
module _ (h : ℕ) (c : ℕ → ℕ) (q : ℕ) (two : 2 ≤ q) (n : ℕ) where
  split : (t : ℕ) → (q - 1) * n + t ≡ (n + t / (q - 1)) * (q - 1) + t % (q - 1)
  split t = omega (arith, div-add-mod' t (q - 1))

  on_rem : (t : ℕ) → ((q - 1) * n + t) % (q - 1) ≡ t % (q - 1)
  on_rem t = rem_of (q - 1) (n + t / (q - 1)) (t % (q - 1)) _ (mod-lt t (omega arith)) (split t)

  on_bit : (t : ℕ) → forcing_bit q ((q - 1) * n + t) ≡ q * n + forcing_bit q t
  unfolding forcing_bit
  on_bit t = rw (on_rem t, quot_of (q - 1) (n + t / (q - 1)) (t % (q - 1)) ((q - 1) * n + t) (mod-lt t (omega arith)) (split t)) (omega arith)

  on_history : (t : ℕ) → forced_history h c q ((q - 1) * n + t) ≡ forced_history (forced_history h c q ((q - 1) * n)) (λ k. c (q * n + k)) q t
  unfolding forced_history
  on_history zero = ap (forced_history h c q) (add-zero ((q - 1) * n))
  on_history (suc t) = rw (add-suc ((q - 1) * n) t, on_rem t, on_bit t, on_history t)

  on_input : (t : ℕ) → forced_input h c q ((q - 1) * n + t) ≡ forced_input (forced_history h c q ((q - 1) * n)) (λ k. c (q * n + k)) q t
  unfolding forced_input
  on_input t = rw (on_rem t, on_bit t, on_history t)

  -- one group more
  pub part_on : {e first to g g' : ℕ} {d₀ d d' : List ℕ} → 1 ≤ e → to ≡ e * ((q - 1) * n) + first → Part h c q e first ((q - 1) * n) g d₀ d
      → Part g (λ k. c (q * n + k)) q e to (q - 1) g' d d' → Part h c q e first ((q - 1) * (n + 1)) g' d₀ d'
  part_on {e} {first} {to} {g} {g'} {d₀} {d} {d'} some there past new =
      let more : (q - 1) * n + (q - 1) ≡ (q - 1) * (n + 1) = omega arith in
      record {
        moved = new.moved ∙ ap (λ (x : ℕ). forced_history x (λ k. c (q * n + k)) q (q - 1)) past.moved ∙ sym (on_history (q - 1))
            ∙ ap (forced_history h c q) more;
        small = new.small;
        forced = scatter_end more (scatter_join (λ k. e * k + first) (forced_input h c q) ((q - 1) * n) (q - 1) d₀ d d'
            (λ k l b _. stride_apart e first k l some b) past.forced
            (scatter_as _ (λ k. e * ((q - 1) * n + k) + first) _ (λ k. forced_input h c q ((q - 1) * n + k)) (q - 1) d d'
            (λ k l. omega arith)
            (λ k l. ap (λ (x : ℕ). forced_input x (λ z. c (q * n + z)) q k) past.moved ∙ sym (on_input k)) new.forced));
      }
