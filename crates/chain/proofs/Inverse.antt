-- One encoder's inverse: kept bits force the inputs, and the first bit of each group checks them.
-- Assumes nothing.
use mathlib.Core.Path.{◌≡◌, ◌∙◌, refl, sym, ap, ap₂, subst}
use mathlib.Core.Logic.{⊎_elim}
use mathlib.Core.Bool.{Bool, true, false, cond}
use Prim.Native.Nat.{ℕ, zero, suc, zero-le, ◌+◌, ◌-◌, ◌*◌, ◌/◌, ◌%◌, ◌<◌, ◌≤◌}
use native.Mathlib.Nat.{mod-lt, div-add-mod, div-add-mod', mul_comm, mul-le-mul_left, mul-suc, eq-or-lt_of_le, div-lt_iff_lt-mul}
use native.Mathlib.Omega.{arith}
use lib.Dec.{eqb}
use Rattle.laws.proofs.Radix.{rem_of, quot_of}
use Rattle.chain.specs.Puncture.{kept_step}
use Rattle.chain.specs.Decoder.{history_with, history_a, history_b, history_after, sum_after, coded_after, forcing_bit, forced_history, forced_input}
use Rattle.chain.proofs.KeptLaws.{step_below}

twice : (b w x y z : ℕ) → ((b + w + x + y + z) % 2 + w + x + y + z) % 2 ≡ b % 2
twice b w x y z = omega arith

-- a sum with its own answer in the input's place gives the input back
pub sum_twice : (m h b : ℕ) → b < 2 → sum_after m h (sum_after m h b) ≡ b
unfolding sum_after
sum_twice m h b l = go (eqb (m % 2) 0) ∙ omega arith
  where
    go : (t : Bool) → cond t (history_a h (cond t (history_a h b) (history_b h b))) (history_b h (cond t (history_a h b) (history_b h b))) ≡ b % 2
    go true = twice b (h / 2) (h / 4) (h / 16) (h / 32)
    go false = twice b h (h / 2) (h / 4) (h / 32)

-- a sum is a bit
pub sum_bit : (m h b : ℕ) → sum_after m h b < 2
unfolding sum_after
sum_bit m h b = go (eqb (m % 2) 0)
  where
    go : (t : Bool) → cond t (history_a h b) (history_b h b) < 2
    go true = mod-lt _ (omega arith)
    go false = mod-lt _ (omega arith)

module _ (q : ℕ) (two : 2 ≤ q) where
  small : (t : ℕ) → t % (q - 1) + 1 < q
  small t = omega (arith, mod-lt t {m = q - 1} (omega arith))

  -- where the forcing bit of step t stands in its group
  pub forcing_place : (t : ℕ) → forcing_bit q t % q ≡ t % (q - 1) + 1
  unfolding forcing_bit
  forcing_place t = rem_of q (t / (q - 1)) (t % (q - 1) + 1) _ (small t) refl

  forcing_group : (t : ℕ) → forcing_bit q t / q ≡ t / (q - 1)
  unfolding forcing_bit
  forcing_group t = quot_of q (t / (q - 1)) (t % (q - 1) + 1) _ (small t) refl

  -- it is a bit of step t
  pub forcing_step : (t : ℕ) → kept_step q (forcing_bit q t) ≡ t
  unfolding kept_step
  forcing_step t = rw (forcing_group t, forcing_place t) (omega (arith, div-add-mod t (q - 1)))

  -- within n groups
  pub forcing_below : (t n : ℕ) → t < (q - 1) * n → forcing_bit q t < q * n
  unfolding forcing_bit
  forcing_below t n h =
      let g : t / (q - 1) < n = (div-lt_iff_lt-mul {k = q - 1} (omega arith)).1 (rw (mul_comm n (q - 1)) h) in
      omega (arith, small t, rw (mul-suc, mul_comm q (t / (q - 1))) at (mul-le-mul_left q g))

  -- a kept bit that is not the first of its group is the forcing bit of its step
  pub forcing_back : (i : ℕ) → 0 < i % q → forcing_bit q (kept_step q i) ≡ i
  unfolding forcing_bit kept_step
  forcing_back i h =
      let l : i % q < q = mod-lt i (omega arith) in
      let s : i % q - 1 < q - 1 = omega arith in
      let e : (q - 1) * (i / q) + (i % q - 1) ≡ i / q * (q - 1) + (i % q - 1) = rw (mul_comm (q - 1) (i / q)) in
      let d : ((q - 1) * (i / q) + (i % q - 1)) / (q - 1) ≡ i / q = quot_of (q - 1) (i / q) (i % q - 1) _ s e in
      let m : ((q - 1) * (i / q) + (i % q - 1)) % (q - 1) ≡ i % q - 1 = rem_of (q - 1) (i / q) (i % q - 1) _ s e in
      rw (d, m) (omega (arith, div-add-mod' i q))

  -- the forced inputs' histories are the machine's own
  pub forced_history_lem : (h : ℕ) (c : ℕ → ℕ) (t : ℕ) → forced_history h c q t ≡ history_after h (forced_input h c q) t
  unfolding forced_history history_after forced_input
  forced_history_lem h c zero = refl
  forced_history_lem h c (suc t) = ap₂ history_with (forced_history_lem h c t) refl

  -- c are the kept bits of n groups of inputs x after history h
  module _ (h : ℕ) (x c : ℕ → ℕ) (n : ℕ) (bits : (t : ℕ) → t < (q - 1) * n → x t < 2) (from : (i : ℕ) → i < q * n → c i ≡ coded_after h x q i) where
    force : (t : ℕ) → t < (q - 1) * n → forced_history h c q t ≡ history_after h x t → forced_input h c q t ≡ x t
    unfolding forced_input coded_after
    force t l e =
        rw (e, from (forcing_bit q t) (forcing_below t n l), forcing_place t, forcing_step t) (sum_twice _ _ _ (bits t l))

    histories : (t : ℕ) → t ≤ (q - 1) * n → forced_history h c q t ≡ history_after h x t
    unfolding forced_history history_after forced_input
    histories zero l = refl
    histories (suc t) l = ap₂ history_with (histories t (omega arith)) (force t l (histories t (omega arith)))

    -- recovery: kept bits of inputs x force x
    pub forced_back : (t : ℕ) → t < (q - 1) * n → forced_input h c q t ≡ x t
    forced_back t l = force t l (histories t (omega arith))

    -- and the check holds
    pub check_back : (g : ℕ) → g < n → c (q * g) ≡ coded_after h (forced_input h c q) q (q * g)
    unfolding coded_after
    check_back g l =
        let k : q * g < q * n = omega (arith, rw mul-suc at (mul-le-mul_left q l)) in
        let s : kept_step q (q * g) < (q - 1) * n = step_below q (q * g) two n k in
        from (q * g) k
        ∙ ap₂ (sum_after (q * g % q))
        (sym (histories (kept_step q (q * g)) (omega arith)) ∙ forced_history_lem h c (kept_step q (q * g)))
        (sym (forced_back (kept_step q (q * g)) s))

  opened : (h : ℕ) (c : ℕ → ℕ) (t : ℕ) → forced_input h c q t ≡ sum_after (t % (q - 1) + 1) (forced_history h c q t) (c (forcing_bit q t))
  unfolding forced_input
  opened h c t = refl

  -- the forced input of a kept bit that is not the first of its group, in that bit's own terms
  forced_of : (h : ℕ) (c : ℕ → ℕ) (i : ℕ) → 0 < i % q
      → forced_input h c q (kept_step q i) ≡ sum_after (i % q) (history_after h (forced_input h c q) (kept_step q i)) (c i)
  forced_of h c i p =
      let b : forcing_bit q (kept_step q i) ≡ i = forcing_back i p in
      let m : kept_step q i % (q - 1) + 1 ≡ i % q = sym (forcing_place (kept_step q i)) ∙ ap (λ (k : ℕ). k % q) b in
      opened h c (kept_step q i) ∙ rw (m, b, forced_history_lem h c (kept_step q i))

  forced_other : (h : ℕ) (c : ℕ → ℕ) (i : ℕ) → 0 < i % q → c i < 2
      → c i ≡ sum_after (i % q) (history_after h (forced_input h c q) (kept_step q i)) (forced_input h c q (kept_step q i))
  forced_other h c i p l =
      sym (ap (sum_after (i % q) (history_after h (forced_input h c q) (kept_step q i))) (forced_of h c i p) ∙ sum_twice _ _ _ l)

  -- the converse: where the check holds, the kept bits are those of the forced inputs
  pub forced_gives : (h : ℕ) (c : ℕ → ℕ) (n : ℕ) → ((i : ℕ) → i < q * n → c i < 2)
      → ((g : ℕ) → g < n → c (q * g) ≡ coded_after h (forced_input h c q) q (q * g))
      → (i : ℕ) → i < q * n → c i ≡ coded_after h (forced_input h c q) q i
  unfolding coded_after
  forced_gives h c n bits check i l =
      ⊎_elim
      (λ (e : 0 ≡ i % q).
      let f : i ≡ q * (i / q) = omega (arith, div-add-mod i q) in
      let g : i / q < n = (div-lt_iff_lt-mul {k = q} (omega arith)).1 (rw (mul_comm n q) l) in
      subst (λ (k : ℕ). c k ≡ sum_after (k % q) (history_after h (forced_input h c q) (kept_step q k)) (forced_input h c q (kept_step q k)))
      (sym f)
      (check (i / q) g))
      (λ (p : 0 < i % q). forced_other h c i p (bits i l))
      (eq-or-lt_of_le zero-le)
