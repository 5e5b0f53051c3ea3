-- The count of wrong first bits, group by group.
-- Assumes nothing.
use mathlib.Core.Path.{◌≡◌, ◌∙◌, refl, sym, ap, ap₂, subst}
use mathlib.Core.Logic.{⊎_elim}
use mathlib.Core.Bool.{Bool, true, false, not}
use mir.Val.{bool_byte}
use lib.Dec.{eqb}
use Prim.Native.Nat.{ℕ, ◌+◌, ◌-◌, ◌*◌, ◌%◌, ◌<◌, ◌≤◌}
use native.Mathlib.Nat.{not-suc-le-zero, eq-or-lt_of_le, mul_comm}
use native.Mathlib.Decide.{ℕ_discrete}
use native.Mathlib.Omega.{arith}
use borrow.Author.Tests.{eq-eqb, ne_eqb}
use Rattle.laws.proofs.Radix.{rem_of, quot_of}
use Rattle.chain.specs.Puncture.{kept_step}
use Rattle.chain.specs.Decoder.{sum_after, coded_after, forcing_bit, forced_history, forced_input}
use Rattle.chain.proofs.Inverse.{forced_history_lem}
use Rattle.forcing.specs.Asked.{Tally}

module _ (h : ℕ) (c : ℕ → ℕ) (q : ℕ) (two : 2 ≤ q) where
  pub tally_none : Tally h c q 0 0
  tally_none = record { sound = λ e g l. absurd (not-suc-le-zero l); full = λ e. refl; few = omega arith }

  -- the first step of group g
  first_rem : (g : ℕ) → (q - 1) * g % (q - 1) ≡ 0
  first_rem g = rem_of (q - 1) g 0 _ (omega arith) (rw (mul_comm (q - 1) g) (omega arith))

  first_at : (g : ℕ) → forcing_bit q ((q - 1) * g) ≡ q * g + 1
  unfolding forcing_bit
  first_at g = rw (first_rem g, quot_of (q - 1) g 0 ((q - 1) * g) (omega arith) (rw (mul_comm (q - 1) g) (omega arith)), mul_comm g q) (omega arith)

  first_step : (g : ℕ) → kept_step q (q * g) ≡ (q - 1) * g
  unfolding kept_step
  first_step g =
      rw (rem_of q g 0 (q * g) (omega arith) (rw (mul_comm q g) (omega arith)), quot_of q g 0 (q * g) (omega arith) (rw (mul_comm q g) (omega arith))) (omega arith)

  -- the group's first coded bit, and its first input
  first_coded : (g : ℕ) → coded_after h (forced_input h c q) q (q * g) ≡ sum_after 0 (forced_history h c q ((q - 1) * g)) (forced_input h c q ((q - 1) * g))
  unfolding coded_after
  first_coded g =
      rw (first_step g, rem_of q g 0 (q * g) (omega arith) (rw (mul_comm q g) (omega arith)))
      (ap (λ (z : ℕ). sum_after 0 z (forced_input h c q ((q - 1) * g))) (sym (forced_history_lem q two h c ((q - 1) * g))))

  first_input : (g : ℕ) → forced_input h c q ((q - 1) * g) ≡ sum_after 1 (forced_history h c q ((q - 1) * g)) (c (q * g + 1))
  unfolding forced_input
  first_input g = rw (first_rem g, first_at g)

  -- what the code compares with
  checked : (g x b a : ℕ) → x ≡ forced_history h c q ((q - 1) * g) → b ≡ sum_after 1 x (c (q * g + 1)) → a ≡ sum_after 0 x b
      → a ≡ coded_after h (forced_input h c q) q (q * g)
  checked g x b a ex eb ea =
      ea ∙ ap₂ (sum_after 0) ex (eb ∙ ap (λ (z : ℕ). sum_after 1 z (c (q * g + 1))) ex ∙ sym (first_input g)) ∙ sym (first_coded g)

  -- one group more: w is 1 where its first bit is not the forced inputs'
  pub tally_more : (g bad w x b a : ℕ) → Tally h c q g bad → x ≡ forced_history h c q ((q - 1) * g) → b ≡ sum_after 1 x (c (q * g + 1))
      → a ≡ sum_after 0 x b → w ≡ bool_byte (not (eqb (c (q * g)) a)) → Tally h c q (g + 1) (bad + w)
  tally_more g bad w x b a y ex eb ea counts =
      let same : a ≡ coded_after h (forced_input h c q) q (q * g) = checked g x b a ex eb ea in
      let few : w ≤ 1 = omega (arith, counts, byte_few (not (eqb (c (q * g)) a))) in
      record {
        sound = λ z k l. ⊎_elim
            (λ (i : k ≡ g).
            subst (λ (n : ℕ). c (q * n) ≡ coded_after h (forced_input h c q) q (q * n)) (sym i)
            (differ_none (c (q * g)) a (omega (arith, z, counts)) ∙ same))
            (λ (i : k < g). y.sound (omega (arith, z)) k i)
            (eq-or-lt_of_le (omega arith));
        full = λ r.
            let past : bad ≡ 0 = y.full (λ k l. r k (omega arith)) in
            let new : w ≡ 0 = counts ∙ differ_same (c (q * g)) a (r g (omega arith) ∙ sym same) in
            omega arith;
        few = omega (arith, y.few);
      }
    where
      byte_few : (t : Bool) → bool_byte t ≤ 1
      byte_few true = omega arith
      byte_few false = omega arith

      differ_none : (a b : ℕ) → bool_byte (not (eqb a b)) ≡ 0 → a ≡ b
      differ_none a b e =
          elim (ℕ_discrete a b)
          [ yes same ↦ same | no apart ↦ absurd (omega (arith, ap (λ (t : Bool). bool_byte (not t)) (ne_eqb a b apart), e)) ]

      differ_same : (a b : ℕ) → a ≡ b → bool_byte (not (eqb a b)) ≡ 0
      differ_same a b e = simp (eq-eqb a b e)
