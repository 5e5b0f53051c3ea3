-- Symbol windows: a symbol's coded bits are those of its window of the one long line of inputs, and only the window is read.
-- Assumes nothing.
use mathlib.Core.Path.{◌≡◌, ◌∙◌, sym, ap}
use mathlib.Core.Logic.{⊎_elim}
use Prim.Native.Nat.{ℕ, ◌+◌, ◌-◌, ◌*◌, ◌/◌, ◌%◌, ◌<◌, ◌≤◌}
use native.Mathlib.Nat.{mul-suc, mul-add, mul_comm, mul_left_comm, mul-le-mul_left, mul-le-mul_right, mul-add-div, mul-add-mod_self_left}
use native.Mathlib.Omega.{arith}
use lib.Dec.{T}
use borrow.Author.Tests.{lt-ltb, le-ltb}
use Rattle.laws.specs.Test.{among}
use Rattle.laws.proofs.Radix.{quot_of}
use Rattle.laws.proofs.Search.{lt_or_le}
use Rattle.chain.specs.declared.plan.Plan.{Plan}
use Rattle.chain.specs.Plan.{kept_counts, groups_of, Fits}
use Rattle.chain.specs.Encoder.{tap, line_tap, with_history}
use Rattle.chain.specs.Puncture.{kept_step, kept_bit, line_kept}
use Rattle.chain.specs.Labels.{share, coded_bit}
use Rattle.chain.proofs.Counts.{encoders_some, kept_low}
use Rattle.chain.proofs.KeptLaws.{kept_form, kept_ext, sum_ext, step_below}

-- the history is the zeros before the start
line_tap_lem : (x : ℕ → ℕ) (e j t k : ℕ) → j < e → k ≤ 6 → line_tap (with_history x e) e j t k ≡ tap x e j t k
unfolding with_history tap
line_tap_lem x e j t k h l =
    ⊎_elim
    (λ (b : t < k).
    let f : e * (t + 6 - k) + j < 6 * e = omega (arith, rw (mul_comm e 5) at (mul-le-mul_left {m = t + 6 - k} {n = 5} e (omega arith))) in
    simp (lt-ltb t k, lt-ltb (e * (t + 6 - k) + j) (6 * e)))
    (λ (b : k ≤ t).
    let s : t + 6 - k ≡ t - k + 6 = omega arith in
    let g : e * (t + 6 - k) + j ≡ e * (t - k) + j + 6 * e = rw (s, mul-add, mul_comm e 6) (omega arith) in
    let f : 6 * e ≤ e * (t + 6 - k) + j = omega arith in
    simp (le-ltb t k, le-ltb (e * (t + 6 - k) + j) (6 * e)) (ap x (omega arith)))
    (lt_or_le t k)

-- kept bits off the line with six zeros before it are those of the encoder that starts at zero
pub line_kept_lem : (x : ℕ → ℕ) (e q j i : ℕ) → T (among kept_counts q) → j < e → line_kept (with_history x e) e q j i ≡ kept_bit x e q j i
line_kept_lem x e q j i c h = kept_ext _ _ q i c (λ k l. line_tap_lem x e j (kept_step q i) k h l)

-- n symbols of g groups on, a kept bit has the same place in its group
pub shift_place : (q g n i : ℕ) → (n * (q * g) + i) % q ≡ i % q
shift_place q g n i = rw (mul_left_comm n q g) (mul-add-mod_self_left q (n * g) i)

shift_group : (q g n i : ℕ) → 2 ≤ q → (n * (q * g) + i) / q ≡ n * g + i / q
shift_group q g n i two = rw (mul_left_comm n q g) (mul-add-div (omega arith) (n * g) i)

-- and its step is the symbols' steps on
pub shift_step : (q g n i : ℕ) → 2 ≤ q → kept_step q (n * (q * g) + i) ≡ n * ((q - 1) * g) + kept_step q i
unfolding kept_step
shift_step q g n i two = rw (shift_place q g n i, shift_group q g n i two) (rw (mul-add, mul_left_comm (q - 1) n g) (omega arith))

tap_shift : (e t n j s k : ℕ) → k ≤ 6 → n * (e * t) + (e * (s + 6 - k) + j) ≡ e * (n * t + s + 6 - k) + j
tap_shift e t n j s k h =
    let f : n * t + s + 6 - k ≡ n * t + (s + 6 - k) = omega arith in
    rw (f, mul-add, mul_left_comm n e t) (omega arith)

-- the kept bits of the line from n symbols on are the line's own, n symbols on
pub window : (l : ℕ → ℕ) (e q g n j i : ℕ) → T (among kept_counts q)
    → line_kept (λ d. l (n * (e * ((q - 1) * g)) + d)) e q j i ≡ line_kept l e q j (n * (q * g) + i)
window l e q g n j i c =
    kept_form (line_tap (λ d. l (n * (e * ((q - 1) * g)) + d)) e j) q i c
    ∙ rw (shift_place q g n i, shift_step q g n i (kept_low q c))
    (sum_ext (i % q) _ _ (λ k h. ap l (tap_shift e ((q - 1) * g) n j (kept_step q i) k h)))
    ∙ sym (kept_form (line_tap l e j) q (n * (q * g) + i) c)

-- where on the line a sum's inputs stand
pub tap_at : (e s j k : ℕ) → k ≤ 6 → e * (s + 6 - k) + j ≡ e * s + j + (6 - k) * e
tap_at e s j k h =
    let f : s + 6 - k ≡ s + (6 - k) = omega arith in
    rw (f, mul-add, mul_comm e (6 - k)) (omega arith)

-- they are within the line
pub at_below : (e j s n : ℕ) → j < e → s < n → e * s + j + 6 * e < e * n + 6 * e
at_below e j s n h l = omega (arith, rw mul-suc at (mul-le-mul_left e l))

-- only the window is read
pub same_window : (l m : ℕ → ℕ) (e q g j i : ℕ) → T (among kept_counts q) → j < e → i < q * g
    → ((d : ℕ) → d < e * ((q - 1) * g) + 6 * e → l d ≡ m d) → line_kept l e q j i ≡ line_kept m e q j i
same_window l m e q g j i c h r same =
    kept_ext _ _ q i c (λ k b. same _ (
    let s : kept_step q i < (q - 1) * g = step_below q i (kept_low q c) g r in
    let f : e * kept_step q i + j + 6 * e < e * ((q - 1) * g) + 6 * e = at_below e j (kept_step q i) ((q - 1) * g) h s in
    let o : (6 - k) * e ≤ 6 * e = mul-le-mul_right e (omega arith) in
    omega (arith, tap_at e (kept_step q i) j k b)
    ))

quotient : (c e s : ℕ) → 1 ≤ e → c ≡ e * s → c / e ≡ s
quotient c e s h f = quot_of e s 0 c h (f ∙ rw (mul_comm e s) (omega arith))

module _ (p : Plan) (fits : Fits p) where
  -- an encoder's share of a symbol is whole groups
  pub share_is : share p ≡ p.kept * groups_of p
  share_is = quotient p.coded p.encoders (p.kept * groups_of p) (encoders_some p.encoders fits.encoders) fits.coded_groups

  -- symbol n of the frame is a window of the one long code
  pub symbol_window : (x : ℕ → ℕ) (n j y : ℕ) → j < p.encoders
      → line_kept (λ e. with_history x p.encoders (n * p.dbps + e)) p.encoders p.kept j y ≡ coded_bit p x n j y
  unfolding coded_bit
  symbol_window x n j y h =
      rw fits.dbps_groups (window (with_history x p.encoders) p.encoders p.kept (groups_of p) n j y fits.kept)
      ∙ line_kept_lem x p.encoders p.kept j (n * (p.kept * groups_of p) + y) fits.kept h
      ∙ ap (λ (s : ℕ). kept_bit x p.encoders p.kept j (n * s + y)) (sym share_is)

  -- two lines with the same window give the same coded bits of the symbol
  pub window_only : (l m : ℕ → ℕ) → ((d : ℕ) → d < p.dbps + 6 * p.encoders → l d ≡ m d)
      → (j y : ℕ) → j < p.encoders → y < share p → line_kept l p.encoders p.kept j y ≡ line_kept m p.encoders p.kept j y
  window_only l m same j y h r =
      same_window l m p.encoders p.kept (groups_of p) j y fits.kept h (rw share_is at r)
      (λ d b. same d (rw fits.dbps_groups b))
