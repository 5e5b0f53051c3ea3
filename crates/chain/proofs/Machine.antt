-- The machine's kept bits are those of the sums' definition; symbol n is the machine's run from the histories before it.
-- Assumes nothing.
use mathlib.Core.Path.{◌≡◌, ◌∙◌, refl, sym, ap, ap₂}
use mathlib.Core.Bool.{cond}
use mathlib.Core.Logic.{⊎_elim}
use Prim.Native.Nat.{ℕ, zero, suc, zero-le, ◌+◌, ◌-◌, ◌*◌, ◌%◌, ◌<◌, ◌≤◌}
use native.Mathlib.Nat.{mul-add, mul_left_comm, add-suc, sub-zero, add-zero, suc-mul, mod-lt}
use native.Mathlib.Numerals.{add-one}
use native.Mathlib.Omega.{arith}
use lib.Dec.{T, lit≤, eqb}
use borrow.Author.Tests.{lt-ltb, le-ltb}
use Rattle.laws.specs.Test.{among}
use Rattle.laws.proofs.Search.{lt_or_le}
use Rattle.chain.specs.Plan.{kept_counts}
use Rattle.chain.specs.Encoder.{tap}
use Rattle.chain.specs.Puncture.{kept_step, kept_bit}
use Rattle.chain.specs.Decoder.{history_of_taps, history_with, history_after, sum_after, coded_after, dealt}
use Rattle.chain.proofs.Counts.{kept_low}
use Rattle.chain.proofs.KeptLaws.{kept_form, sum_at}
use Rattle.chain.proofs.Window.{shift_place, shift_step}
use Rattle.chain.proofs.History.{history_A, history_B, history_moves}
use Rattle.chain.proofs.Dealing.{history_ext, coded_ext}

module _ (x : ℕ → ℕ) (e j : ℕ) (bits : (d : ℕ) → x d < 2) where
  tap_bit : (t k : ℕ) → tap x e j t k < 2
  unfolding tap
  tap_bit t k = ⊎_elim (λ (b : t < k). simp (lt-ltb t k) (omega arith)) (λ (b : k ≤ t). simp (le-ltb t k) (bits _)) (lt_or_le t k)

  tap_zero : (k : ℕ) → 1 ≤ k → tap x e j 0 k ≡ 0
  unfolding tap
  tap_zero k l = simp (lt-ltb 0 k)

  tap_next : (t k : ℕ) → tap x e j (suc t) (k + 1) ≡ tap x e j t k
  unfolding tap
  tap_next t k =
      ⊎_elim
      (λ (b : t < k). let b' : suc t < k + 1 = omega arith in simp (lt-ltb t k, lt-ltb (suc t) (k + 1)))
      (λ (b : k ≤ t). let b' : k + 1 ≤ suc t = omega arith in
      let f : suc t - (k + 1) ≡ t - k = omega arith in
      simp (le-ltb t k, le-ltb (suc t) (k + 1)) (ap (λ (s : ℕ). x (e * s + j)) f))
      (lt_or_le t k)

  tap_new : (t : ℕ) → tap x e j t 0 ≡ x (e * t + j)
  unfolding tap
  tap_new t = simp (le-ltb t 0 zero-le, sub-zero)

  -- the history from zero is the number of the taps
  pub history_is : (t : ℕ) → history_after 0 (dealt x e j) t ≡ history_of_taps (tap x e j t)
  unfolding history_after
  history_is zero =
      omega (arith, tap_zero 1 (lit≤ tt), tap_zero 2 (lit≤ tt), tap_zero 3 (lit≤ tt), tap_zero 4 (lit≤ tt), tap_zero 5 (lit≤ tt), tap_zero 6 (lit≤ tt))
  history_is (suc t) =
      ap₂ history_with (history_is t) (sym (tap_new t)) ∙ history_moves (tap x e j t) (λ k l. tap_bit t k) (tap x e j (suc t)) (λ k. tap_next t k)

  sum_is : (m t : ℕ) → sum_after m (history_of_taps (tap x e j t)) (tap x e j t 0) ≡ sum_at m (tap x e j t)
  unfolding sum_after
  sum_is m t = ap₂ (cond (eqb (m % 2) 0)) (history_A (tap x e j t) (λ k l. tap_bit t k)) (history_B (tap x e j t) (λ k l. tap_bit t k))

  -- from zero, the machine is the document's encoder
  pub coded_is : (q i : ℕ) → T (among kept_counts q) → coded_after 0 (dealt x e j) q i ≡ kept_bit x e q j i
  unfolding coded_after
  coded_is q i c =
      ap₂ (sum_after (i % q)) (history_is (kept_step q i)) (sym (tap_new (kept_step q i)))
      ∙ sum_is (i % q) (kept_step q i)
      ∙ sym (kept_form (tap x e j) q i c)

-- a history is six bits
pub history_small : (h : ℕ) (x : ℕ → ℕ) (t : ℕ) → h < 64 → history_after h x t < 64
unfolding history_after
history_small h x zero l = l
history_small h x (suc t) l = mod-lt _ (omega arith)

-- the machine goes on from the history before
pub history_on : (h : ℕ) (x : ℕ → ℕ) (a t : ℕ) → history_after h x (a + t) ≡ history_after (history_after h x a) (λ s. x (a + s)) t
unfolding history_after
history_on h x a zero = ap (history_after h x) (add-zero a)
history_on h x a (suc t) = rw add-suc (ap₂ history_with (history_on h x a t) refl)

-- and so do its kept bits, n symbols of g groups on
pub coded_on : (h : ℕ) (x : ℕ → ℕ) (q g n i : ℕ) → 2 ≤ q
    → coded_after h x q (n * (q * g) + i) ≡ coded_after (history_after h x (n * ((q - 1) * g))) (λ s. x (n * ((q - 1) * g) + s)) q i
unfolding coded_after
coded_on h x q g n i two =
    rw (shift_place q g n i, shift_step q g n i two) (ap₂ (sum_after (i % q)) (history_on h x (n * ((q - 1) * g)) (kept_step q i)) refl)

-- the inputs of symbol n, dealt, are the dealt inputs from its first step on
pub deal_on : (e t n j s : ℕ) → n * (e * t) + (e * s + j) ≡ e * (n * t + s) + j
deal_on e t n j s = rw (mul-add, mul_left_comm n e t) (omega arith)

-- symbol n of the document's encoder j is the machine's run on the symbol's inputs, from the history of all inputs before
pub symbol_is : (x : ℕ → ℕ) (e q g n j i : ℕ) → ((d : ℕ) → x d < 2) → T (among kept_counts q)
    → kept_bit x e q j (n * (q * g) + i)
    ≡ coded_after (history_after 0 (dealt x e j) (n * ((q - 1) * g))) (dealt (λ d. x (n * (e * ((q - 1) * g)) + d)) e j) q i
symbol_is x e q g n j i bits c =
    sym (coded_is x e j bits q (n * (q * g) + i) c)
    ∙ coded_on 0 (dealt x e j) q g n i (kept_low q c)
    ∙ coded_ext _ _ _ q i (λ s l. ap x (sym (deal_on e ((q - 1) * g) n j s)))

-- and the histories after it
pub history_after_lem : (x : ℕ → ℕ) (e t n j : ℕ)
    → history_after 0 (dealt x e j) ((n + 1) * t) ≡ history_after (history_after 0 (dealt x e j) (n * t)) (dealt (λ d. x (n * (e * t) + d)) e j) t
history_after_lem x e t n j =
    ap (history_after 0 (dealt x e j)) more
    ∙ history_on 0 (dealt x e j) (n * t) t
    ∙ history_ext _ _ _ t (λ s l. ap x (sym (deal_on e t n j s)))
  where
    more : (n + 1) * t ≡ n * t + t
    more = rw (add-one n, suc-mul) (omega arith)
