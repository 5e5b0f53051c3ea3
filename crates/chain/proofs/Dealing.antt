-- The inverse of all the encoders of a symbol: the check passes exactly when some inputs give the kept bits, and they are the forced ones.
-- Assumes nothing.
use mathlib.Core.Path.{◌≡◌, ◌∙◌, refl, sym, ap, ap₂}
use Prim.Native.Nat.{ℕ, zero, suc, ◌+◌, ◌-◌, ◌*◌, ◌/◌, ◌%◌, ◌<◌, ◌≤◌}
use native.Mathlib.Nat.{mod-lt, div-add-mod, mul_comm, mul-le-mul_left, mul-suc, div-lt_iff_lt-mul}
use native.Mathlib.Omega.{arith}
use lib.Dec.{T, eqb→eq}
use Rattle.laws.specs.Test.{below_at, below_of}
use Rattle.laws.proofs.Reflect.{eqb_of}
use Rattle.laws.proofs.Radix.{rem_of, quot_of}
use Rattle.chain.specs.Puncture.{kept_step}
use Rattle.chain.specs.Decoder.{history_with, history_after, sum_after, coded_after, forced_input, dealt, inputs_of, checks}
use Rattle.chain.proofs.Inverse.{forced_back, check_back, forced_gives, sum_bit}

-- only the inputs so far count for a history
pub history_ext : (h : ℕ) (x y : ℕ → ℕ) (t : ℕ) → ((s : ℕ) → s < t → x s ≡ y s) → history_after h x t ≡ history_after h y t
unfolding history_after
history_ext h x y zero e = refl
history_ext h x y (suc t) e = ap₂ history_with (history_ext h x y t (λ s l. e s (omega arith))) (e t (omega arith))

-- and for a kept bit
pub coded_ext : (h : ℕ) (x y : ℕ → ℕ) (q i : ℕ) → ((s : ℕ) → s ≤ kept_step q i → x s ≡ y s) → coded_after h x q i ≡ coded_after h y q i
unfolding coded_after
coded_ext h x y q i e = ap₂ (sum_after (i % q)) (history_ext h x y (kept_step q i) (λ s l. e s (omega arith))) (e (kept_step q i) (omega arith))

-- a forced input is a bit
pub forced_bit : (h : ℕ) (c : ℕ → ℕ) (q t : ℕ) → forced_input h c q t < 2
unfolding forced_input
forced_bit h c q t = sum_bit _ _ _

-- and so is each of the symbol's
pub inputs_bit : (hs : ℕ → ℕ) (c : ℕ → ℕ → ℕ) (e q d : ℕ) → inputs_of hs c e q d < 2
unfolding inputs_of
inputs_bit hs c e q d = forced_bit _ _ _ _

-- the inputs X after the histories hs give the kept bits c: bit i of encoder j is c j i
abbrev pub Gives : (hs X : ℕ → ℕ) (c : ℕ → ℕ → ℕ) (encoders kept groups : ℕ) → Type 0
Gives hs X c encoders kept groups = (j i : ℕ) → j < encoders → i < kept * groups → c j i ≡ coded_after (hs j) (dealt X encoders j) kept i

module _ (hs : ℕ → ℕ) (c : ℕ → ℕ → ℕ) (e q n : ℕ) (some : 1 ≤ e) (two : 2 ≤ q) where
  -- what is dealt to an encoder
  deal : (j t : ℕ) → j < e → inputs_of hs c e q (e * t + j) ≡ forced_input (hs j) (c j) q t
  unfolding inputs_of
  deal j t l =
      let f : e * t + j ≡ t * e + j = rw (mul_comm e t) in
      rw (rem_of e t j (e * t + j) l f, quot_of e t j (e * t + j) l f)

  turn_below : (d : ℕ) → d < e * ((q - 1) * n) → d / e < (q - 1) * n
  turn_below d l = (div-lt_iff_lt-mul {k = e} some).1 (rw (mul_comm ((q - 1) * n) e) l)

  -- an encoder's inputs are inputs of the symbol
  pub dealt_below : (j t : ℕ) → j < e → t < (q - 1) * n → e * t + j < e * ((q - 1) * n)
  dealt_below j t l m = omega (arith, rw mul-suc at (mul-le-mul_left e m))

  module _ (X : ℕ → ℕ) (bits : (d : ℕ) → d < e * ((q - 1) * n) → X d < 2) (g : Gives hs X c e q n) where
    bits_of : (j : ℕ) → j < e → (t : ℕ) → t < (q - 1) * n → dealt X e j t < 2
    bits_of j l t m = bits (e * t + j) (dealt_below j t l m)

    -- recovery: the kept bits of inputs X force X
    pub inputs_back : (d : ℕ) → d < e * ((q - 1) * n) → inputs_of hs c e q d ≡ X d
    unfolding inputs_of
    inputs_back d l =
        let j : d % e < e = mod-lt d some in
        forced_back q two (hs (d % e)) (dealt X e (d % e)) (c (d % e)) n (bits_of (d % e) j) (λ i m. g (d % e) i j m) (d / e) (turn_below d l)
        ∙ ap X (div-add-mod d e)

    -- and they pass the check
    pub checks_back : T (checks hs c e q n)
    unfolding checks
    checks_back =
        below_of _ e (λ j l. below_of _ n (λ k m.
        eqb_of _ _ (check_back q two (hs j) (dealt X e j) (c j) n (bits_of j l) (λ i r. g j i l r) k m)))

  -- the converse: kept bits that pass the check are those of the forced inputs
  pub checks_give : ((j i : ℕ) → j < e → i < q * n → c j i < 2) → T (checks hs c e q n) → Gives hs (inputs_of hs c e q) c e q n
  unfolding checks
  checks_give bits t j i l m =
      forced_gives q two (hs j) (c j) n (λ k r. bits j k l r) (λ k r. eqb→eq _ _ (below_at _ n (below_at _ e t j l) k r)) i m
      ∙ coded_ext (hs j) _ _ q i (λ s r. sym (deal j s l))
