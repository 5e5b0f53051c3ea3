-- The test of a data bit, range by range: what it says, and that a frame's own inputs pass it and no others.
use Rattle.std.proofs.Common.{◌≡◌, ◌∙◌, refl, sym, ap₂, subst, true, ◌↔◌, ℕ, zero, suc, ◌+◌, ◌-◌, ◌%◌, ◌<◌, ◌≤◌, arith, T, eqb, eqb→eq}
use borrow.Author.Tests.{lt-ltb, le-ltb}
use Rattle.laws.specs.Test.{both, below_at, below_of}
use Rattle.laws.proofs.Reflect.{T_true, true_T, eqb_of}
use Rattle.chain.specs.DataBits.{payload_end, tail_end, input_with}
use Rattle.chain.proofs.InputLaws.{ranges, input_service, input_payload, input_tail, input_pad}
use Rattle.deframer.specs.Deframed.{input_ok, framed}
use Rattle.deframer.specs.Statements.{RightBit}

module _ (bytes encoders d b a : ℕ) where
  ok_service : d < 16 → input_ok bytes encoders d b a ≡ eqb a 0
  unfolding input_ok
  ok_service h = simp (lt-ltb d 16)

  ok_payload : 16 ≤ d → d < payload_end bytes → input_ok bytes encoders d b a ≡ true
  unfolding input_ok
  ok_payload h k = simp (le-ltb d 16, lt-ltb d (payload_end bytes))

  ok_tail : payload_end bytes ≤ d → d < tail_end bytes encoders → input_ok bytes encoders d b a ≡ eqb b 0
  unfolding input_ok
  ok_tail h k =
      let l : 16 ≤ d = omega arith in
      simp (le-ltb d 16, le-ltb d (payload_end bytes), lt-ltb d (tail_end bytes encoders))

  ok_pad : tail_end bytes encoders ≤ d → input_ok bytes encoders d b a ≡ eqb a 0
  unfolding input_ok
  ok_pad h =
      let l : 16 ≤ d = omega arith in
      let k : payload_end bytes ≤ d = omega arith in
      simp (le-ltb d 16, le-ltb d (payload_end bytes), le-ltb d (tail_end bytes encoders))

  -- a bit that passes is right
  pub ok_right : T (input_ok bytes encoders d b a) → RightBit bytes encoders d b a
  ok_right t = (
    λ h. eqb→eq a 0 (subst T (ok_service h) t),
    λ h k. eqb→eq b 0 (subst T (ok_tail h k) t),
    λ h. eqb→eq a 0 (subst T (ok_pad h) t),
  )

  -- and a right bit passes
  pub right_ok : RightBit bytes encoders d b a → T (input_ok bytes encoders d b a)
  right_ok r =
      ranges bytes encoders d
      (λ h. rw (ok_service h) (eqb_of a 0 (r.0 h)))
      (λ h k. rw (ok_payload h k) tt)
      (λ h k. rw (ok_tail h k) (eqb_of b 0 (r.1 h k)))
      (λ h. rw (ok_pad h) (eqb_of a 0 (r.2 h)))

-- a symbol passes exactly when each of its bits is right
module _ (bytes encoders start count : ℕ) (X P : ℕ → ℕ) where
  pub framed_right : T (framed bytes encoders start count X P) → (d : ℕ) → d < count → RightBit bytes encoders (start + d) (X d) (P d)
  unfolding framed
  framed_right t d h =
      ok_right bytes encoders (start + d) (X d) (P d) (below_at (λ d. input_ok bytes encoders (start + d) (X d) (P d)) count t d h)

  pub right_framed : ((d : ℕ) → d < count → RightBit bytes encoders (start + d) (X d) (P d)) → T (framed bytes encoders start count X P)
  unfolding framed
  right_framed r =
      below_of (λ d. input_ok bytes encoders (start + d) (X d) (P d)) count (λ d h. right_ok bytes encoders (start + d) (X d) (P d) (r d h))

  pub framed_exactly : (framed bytes encoders start count X P ≡ true) ↔ ((d : ℕ) → d < count → RightBit bytes encoders (start + d) (X d) (P d))
  framed_exactly = (λ e. framed_right (true_T (framed bytes encoders start count X P) e), λ r. T_true (framed bytes encoders start count X P) (right_framed r))

-- only a symbol's own inputs and plain bits count
pub framed_ext : (bytes encoders start count : ℕ) (X P X' P' : ℕ → ℕ) → ((d : ℕ) → d < count → X d ≡ X' d) → ((d : ℕ) → d < count → P d ≡ P' d)
    → framed bytes encoders start count X P ≡ framed bytes encoders start count X' P'
unfolding framed
framed_ext bytes encoders start zero X P X' P' e e' = refl
framed_ext bytes encoders start (suc n) X P X' P' e e' =
    ap₂ both
    (ap₂ (λ (b a : ℕ). input_ok bytes encoders (start + n) b a) (e n (omega arith)) (e' n (omega arith)))
    (framed_ext bytes encoders start n X P X' P' (λ d h. e d (omega arith)) (λ d h. e' d (omega arith)))

-- a frame's own input passes
pub input_ok_lem : (v : ℕ → ℕ) (bytes encoders o d : ℕ) → o < 2
    → T (input_ok bytes encoders d (input_with v bytes encoders o d) ((input_with v bytes encoders o d + o) % 2))
input_ok_lem v bytes encoders o d l =
    right_ok bytes encoders d (input_with v bytes encoders o d) ((input_with v bytes encoders o d + o) % 2) (
      λ h. rw (input_service v bytes encoders o d h) (omega arith),
      λ h k. input_tail v bytes encoders o d h k,
      λ h. rw (input_pad v bytes encoders o d h) (omega arith),
    )

-- an input that passes is the one of any payload that has its bit there
pub ok_input : (v : ℕ → ℕ) (bytes encoders o d b : ℕ) → b < 2 → o < 2 → T (input_ok bytes encoders d b ((b + o) % 2))
    → (16 ≤ d → d < payload_end bytes → v (d - 16) ≡ (b + o) % 2) → input_with v bytes encoders o d ≡ b
ok_input v bytes encoders o d b l l' t e =
    let r = ok_right bytes encoders d b ((b + o) % 2) t in
    ranges bytes encoders d
    (λ h. input_service v bytes encoders o d h ∙ omega (arith, r.0 h))
    (λ h k. input_payload v bytes encoders o d h k ∙ omega (arith, e h k))
    (λ h k. input_tail v bytes encoders o d h k ∙ sym (r.1 h k))
    (λ h. input_pad v bytes encoders o d h ∙ omega (arith, r.2 h))
