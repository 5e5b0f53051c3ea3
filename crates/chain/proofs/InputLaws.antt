-- Data bits and encoder inputs, range by range: service, payload, tail and pad. Inputs are bits, and each depends on one payload bit at most.
use mathlib.Core.Path.{◌≡◌, ◌∙◌, sym, ap}
use mathlib.Core.List.{List}
use mathlib.Core.Logic.{⊎_elim}
use Prim.Native.Nat.{ℕ, ◌+◌, ◌-◌, ◌*◌, ◌%◌, ◌<◌, ◌≤◌}
use native.Mathlib.Omega.{arith}
use borrow.Author.Tests.{lt-ltb, le-ltb}
use Rattle.laws.proofs.Search.{lt_or_le, parts}
use Rattle.chain.specs.DataBits.{payload_bit, payload_end, tail_end, data_bit, input_with}
use Rattle.chain.specs.Encoder.{with_history}

-- a bit of a payload is a bit
pub payload_bit_lem : (payload : List ℕ) (k : ℕ) → payload_bit payload k < 2
payload_bit_lem payload k = omega arith

-- every number of a data bit is in one of four ranges
pub ranges : {A : Type 0} (bytes encoders d : ℕ) → (d < 16 → A) → (16 ≤ d → d < payload_end bytes → A)
    → (payload_end bytes ≤ d → d < tail_end bytes encoders → A) → (tail_end bytes encoders ≤ d → A) → A
ranges bytes encoders d service payload tail pad =
    parts 16 (payload_end bytes) d service payload
    (λ h. parts (payload_end bytes) (tail_end bytes encoders) d (λ k. absurd (omega arith)) tail pad)

module _ (v : ℕ → ℕ) (bytes d : ℕ) where
  -- data bits of the service field are zero
  pub data_service : d < 16 → data_bit v bytes d ≡ 0
  unfolding data_bit
  data_service h = simp (lt-ltb d 16)

  -- the payload's bits follow
  pub data_payload : 16 ≤ d → d < payload_end bytes → data_bit v bytes d ≡ v (d - 16)
  unfolding data_bit
  data_payload h k = simp (le-ltb d 16, lt-ltb d (payload_end bytes))

  -- from the payload's end on data bits are zero
  pub data_zero : payload_end bytes ≤ d → data_bit v bytes d ≡ 0
  unfolding data_bit
  data_zero h = let k : 16 ≤ d = omega arith in simp (le-ltb d 16, le-ltb d (payload_end bytes))

module _ (v : ℕ → ℕ) (bytes encoders o d : ℕ) where
  -- before the tail an input is its data bit and the scrambler's output together
  pub input_before : d < payload_end bytes → input_with v bytes encoders o d ≡ (data_bit v bytes d + o) % 2
  unfolding input_with
  input_before h = simp (lt-ltb d (payload_end bytes))

  -- in the tail it is zero
  pub input_tail : payload_end bytes ≤ d → d < tail_end bytes encoders → input_with v bytes encoders o d ≡ 0
  unfolding input_with
  input_tail h k = simp (le-ltb d (payload_end bytes), lt-ltb d (tail_end bytes encoders))

  -- after the tail it is again both together
  pub input_after : tail_end bytes encoders ≤ d → input_with v bytes encoders o d ≡ (data_bit v bytes d + o) % 2
  unfolding input_with
  input_after h =
      let k : payload_end bytes ≤ d = omega arith in
      simp (le-ltb d (payload_end bytes), le-ltb d (tail_end bytes encoders))

  -- service: the scrambler's output alone
  pub input_service : d < 16 → input_with v bytes encoders o d ≡ o % 2
  input_service h = input_before (omega arith) ∙ omega (arith, data_service v bytes d h)

  -- payload: its bit and the scrambler's output
  pub input_payload : 16 ≤ d → d < payload_end bytes → input_with v bytes encoders o d ≡ (v (d - 16) + o) % 2
  input_payload h k = input_before k ∙ omega (arith, data_payload v bytes d h k)

  -- pad: the scrambler's output alone
  pub input_pad : tail_end bytes encoders ≤ d → input_with v bytes encoders o d ≡ o % 2
  input_pad h = input_after h ∙ omega (arith, data_zero v bytes d (omega arith))

  -- an input is a bit
  pub input_bit : input_with v bytes encoders o d < 2
  input_bit =
      ranges bytes encoders d
      (λ h. rw (input_service h) (omega arith))
      (λ h k. rw (input_payload h k) (omega arith))
      (λ h k. rw (input_tail h k) (omega arith))
      (λ h. rw (input_pad h) (omega arith))

  -- the payload bit of an input
  pub input_back : 16 ≤ d → d < payload_end bytes → v (d - 16) < 2 → (input_with v bytes encoders o d + o) % 2 ≡ v (d - 16)
  input_back h k l = rw (input_payload h k) (omega arith)

-- only payload bit d - 16 counts
pub input_local : (v w : ℕ → ℕ) (bytes encoders o d : ℕ) → (16 ≤ d → d < payload_end bytes → v (d - 16) ≡ w (d - 16))
    → input_with v bytes encoders o d ≡ input_with w bytes encoders o d
input_local v w bytes encoders o d e =
    ranges bytes encoders d
    (λ h. input_service v bytes encoders o d h ∙ sym (input_service w bytes encoders o d h))
    (λ h k. input_payload v bytes encoders o d h k ∙ ap (λ (b : ℕ). (b + o) % 2) (e h k) ∙ sym (input_payload w bytes encoders o d h k))
    (λ h k. input_tail v bytes encoders o d h k ∙ sym (input_tail w bytes encoders o d h k))
    (λ h. input_pad v bytes encoders o d h ∙ sym (input_pad w bytes encoders o d h))

-- the line of inputs: zeros before the frame's first input
pub line_head : (x : ℕ → ℕ) (encoders e : ℕ) → e < 6 * encoders → with_history x encoders e ≡ 0
unfolding with_history
line_head x encoders e h = simp (lt-ltb e (6 * encoders))

-- the inputs from there on
pub line_on : (x : ℕ → ℕ) (encoders e : ℕ) → 6 * encoders ≤ e → with_history x encoders e ≡ x (e - 6 * encoders)
unfolding with_history
line_on x encoders e h = simp (le-ltb e (6 * encoders))

-- the line of bits is one of bits
pub line_bit : (x : ℕ → ℕ) → ((d : ℕ) → x d < 2) → (encoders e : ℕ) → with_history x encoders e < 2
line_bit x bits encoders e =
    ⊎_elim
    (λ (h : e < 6 * encoders). rw (line_head x encoders e h) (omega arith))
    (λ (h : 6 * encoders ≤ e). rw (line_on x encoders e h) (bits (e - 6 * encoders)))
    (lt_or_le e (6 * encoders))
