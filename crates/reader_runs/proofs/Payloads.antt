-- Payload bytes and their bits: bytes are told by their bits, and the bits of a frame write a payload that gives the same symbols. Assumes nothing.
use mathlib.Core.Path.{◌≡◌, ◌∙◌, refl, sym, ap}
use mathlib.Core.List.{List}
use Prim.Native.Nat.{ℕ, ◌+◌, ◌*◌, ◌/◌, ◌%◌, ◌^◌, ◌<◌, ◌≤◌}
use native.Mathlib.Omega.{arith}
use lib.ListN.{length, get_or, take}
use lib.Seq.{ext_get_or, get_or-take, length-take-le}
use lib.Ieee.{Float}
use Rattle.laws.specs.Bytes.{AreBytes}
use Rattle.laws.specs.Claim.{Claim, ◌is◌, up_to, Holds, sound}
use Rattle.laws.specs.Firsts.{firsts}
use Rattle.laws.proofs.Firsts.{length_firsts, get_d_firsts}
use Rattle.chain.specs.DataBits.{payload_bit}
use Rattle.chain.proofs.InputLaws.{payload_bit_lem}
use Rattle.settings.specs.declared.settings.Settings.{Settings}
use Rattle.settings.specs.Settings.{Right}
use Rattle.assembler.specs.Assembled.{bits_number, byte_of}
use Rattle.assembler.proofs.Packing.{packed_as, packed_small, packed_bit}
use Rattle.reader_state.specs.declared.state.OpenSettings.{OpenSettings}
use Rattle.reader_runs.specs.Sent.{FloatsSent, SentBy}
use Rattle.reader_runs.proofs.Runs.{floats_agree}

-- a byte is the number that its bits write
abbrev byte_claim : Claim
byte_claim = up_to 256 λ a. bits_number (λ b. a / 2 ^ b % 2) 0 8 is a

pub byte_bits : Holds byte_claim
unfolding bits_number
byte_bits = sound byte_claim tt

-- bit b of byte j
pub bit_of_lem : (p : List ℕ) (j b : ℕ) → b < 8 → payload_bit p (8 * j + b) ≡ get_or p j 0 / 2 ^ b % 2
bit_of_lem p j b h =
    let e : (8 * j + b) / 8 ≡ j = omega arith in
    let r : (8 * j + b) % 8 ≡ b = omega arith in
    rw (e, r)

-- a byte back from its bits
pub byte_back : (p : List ℕ) (j : ℕ) → get_or p j 0 < 256 → byte_of (payload_bit p) j ≡ get_or p j 0
byte_back p j h =
    packed_as (payload_bit p) (λ b. get_or p j 0 / 2 ^ b % 2) (8 * j) 0 8
    (λ k l. bit_of_lem p j k l ∙ ap (λ (b : ℕ). get_or p j 0 / 2 ^ b % 2) (omega arith))
    ∙ byte_bits (get_or p j 0) h

-- the first bytes of a payload are those that its bits write
pub first_bytes : (p : List ℕ) (bytes : ℕ) → bytes ≤ length p → AreBytes p → firsts (byte_of (payload_bit p)) bytes ≡ take bytes p
first_bytes p bytes whole small =
    ext_get_or 0 _ _ (length_firsts (byte_of (payload_bit p)) bytes ∙ sym (length-take-le bytes p whole))
    (λ j l.
    let h : j < bytes = omega (arith, l, length_firsts (byte_of (payload_bit p)) bytes) in
    get_d_firsts 0 (byte_of (payload_bit p)) bytes j h ∙ byte_back p j (small j (omega (arith, h, whole))) ∙ sym (get_or-take bytes p j 0 h))

-- the payload of so many bytes that bits write
abbrev pub payload_of : (v : ℕ → ℕ) (bytes : ℕ) → List ℕ
payload_of v bytes = firsts (byte_of v) bytes

module _ (v : ℕ → ℕ) (bits : (k : ℕ) → v k < 2) (bytes : ℕ) where
  pub payload_small : AreBytes (payload_of v bytes)
  payload_small j l =
      let h : j < bytes = omega (arith, l, length_firsts (byte_of v) bytes) in
      rw (get_d_firsts 0 (byte_of v) bytes j h) (packed_small v (8 * j) 8 (λ k u. bits _))

  pub payload_bits : (k : ℕ) → k < 8 * bytes → payload_bit (payload_of v bytes) k ≡ v k
  payload_bits k l =
      let e : 8 * (k / 8) + k % 8 ≡ k = omega arith in
      ap (λ (a : ℕ). a / 2 ^ (k % 8) % 2) (get_d_firsts 0 (byte_of v) bytes (k / 8) (omega arith))
      ∙ packed_bit v (8 * (k / 8)) 8 (λ j u. bits _) (k % 8) (omega arith)
      ∙ ap v e

-- the symbols of a frame's payload bits are those of the payload that they write
pub sent_payload : (s : Settings) → Right s → OpenSettings → (S : ℕ → List Float) (m : ℕ) (f : SentBy s S m)
    → (n : ℕ) → n < m → FloatsSent s (payload_bit (payload_of f.v s.length)) f.seed n (S n)
sent_payload s right o S m f n l =
    floats_agree s right o m f.v f.seed (payload_bit (payload_of f.v s.length)) f.seed
    (record { bits = λ k h. payload_bits f.v f.bits s.length k (omega (arith, h)); seeds = λ h. refl })
    n l (S n) (f.sent n l)

-- symbols of a payload, as a frame of its bits
abbrev pub payload_sent : (s : Settings) (S : ℕ → List Float) (m seed : ℕ) (p : List ℕ) → 1 ≤ seed → seed ≤ 127
    → ((n : ℕ) → n < m → FloatsSent s (payload_bit p) seed n (S n)) → SentBy s S m
payload_sent s S m seed p some most sent =
    record { v = payload_bit p; seed = seed; bits = payload_bit_lem p; seed_some = some; seed_small = omega (arith, most); sent = sent }
