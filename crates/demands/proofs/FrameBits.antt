-- Payload bytes and their bits, and which of the encoders' inputs two frames share. Assumes nothing.
use mathlib.Core.Path.{◌≡◌, ◌∙◌, sym, ap}
use mathlib.Core.Bool.{Bool}
use mathlib.Core.List.{List}
use mathlib.Core.Logic.{⊎_elim}
use Prim.Native.Nat.{ℕ, ◌+◌, ◌-◌, ◌*◌, ◌/◌, ◌%◌, ◌^◌, ◌<◌, ◌≤◌}
use native.Mathlib.Omega.{arith}
use borrow.Author.Tests.{eqb-true, eqb-false}
use lib.Dec.{eqb}
use lib.ListN.{get_or}
use Rattle.laws.proofs.Search.{AllBelow, FirstFailing, search_below}
use Rattle.chain.specs.DataBits.{payload_bit, payload_end}
use Rattle.chain.specs.Scrambler.{scrambler_bit}
use Rattle.chain.specs.Statements.{AgreeAt}
use Rattle.chain.proofs.InputLaws.{payload_bit_lem, input_local, input_payload, input_service, input_bit}
use Rattle.chain.proofs.ScramblerLaws.{scrambler_bit_lem, seed_told}
use Rattle.settings.specs.declared.settings.Settings.{Settings}
use Rattle.settings.specs.Settings.{plan_for}
use Rattle.frame.specs.Points.{input_of}
use Rattle.assembler.proofs.Packing.{packed_ext}
use Rattle.reader_runs.proofs.Payloads.{byte_bits, bit_of_lem}
use Rattle.demands.specs.Frames.{AgreeWhereLooked}

-- bytes with the same bits are equal
pub byte_told : (a c : ℕ) → a < 256 → c < 256 → ((b : ℕ) → b < 8 → a / 2 ^ b % 2 ≡ c / 2 ^ b % 2) → a ≡ c
byte_told a c h k same =
    sym (byte_bits a h) ∙ packed_ext (λ b. a / 2 ^ b % 2) (λ b. c / 2 ^ b % 2) 0 8 (λ b l. same (0 + b) (omega (arith, l))) ∙ byte_bits c k

-- payloads that agree on a byte agree on its bits
pub bit_same : (p q : List ℕ) (k : ℕ) → get_or p (k / 8) 0 ≡ get_or q (k / 8) 0 → payload_bit p k ≡ payload_bit q k
bit_same p q k e = ap (λ (a : ℕ). a / 2 ^ (k % 8) % 2) e

-- whether bit k of two payloads is the same
abbrev bits_alike : (p q : List ℕ) → ℕ → Bool
bits_alike p q k = eqb (payload_bit p k) (payload_bit q k)

-- the lowest bit at which two payloads of so many bytes differ
pub record FirstBit (p q : List ℕ) (bytes : ℕ) : Type 0 where
  pub at : ℕ
  pub inside : at < 8 * bytes
  pub apart : payload_bit p at ≡ payload_bit q at → ⊥
  pub lower : (k : ℕ) → k < at → payload_bit p k ≡ payload_bit q k

-- it is there where a byte differs
pub first_bit_lem : (p q : List ℕ) (bytes j : ℕ) → j < bytes → get_or p j 0 < 256 → get_or q j 0 < 256 → (get_or p j 0 ≡ get_or q j 0 → ⊥) → FirstBit p q bytes
first_bit_lem p q bytes j h bp bq apart = ⊎_elim none found (search_below (bits_alike p q) (8 * bytes))
  where
    none : AllBelow (bits_alike p q) (8 * bytes) → FirstBit p q bytes
    none all =
        absurd (apart (byte_told (get_or p j 0) (get_or q j 0) bp bq (λ b l.
        sym (bit_of_lem p j b l) ∙ eqb-true (payload_bit p (8 * j + b)) (payload_bit q (8 * j + b)) (all (8 * j + b) (omega arith)) ∙ bit_of_lem q j b l)))

    found : FirstFailing (bits_alike p q) (8 * bytes) → FirstBit p q bytes
    found f = record {
      at = f.at;
      inside = f.below;
      apart = eqb-false (payload_bit p f.at) (payload_bit q f.at) f.fails;
      lower = λ k l. eqb-true (payload_bit p k) (payload_bit q k) (f.passed k l);
    }

-- ---- the encoders' inputs of two frames

-- an input is a bit
pub frame_bit : (s : Settings) (p : List ℕ) (d : ℕ) → input_of s p d < 2
frame_bit s p d = input_bit (payload_bit p) s.length (plan_for s).encoders (scrambler_bit s.seed d) d

-- an input depends on one payload bit at most
pub frame_local : (s : Settings) (p q : List ℕ) (d : ℕ) → (16 ≤ d → d < payload_end s.length → payload_bit p (d - 16) ≡ payload_bit q (d - 16))
    → input_of s p d ≡ input_of s q d
frame_local s p q d e = input_local (payload_bit p) (payload_bit q) s.length (plan_for s).encoders (scrambler_bit s.seed d) d e

-- payloads that agree on every byte that symbol n looks at have the same inputs where it looks
pub agree_at : (s : Settings) (n : ℕ) (p q : List ℕ) → AgreeWhereLooked s n p q → AgreeAt (plan_for s) (input_of s p) (input_of s q) n
agree_at s n p q agree d low high =
    frame_local s p q d (λ h l. bit_same p q (d - 16) (agree ((d - 16) / 8) ((d - 16) % 8) (omega arith) (omega arith)
    (let e : 16 + 8 * ((d - 16) / 8) + (d - 16) % 8 ≡ d = omega arith in (omega arith, omega arith))))

-- the inputs differ at a payload bit that differs
pub input_apart : (s : Settings) (p q : List ℕ) (d : ℕ) → 16 ≤ d → d < payload_end s.length → (payload_bit p (d - 16) ≡ payload_bit q (d - 16) → ⊥)
    → input_of s p d ≡ input_of s q d → ⊥
input_apart s p q d h l apart e =
    let o : ℕ = scrambler_bit s.seed d in
    let a = input_payload (payload_bit p) s.length (plan_for s).encoders o d h l in
    let b = input_payload (payload_bit q) s.length (plan_for s).encoders o d h l in
    apart (told (payload_bit p (d - 16)) (payload_bit q (d - 16)) o (payload_bit_lem p (d - 16)) (payload_bit_lem q (d - 16)) (sym a ∙ e ∙ b))
  where
    told : (u v o : ℕ) → u < 2 → v < 2 → (u + o) % 2 ≡ (v + o) % 2 → u ≡ v
    told u v o hu hv e = omega (arith, e)

-- ---- two seeds

-- the scramblers' outputs of unequal seeds differ among the first seven
pub record FirstOutput (s s' : ℕ) : Type 0 where
  pub at : ℕ
  pub early : at < 7
  pub apart : scrambler_bit s at ≡ scrambler_bit s' at → ⊥

pub first_output : (s s' : ℕ) → s < 128 → s' < 128 → (s ≡ s' → ⊥) → FirstOutput s s'
first_output s s' h h' apart = ⊎_elim none found (search_below alike 7)
  where
    alike : ℕ → Bool
    alike k = eqb (scrambler_bit s k) (scrambler_bit s' k)

    none : AllBelow alike 7 → FirstOutput s s'
    none all = absurd (apart (seed_told s s' h h' (λ k l. eqb-true (scrambler_bit s k) (scrambler_bit s' k) (all k l))))

    found : FirstFailing alike 7 → FirstOutput s s'
    found f = record { at = f.at; early = f.below; apart = eqb-false (scrambler_bit s f.at) (scrambler_bit s' f.at) f.fails }

-- and so do the inputs of frames of those seeds, whatever their payloads
pub service_apart : (s s' : Settings) (p q : List ℕ) (d : ℕ) → d < 16 → (scrambler_bit s.seed d ≡ scrambler_bit s'.seed d → ⊥)
    → input_of s p d ≡ input_of s' q d → ⊥
service_apart s s' p q d h apart e =
    let o : ℕ = scrambler_bit s.seed d in
    let o' : ℕ = scrambler_bit s'.seed d in
    let a = input_service (payload_bit p) s.length (plan_for s).encoders o d h in
    let b = input_service (payload_bit q) s'.length (plan_for s').encoders o' d h in
    apart (told o o' (scrambler_bit_lem s.seed d) (scrambler_bit_lem s'.seed d) (sym a ∙ e ∙ b))
  where
    told : (u v : ℕ) → u < 2 → v < 2 → u % 2 ≡ v % 2 → u ≡ v
    told u v hu hv e = omega (arith, e)
