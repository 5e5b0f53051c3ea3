-- The HT-SIG field by its bits (document 01, 'Signal bits'; clause 20; CRC: EWC 3.6.3, the figure).
use Rattle.settings.specs.declared.settings.Refusal.{Refusal}
use Rattle.std.specs.Prelude.{◌≡◌, Bool, cond, not, ◌||◌, ◌⊎◌, List, [], ◌∷◌, ◌++◌, ℕ, zero, suc, ◌+◌, ◌-◌, ◌*◌, ◌/◌, ◌%◌, ◌<◌, ltb, eqb, length, take, drop, Err, Ok, Result}
use Rattle.settings.specs.declared.settings.Refusal.TheVariants.{Source, Room, SigCrc, SigForm}
use Rattle.settings.specs.declared.settings.Settings.{Settings}
use Rattle.sig_words.specs.declared.words.SigFields.{SigFields}
use Rattle.settings.specs.Settings.{number_of}
use Rattle.sig_words.specs.Words.{one_if}

-- ---- bits and bytes

-- "low bit of each number first": the k low bits of x
abbrev pub low : ℕ → ℕ → List ℕ
low zero x = []
low (suc k) x = (x % 2) ∷ low k (x / 2)

-- the number whose bits these are, low bit first
abbrev pub value : List ℕ → ℕ
value [] = 0
value (b ∷ bs) = b + 2 * value bs

-- "packed low bit first": n bytes of eight bits each
abbrev pub packed : ℕ → List ℕ → List ℕ
packed zero bs = []
packed (suc n) bs = value (take 8 bs) ∷ packed n (drop 8 bs)

-- ---- the CRC register (EWC 3.6.3, the figure)

-- the eight stages, D^0 to D^7
pub record Register : Type 0 where
  pub d0 : ℕ
  pub d1 : ℕ
  pub d2 : ℕ
  pub d3 : ℕ
  pub d4 : ℕ
  pub d5 : ℕ
  pub d6 : ℕ
  pub d7 : ℕ

-- "register all ones"
abbrev pub ones : Register
ones = record { d0 = 1; d1 = 1; d2 = 1; d3 = 1; d4 = 1; d5 = 1; d6 = 1; d7 = 1 }

-- one shift with G = D^8 + D^2 + D + 1: stage 7 plus the bit goes into stage 0 and is added to what goes into stages 1 and 2
abbrev pub shifted : Register → ℕ → Register
shifted r b =
    let f = (r.d7 + b) % 2 in
    record { d0 = f; d1 = (r.d0 + f) % 2; d2 = (r.d1 + f) % 2; d3 = r.d2; d4 = r.d3; d5 = r.d4; d6 = r.d5; d7 = r.d6 }

abbrev pub shifted_over : Register → List ℕ → Register
shifted_over r [] = r
shifted_over r (b ∷ bs) = shifted_over (shifted r b) bs

-- "result complemented"; the figure "shifts out the D^7 stage first"
abbrev pub sent_out : Register → List ℕ
sent_out r = (1 - r.d7) ∷ (1 - r.d6) ∷ (1 - r.d5) ∷ (1 - r.d4) ∷ (1 - r.d3) ∷ (1 - r.d2) ∷ (1 - r.d1) ∷ (1 - r.d0) ∷ []

abbrev pub crc_bits : List ℕ → List ℕ
crc_bits bits = sent_out (shifted_over ones bits)

-- ---- the field

-- "MCS 7, width 1 (40 = 1), length 16; then smoothing, not sounding, reserved 1, aggregation, STBC 2 bits 0, coding 0, short guard,
-- extension streams 2 bits 0"
unfoldable pub head_bits : SigFields → List ℕ
head_bits g =
    low 7 g.mcs ++ (one_if (eqb g.width 40) ∷ (low 16 g.length
    ++ (one_if g.smoothing ∷ one_if g.not_sounding ∷ 1 ∷ one_if g.aggregation ∷ 0 ∷ 0 ∷ 0 ∷ one_if g.short_guard ∷ 0 ∷ 0 ∷ [])))

-- "CRC 8, tail 6 zeros"
unfoldable pub sig_bits : SigFields → List ℕ
unfolding head_bits
sig_bits g = head_bits g ++ (crc_bits (head_bits g) ++ (0 ∷ 0 ∷ 0 ∷ 0 ∷ 0 ∷ 0 ∷ []))

-- "48 bits, .. packed low bit first in six bytes"
unfoldable pub sig_bytes : SigFields → List ℕ
unfolding sig_bits
sig_bytes g = packed 6 (sig_bits g)

-- what the field says of settings
abbrev pub fields_of : Settings → SigFields
fields_of s = record {
  width = s.width;
  mcs = s.mcs;
  length = s.length;
  smoothing = s.smoothing;
  not_sounding = s.not_sounding;
  aggregation = s.aggregation;
  short_guard = s.short_guard;
}

-- ---- the signal write: the settings' refusals, then 8

abbrev pub written_of : Result Settings Refusal → ℕ → Result (Unit {0}) Refusal
written_of (Ok s) room = cond (ltb room 6) (Err Room) (Ok tt)
written_of (Err r) room = Err r

-- the lent bytes afterwards: six written, the rest as they were; on a refusal all as they were
abbrev pub written_into : Result Settings Refusal → List ℕ → List ℕ
written_into (Ok s) l = cond (ltb (length l) 6) l (sig_bytes (fields_of s) ++ drop 6 l)
written_into (Err r) l = l

-- document 01's number of each case, 0 where the bytes are written
abbrev pub written_number : Result (Unit {0}) Refusal → ℕ
written_number (Ok tt) = 0
written_number (Err r) = number_of r

-- ---- the signal read: 6, 13, 14

-- the bits of bytes, low bit of each first
abbrev pub bits_in : List ℕ → List ℕ
bits_in [] = []
bits_in (b ∷ bs) = low 8 b ++ bits_in bs

-- the number in n bits from bit a on
unfoldable pub field : List ℕ → ℕ → ℕ → ℕ
field bits a n = value (take n (drop a bits))

-- "signal slice not 6 bytes"
abbrev pub SourceRow : List ℕ → Type 0
SourceRow l = length l ≡ 6 → ⊥

-- "CRC wrong": bits 34 to 41 are not the CRC of bits 0 to 33
abbrev pub CrcRow : List ℕ → Type 0
CrcRow l = take 8 (drop 34 (bits_in l)) ≡ crc_bits (take 34 (bits_in l)) → ⊥

unfoldable pub crc_wrong : List ℕ → Bool
unfolding field
crc_wrong bits = not (eqb (field bits 34 8) (value (crc_bits (take 34 bits))))

-- "other bits not as this build writes them, MCS over 31 and length 0 included":
-- MCS, length, reserved bit, STBC, coding, extension streams, tail
abbrev pub FormRow : List ℕ → Type 0
FormRow l =
    (31 < field (bits_in l) 0 7) ⊎ ((field (bits_in l) 8 16 ≡ 0) ⊎ ((field (bits_in l) 26 1 ≡ 1 → ⊥) ⊎ ((field (bits_in l) 28 2 ≡ 0 → ⊥)
    ⊎ ((field (bits_in l) 30 1 ≡ 0 → ⊥) ⊎ ((field (bits_in l) 32 2 ≡ 0 → ⊥) ⊎ (field (bits_in l) 42 6 ≡ 0 → ⊥))))))

unfoldable pub form_wrong : List ℕ → Bool
unfolding field
form_wrong bits =
    ltb 31 (field bits 0 7)
    || (eqb (field bits 8 16) 0
    || (not (eqb (field bits 26 1) 1)
    || (not (eqb (field bits 28 2) 0)
    || (not (eqb (field bits 30 1) 0)
    || (not (eqb (field bits 32 2) 0)
    || not (eqb (field bits 42 6) 0))))))

-- "The signal read returns width, MCS, length and the four flags"
unfoldable pub fields_in : List ℕ → SigFields
unfolding field
fields_in bits = record {
  width = cond (eqb (field bits 7 1) 1) 40 20;
  mcs = field bits 0 7;
  length = field bits 8 16;
  smoothing = eqb (field bits 24 1) 1;
  not_sounding = eqb (field bits 25 1) 1;
  aggregation = eqb (field bits 27 1) 1;
  short_guard = eqb (field bits 31 1) 1;
}

abbrev pub read_of : List ℕ → Result SigFields Refusal
read_of l =
    cond (not (eqb (length l) 6)) (Err Source)
    (cond (crc_wrong (bits_in l)) (Err SigCrc)
    (cond (form_wrong (bits_in l)) (Err SigForm) (Ok (fields_in (bits_in l)))))

-- document 01's number of each case, 0 where the fields are given
abbrev pub read_number : Result SigFields Refusal → ℕ
read_number (Ok g) = 0
read_number (Err r) = number_of r
