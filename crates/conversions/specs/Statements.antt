-- What the number of `ht_sig_read` tells (docs/C-API.md): "mcs + 2^7 · (1 where the width is 40) + 2^8 · length + 2^24 · smoothing
-- + 2^25 · not sounding + 2^26 · aggregation + 2^27 · short guard". The terms are in proofs/FieldsTold.
use Rattle.std.specs.Prelude.{◌≡◌, List, ◌↔◌, ◌⊎◌, ℕ, ◌/◌, ◌%◌, ◌<◌, pos, Ok}
use Rattle.sig_words.specs.declared.words.SigFields.{SigFields}
use Rattle.sig_words.specs.Words.{one_if, SigFits}
use Rattle.signal.specs.HtSig.{read_of}
use Rattle.conversions.specs.Results.{fields_number, read_result}

-- the number has these fields, each at its place, and nothing above them
pub record HasFields (number : ℕ) (g : SigFields) : Type 0 where
  pub mcs : number % 128 ≡ g.mcs
  pub width : (number / 128 % 2 ≡ 1) ↔ (g.width ≡ 40)
  pub length : number / 256 % 65536 ≡ g.length
  pub smoothing : number / 16777216 % 2 ≡ one_if g.smoothing
  pub not_sounding : number / 33554432 % 2 ≡ one_if g.not_sounding
  pub aggregation : number / 67108864 % 2 ≡ one_if g.aggregation
  pub short_guard : number / 134217728 % 2 ≡ one_if g.short_guard
  pub nothing_above : number < 268435456

-- fields that a read can give: an MCS below 128, a length below 65,536, and one of the two widths
abbrev pub Readable : SigFields → Type 0
Readable g = SigFits g × ((g.width ≡ 20) ⊎ (g.width ≡ 40))

abbrev pub FieldsTold : Type 0
FieldsTold = (g : SigFields) → Readable g → HasFields (fields_number g) g

-- so equal numbers have equal fields
abbrev pub OneNumberOneRead : Type 0
OneNumberOneRead = (g h : SigFields) → Readable g → Readable h → fields_number g ≡ fields_number h → g ≡ h

-- of the call's own result: where it is not negative, the bytes were read, and its fields are those that were read
abbrev pub ReadResultTold : Type 0
ReadResultTold = (sig : List ℕ) (number : ℕ) → read_result (read_of sig) ≡ pos number
    → (g : SigFields) × ((read_of sig ≡ Ok g) × (Readable g × HasFields number g))
