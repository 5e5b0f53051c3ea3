-- What the code of the HT-SIG number cites: flags as numbers, fields and the number by their parts. Assumes nothing.
use Rattle.std.proofs.Common.{◌≡◌, refl, Bool, true, false, ℕ, zero, suc, ◌<◌, eqb, arith}
use Rattle.std.specs.Int.{from_bool}
use Rattle.sig_words.specs.declared.words.SigFields.{SigFields}
use Rattle.sig_words.specs.Words.{one_if}

-- a flag as a number: 0 or 1, and it is known from it
pub one_small : (b : Bool) → one_if b < 2
one_small true = omega arith
one_small false = omega arith

pub one_back : (x : ℕ) → x < 2 → one_if (eqb x 1) ≡ x
one_back zero h = refl
one_back (suc zero) h = refl
one_back (suc (suc x)) h = absurd (omega arith)

pub same_fields : {x y : SigFields} → x.width ≡ y.width → x.mcs ≡ y.mcs → x.length ≡ y.length → x.smoothing ≡ y.smoothing
    → x.not_sounding ≡ y.not_sounding → x.aggregation ≡ y.aggregation → x.short_guard ≡ y.short_guard → x ≡ y
same_fields a b c d e f g = λ i. record {
  width = a i;
  mcs = b i;
  length = c i;
  smoothing = d i;
  not_sounding = e i;
  aggregation = f i;
  short_guard = g i;
}

-- a flag as a number, as `u64::from` gives it
pub from_flag : (b : Bool) → from_bool b ≡ one_if b
from_flag true = refl
from_flag false = refl
