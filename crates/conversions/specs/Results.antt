-- What the C calls take and return (docs/C-API.md).
use Rattle.std.specs.Prelude.{Bool, cond, not, List, ◌∷◌, ℕ, ◌+◌, ◌*◌, eqb, ltb, length, drop, ℤ, pos, Float, Err, Ok, Result}
use Rattle.laws.specs.Integers.{minus}
use Rattle.settings.specs.declared.settings.RawSettings.{RawSettings}
use Rattle.settings.specs.declared.settings.Refusal.{Refusal}
use Rattle.settings.specs.declared.settings.Refusal.TheVariants.{Room}
use Rattle.sig_words.specs.declared.words.SigFields.{SigFields}
use Rattle.query.specs.declared.query.Carried.{Carried}
use Rattle.query.specs.declared.query.Carried.TheVariants.{Silent, Pilot, Data}
use Rattle.settings.specs.Settings.{number_of}
use Rattle.sig_words.specs.Words.{one_if}

-- a flag is off at 0 and on at any other number
abbrev pub flag_on : ℕ → Bool
flag_on n = not (eqb n 0)

abbrev pub raw_of : (width mcs format length seed smoothing notSounding aggregation shortGuard : ℕ) → RawSettings
raw_of w m f l d s n a g = record {
  width = w;
  mcs = m;
  format = f;
  length = l;
  seed = d;
  smoothing = flag_on s;
  not_sounding = flag_on n;
  aggregation = flag_on a;
  short_guard = flag_on g;
}

-- "the refusal's number negated"
abbrev pub refused_result : Refusal → ℤ
refused_result r = minus (number_of r)

-- "they return the count and 0"
abbrev pub count_result : Result ℕ Refusal → ℤ
count_result (Ok n) = pos n
count_result (Err r) = refused_result r

abbrev pub written_result : Result (Unit {0}) Refusal → ℤ
written_result (Ok tt) = pos 0
written_result (Err r) = refused_result r

-- MCS, then 1 where the width is 40 at bit 7, the length at bit 8, and the four flags from bit 24 on
unfoldable pub fields_number : SigFields → ℕ
fields_number g =
    g.mcs + 128 * one_if (eqb g.width 40) + 256 * g.length
    + 16777216 * (one_if g.smoothing + 2 * one_if g.not_sounding + 4 * one_if g.aggregation + 8 * one_if g.short_guard)

abbrev pub read_result : Result SigFields Refusal → ℤ
read_result (Ok g) = pos (fields_number g)
read_result (Err r) = refused_result r

-- the number of floats written
abbrev pub points_result : Result ℕ Refusal → ℤ
points_result (Ok n) = pos n
points_result (Err r) = refused_result r

-- 0 silent, 1 a pilot, 2 a data point, and what of it is written
abbrev pub carried_number : Carried → ℕ
carried_number Silent = 0
carried_number (Pilot sign) = 1
carried_number (Data p) = 2

abbrev pub carried_into : Carried → List Float → List Float
carried_into Silent l = l
carried_into (Pilot sign) l = sign ∷ drop 1 l
carried_into (Data p) l = p.first ∷ (p.second ∷ drop 2 l)

-- the question's refusals, then 8 where there is no room for two floats, whatever the answer
abbrev pub carrier_result : Result Carried Refusal → (room : ℕ) → ℤ
carrier_result (Ok c) room = cond (ltb room 2) (refused_result Room) (pos (carried_number c))
carrier_result (Err r) room = refused_result r

abbrev pub carrier_into : Result Carried Refusal → List Float → List Float
carrier_into (Ok c) l = cond (ltb (length l) 2) l (carried_into c l)
carrier_into (Err r) l = l
