-- Settings and refusals 1 to 5 (document 01, 'Settings' and 'Numbered refusals').
use Rattle.std.specs.Prelude.{◌≡◌, Bool, cond, not, ◌||◌, ◌⊎◌, ℕ, ◌<◌, T, ltb, eqb, Err, Ok, Result}
use Rattle.laws.specs.Test.{among}
use Rattle.chain.specs.Plan.{widths, streams_of, plan_of}
use Rattle.chain.specs.declared.plan.Plan.{Plan}
use Rattle.settings.specs.declared.settings.Refusal.{Refusal}
use Rattle.settings.specs.declared.settings.Refusal.TheVariants.{Width, Mcs, Format, Length, Seed, Source, Place, Room, Point, Code, Frame, Closed, SigCrc, SigForm}
use Rattle.settings.specs.declared.settings.RawSettings.{RawSettings}
use Rattle.settings.specs.declared.settings.Settings.{Settings}

-- the table's numbers
abbrev pub number_of : Refusal → ℕ
number_of Width = 1
number_of Mcs = 2
number_of Format = 3
number_of Length = 4
number_of Seed = 5
number_of Source = 6
number_of Place = 7
number_of Room = 8
number_of Point = 9
number_of Code = 10
number_of Frame = 11
number_of Closed = 12
number_of SigCrc = 13
number_of SigForm = 14

-- the rows of refusals 1 to 5, each in the table's words and as the test that decides it

-- "width not 20 or 40"
abbrev pub WidthRow : RawSettings → Type 0
WidthRow a = (a.width ≡ 20 → ⊥) × (a.width ≡ 40 → ⊥)

abbrev pub bad_width : RawSettings → Bool
bad_width a = not (eqb a.width 20 || eqb a.width 40)

-- "MCS over 31"
abbrev pub McsRow : RawSettings → Type 0
McsRow a = 31 < a.mcs

abbrev pub bad_mcs : RawSettings → Bool
bad_mcs a = ltb 31 a.mcs

-- "format over 1"
abbrev pub FormatRow : RawSettings → Type 0
FormatRow a = 1 < a.format

abbrev pub bad_format : RawSettings → Bool
bad_format a = ltb 1 a.format

-- "length 0 or over 65,535"
abbrev pub LengthRow : RawSettings → Type 0
LengthRow a = (a.length ≡ 0) ⊎ (65535 < a.length)

abbrev pub bad_length : RawSettings → Bool
bad_length a = eqb a.length 0 || ltb 65535 a.length

-- "seed 0 or over 127"
abbrev pub SeedRow : RawSettings → Type 0
SeedRow a = (a.seed ≡ 0) ⊎ (127 < a.seed)

abbrev pub bad_seed : RawSettings → Bool
bad_seed a = eqb a.seed 0 || ltb 127 a.seed

-- the settings that the numbers mean
abbrev pub settings_of : RawSettings → Settings
settings_of a = record {
  width = a.width;
  mcs = a.mcs;
  format = a.format;
  length = a.length;
  seed = a.seed;
  smoothing = a.smoothing;
  not_sounding = a.not_sounding;
  aggregation = a.aggregation;
  short_guard = a.short_guard;
}

-- the settings' answer: the first refusal that applies, or the settings
abbrev pub check_of : RawSettings → Result Settings Refusal
check_of a =
    cond (bad_width a) (Err Width)
    (cond (bad_mcs a) (Err Mcs)
    (cond (bad_format a) (Err Format)
    (cond (bad_length a) (Err Length)
    (cond (bad_seed a) (Err Seed) (Ok (settings_of a))))))

-- document 01's number of each case of the answer, 0 where nothing is refused
abbrev pub checked_number : Result Settings Refusal → ℕ
checked_number (Ok s) = 0
checked_number (Err r) = number_of r

-- accepted settings are in these ranges
pub record Right (s : Settings) : Type 0 where
  pub width : T (among widths s.width)
  pub mcs : s.mcs < 32
  pub format : s.format < 2
  pub length_some : 0 < s.length
  pub length_most : s.length < 65536
  pub seed_some : 0 < s.seed
  pub seed_most : s.seed < 128

-- "Encoders NES: 1 for NSS 1 and 2, else 2 (document 001, table 1)"
abbrev pub encoders_of : ℕ → ℕ
encoders_of m = cond (ltb (streams_of m) 3) 1 2

unfoldable pub plan_for : Settings → Plan
plan_for s = plan_of s.width s.mcs (encoders_of s.mcs)
