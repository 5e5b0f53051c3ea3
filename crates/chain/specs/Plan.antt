-- What a width, an MCS and a number of encoders give (document 01, 'Settings'; EWC table 1).
-- Nothing here says how many encoders a number of streams has: that is a rule of the settings' edition.
use Rattle.std.specs.Prelude.{◌≡◌, cond, List, [], ◌∷◌, ℕ, ◌+◌, ◌-◌, ◌*◌, ◌/◌, ◌%◌, ◌<◌, ◌≤◌, T, eqb, get_or}
use Rattle.laws.specs.Test.{among}
use Rattle.chain.specs.declared.plan.Plan.{Plan}

abbrev pub widths : List ℕ
widths = 20 ∷ 40 ∷ []

abbrev pub encoder_counts : List ℕ
encoder_counts = 1 ∷ 2 ∷ []

abbrev pub stream_counts : List ℕ
stream_counts = 1 ∷ 2 ∷ 3 ∷ 4 ∷ []

abbrev pub bit_counts : List ℕ
bit_counts = 1 ∷ 2 ∷ 4 ∷ 6 ∷ []

-- the bits of one axis of a point
abbrev pub axis_counts : List ℕ
axis_counts = 1 ∷ 2 ∷ 3 ∷ []

-- the rates 1/2, 2/3, 3/4 and 5/6, by the coded bits kept of one encoder step less
abbrev pub kept_counts : List ℕ
kept_counts = 2 ∷ 3 ∷ 4 ∷ 6 ∷ []

-- "streams NSS = floor(m/8) + 1"
abbrev pub streams_of : ℕ → ℕ
streams_of m = m / 8 + 1

-- "By m mod 8, bits per carrier B and rate: 0: 1, 1/2; 1: 2, 1/2; 2: 2, 3/4; 3: 4, 1/2; 4: 4, 3/4; 5: 6, 2/3; 6: 6, 3/4; 7: 6, 5/6"
abbrev pub bits_of : ℕ → ℕ
bits_of m = get_or (1 ∷ 2 ∷ 2 ∷ 4 ∷ 4 ∷ 6 ∷ 6 ∷ 6 ∷ []) (m % 8) 0

-- the rate, as encoder steps over coded bits kept of them
abbrev pub rate_steps : ℕ → ℕ
rate_steps m = get_or (1 ∷ 1 ∷ 3 ∷ 1 ∷ 3 ∷ 2 ∷ 3 ∷ 5 ∷ []) (m % 8) 0

abbrev pub rate_kept : ℕ → ℕ
rate_kept m = get_or (2 ∷ 2 ∷ 4 ∷ 2 ∷ 4 ∷ 3 ∷ 4 ∷ 6 ∷ []) (m % 8) 0

-- "Data carriers: 52 or 108"
abbrev pub carriers_of : ℕ → ℕ
carriers_of w = cond (eqb w 40) 108 52

-- "Block = carriers × B. Coded bits per symbol = block × NSS. Data bits per symbol D = coded × rate"
unfoldable pub plan_of : (w m e : ℕ) → Plan
plan_of w m e = record {
  width = w;
  streams = streams_of m;
  bits = bits_of m;
  kept = rate_kept m;
  encoders = e;
  carriers = carriers_of w;
  block = carriers_of w * bits_of m;
  coded = carriers_of w * bits_of m * streams_of m;
  dbps = carriers_of w * bits_of m * streams_of m * rate_steps m / rate_kept m;
}

-- the widths, MCSs and numbers of encoders that have a plan: every combination
pub record Planned (w m e : ℕ) : Type 0 where
  pub width : T (among widths w)
  pub mcs : m < 32
  pub encoders : T (among encoder_counts e)

-- puncturing groups of one encoder in one symbol
abbrev pub groups_of : Plan → ℕ
groups_of p = p.coded / (p.encoders * p.kept)

-- the most that a symbol has, with four streams of 64-QAM at 40 MHz: N_CBPSS, N_CBPS, and at rate 5/6 N_DBPS; and that many data bits
-- with the last six steps of two encoders before them
abbrev pub most_block : ℕ
most_block = 648

abbrev pub most_coded : ℕ
most_coded = 2592

abbrev pub most_data : ℕ
most_data = 2160

abbrev pub most_line : ℕ
most_line = 2172

-- what holds of every plan; all that the layers above ask of one
pub record Fits (p : Plan) : Type 0 where
  pub width : T (among widths p.width)
  pub streams : T (among stream_counts p.streams)
  pub bits : T (among bit_counts p.bits)
  pub kept : T (among kept_counts p.kept)
  pub encoders : T (among encoder_counts p.encoders)
  pub carriers_is : p.carriers ≡ carriers_of p.width
  pub block_is : p.block ≡ p.carriers * p.bits
  pub coded_is : p.coded ≡ p.block * p.streams
  pub dbps_some : 26 ≤ p.dbps
  pub dbps_most : p.dbps ≤ most_data
  pub coded_most : p.coded ≤ most_coded
  -- a symbol is a whole number of puncturing groups of each encoder
  pub coded_groups : p.coded ≡ p.encoders * (p.kept * groups_of p)
  pub dbps_groups : p.dbps ≡ p.encoders * ((p.kept - 1) * groups_of p)
