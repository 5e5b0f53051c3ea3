-- The strict reader's state, its ranges and its start (document 01, 'Numbered refusals': "A state in range has ..").
use Rattle.settings.specs.declared.settings.Refusal.{Refusal}
use Rattle.std.specs.Prelude.{◌≡◌, Bool, true, false, not, ◌||◌, ◌&&◌, List, [], ◌∷◌, ℕ, ◌*◌, ◌%◌, ◌^◌, ◌<◌, eqb, ltb, leb, get_or, Err, Ok, Result}
use Rattle.settings.specs.declared.settings.RawSettings.{RawSettings}
use Rattle.settings.specs.declared.settings.Settings.{Settings}
use Rattle.settings.specs.Settings.{number_of, check_of, plan_for}
use Rattle.symbols.specs.Symbols.{symbols_of}
use Rattle.assembler.specs.Assembled.{payload_before}
use Rattle.reader_state.specs.declared.state.OpenSettings.{OpenSettings}
use Rattle.reader_state.specs.declared.state.Reader.{Reader}
use Rattle.reader_state.specs.declared.state.Started.{Started}

-- the raw settings that settings without a seed and a seed make
abbrev pub with_seed : OpenSettings → (seed : ℕ) → RawSettings
with_seed o seed = record {
  width = o.width;
  mcs = o.mcs;
  format = o.format;
  length = o.length;
  seed = seed;
  smoothing = o.smoothing;
  not_sounding = o.not_sounding;
  aggregation = o.aggregation;
  short_guard = o.short_guard;
}

-- "The reader is started with settings without a seed": 1, which is never refused, stands for it
abbrev pub open_raw : OpenSettings → RawSettings
open_raw o = with_seed o 1

-- a state of given settings with all numbers zero: begun, or closed from the start
abbrev pub blank : OpenSettings → Bool → Reader
blank o ended = record { settings = o; symbol = 0; ended = ended; histories = 0 ∷ 0 ∷ []; scrambler = 0; part = 0 }

-- the start: refusals 1 to 4, and beside a refusal a closed state
abbrev pub start_by : Result Settings Refusal → OpenSettings → Started
start_by (Ok s) o = record { answer = Ok tt; state = blank o false }
start_by (Err r) o = record { answer = Err r; state = blank o true }

abbrev pub start_of : OpenSettings → Started
start_of o = start_by (check_of (open_raw o)) o

-- document 01's number of each case, 0 where the reader is begun
abbrev pub start_number : Result (Unit {0}) Refusal → ℕ
start_number (Ok tt) = 0
start_number (Err r) = number_of r

-- the history of encoder j
abbrev pub history_of : Reader → (j : ℕ) → ℕ
history_of st j = get_or st.histories j 0

-- the number of the symbol's first data bit
abbrev pub first_bit : Settings → (symbol : ℕ) → ℕ
first_bit s symbol = symbol * (plan_for s).dbps

-- not "histories below 64"
abbrev pub bad_histories : (histories : List ℕ) → Bool
bad_histories histories = leb 64 (get_or histories 0 0) || leb 64 (get_or histories 1 0)

-- not "from symbol 1 on a scrambler of 1 to 127"
abbrev pub bad_scrambler : (symbol scrambler : ℕ) → Bool
bad_scrambler symbol scrambler = not (eqb symbol 0) && (eqb scrambler 0 || ltb 127 scrambler)

-- not "a part of a byte as many bits long as the payload bits before that symbol leave modulo 8, its other bits zero"
abbrev pub bad_part : Settings → (symbol part : ℕ) → Bool
bad_part s symbol part = leb (2 ^ (payload_before s.length (first_bit s symbol) % 8)) part

-- "reader state finished, ended by 9 to 11, or outside its ranges", its settings being accepted
unfoldable pub closed_of : Settings → Reader → Bool
closed_of s st =
    (st.ended || leb (symbols_of s) st.symbol)
    || (bad_histories st.histories || (bad_scrambler st.symbol st.scrambler || bad_part s st.symbol st.part))

-- "the state given with only its end marked"
abbrev pub ended_of : Reader → Reader
ended_of st = record {
  settings = st.settings;
  symbol = st.symbol;
  ended = true;
  histories = st.histories;
  scrambler = st.scrambler;
  part = st.part;
}

-- "the state given with only its end marked", field by field
pub record OnlyEnded (st st' : Reader) : Type 0 where
  pub settings : st'.settings ≡ st.settings
  pub symbol : st'.symbol ≡ st.symbol
  pub histories : st'.histories ≡ st.histories
  pub scrambler : st'.scrambler ≡ st.scrambler
  pub part : st'.part ≡ st.part
  pub ended : st'.ended ≡ true

-- "A state in range has accepted settings, a symbol number below the count, histories below 64, from symbol 1 on a scrambler of 1 to 127, and a part of a
-- byte as many bits long as the payload bits before that symbol leave modulo 8, its other bits zero"; and it is not ended
pub record InRange (s : Settings) (st : Reader) : Type 0 where
  pub going : st.ended ≡ false
  pub below_count : st.symbol < symbols_of s
  pub first_history : history_of st 0 < 64
  pub second_history : history_of st 1 < 64
  pub scrambler_some : (st.symbol ≡ 0 → ⊥) → 0 < st.scrambler
  pub scrambler_most : (st.symbol ≡ 0 → ⊥) → st.scrambler < 128
  pub part_fits : st.part < 2 ^ (payload_before s.length (first_bit s st.symbol) % 8)
