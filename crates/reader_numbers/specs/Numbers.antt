-- The reader's settings, states and answers as the numbers of the C calls (docs/C-API.md).
use Rattle.settings.specs.declared.settings.Refusal.{Refusal}
use Rattle.std.specs.Prelude.{◌≡◌, cond, List, [], ◌∷◌, ℕ, ◌+◌, ◌*◌, ◌/◌, ◌%◌, eqb, leb, length, get_or, ℤ, pos, ◌+ℤ◌, Float, Err, None, Ok, Option, Result, Some}
use Rattle.laws.specs.Integers.{minus}
use Rattle.settings.specs.declared.settings.Refusal.TheVariants.{Closed}
use Rattle.settings.specs.Settings.{number_of}
use Rattle.subcarriers.specs.Subcarriers.{Inside}
use Rattle.sig_words.specs.Words.{one_if}
use Rattle.reader_state.specs.declared.state.OpenSettings.{OpenSettings}
use Rattle.reader_state.specs.declared.state.Reader.{Reader}
use Rattle.reader_state.specs.declared.state.Started.{Started}
use Rattle.acceptance.specs.declared.accept.Stepped.{Stepped}
use Rattle.reader.specs.Step.{step_of, step_into, step_number, step_seed}
use Rattle.reader_place.specs.Place.{place_of, place_number, place_stream, place_subcarrier}
use Rattle.conversions.specs.Results.{flag_on, refused_result}

-- settings without a seed: a flag is off at 0 and on at any other number
abbrev pub open_of : (width mcs format length smoothing notSounding aggregation shortGuard : ℕ) → OpenSettings
open_of w m f l s n a g = record {
  width = w;
  mcs = m;
  format = f;
  length = l;
  smoothing = flag_on s;
  not_sounding = flag_on n;
  aggregation = flag_on a;
  short_guard = flag_on g;
}

-- a state as a number: symbol + 2^16·history 0 + 2^24·history 1 + 2^32·scrambler + 2^40·part of a byte + 2^48·ended
unfoldable pub state_number : Reader → ℕ
state_number st =
    st.symbol + 65536 * get_or st.histories 0 0 + 16777216 * get_or st.histories 1 0 + 4294967296 * st.scrambler + 1099511627776 * st.part
    + 281474976710656 * one_if st.ended

-- the state that a number below 2^49 is, of given settings
unfoldable pub reader_of : OpenSettings → (state : ℕ) → Reader
reader_of o state = record {
  settings = o;
  symbol = state % 65536;
  ended = eqb (state / 281474976710656 % 2) 1;
  histories = state / 65536 % 256 ∷ (state / 16777216 % 256 ∷ []);
  scrambler = state / 4294967296 % 256;
  part = state / 1099511627776 % 256;
}

-- the start: the state's number, or the refusal's negated
abbrev pub started_result : Result (Unit {0}) Refusal → Reader → ℤ
started_result (Ok tt) st = pos (state_number st)
started_result (Err r) st = refused_result r

abbrev pub start_result : Started → ℤ
start_result s = started_result s.answer s.state

-- the step: number + 2^5·seed + 2^12·state
unfoldable pub stepped_number : Stepped → ℕ
stepped_number r = step_number r.answer + 32 * step_seed r.answer + 4096 * state_number r.state

-- a number of 2^49 or more is no state: what comes back for it is closed, that number modulo 2^48 with its end marked
abbrev pub closed_number : (state : ℕ) → ℕ
closed_number state = state % 281474976710656 + 281474976710656

-- and the step from it is 12
abbrev pub step_result : OpenSettings → (state : ℕ) → List Float → (bytes : ℕ) → ℕ
step_result o state points bytes =
    cond (leb 562949953421312 state) (12 + 4096 * closed_number state) (stepped_number (step_of (reader_of o state) points bytes))

abbrev pub step_result_into : OpenSettings → (state : ℕ) → List Float → List ℕ → List ℕ
step_result_into o state points payload = cond (leb 562949953421312 state) payload (step_into (reader_of o state) points payload)

-- the place: stream * 256 + (subcarrier + 128), 65,535 where every point passes, or the refusal's number negated
abbrev pub placed_result : Result (Option (ℕ × ℤ)) Refusal → ℤ
placed_result a =
    cond (eqb (place_number a) 0) (pos 65535)
    (cond (eqb (place_number a) 9) (pos (256 * place_stream a) +ℤ (place_subcarrier a +ℤ pos 128)) (minus (place_number a)))

abbrev pub place_result : OpenSettings → (state : ℕ) → List Float → ℤ
place_result o state points = cond (leb 562949953421312 state) (refused_result Closed) (placed_result (place_of (reader_of o state) points))

-- the place of an answer is a subcarrier of the wider channel, and what is refused has a number other than a place's
abbrev pub PlaceRight : Result (Option (ℕ × ℤ)) Refusal → Type 0
PlaceRight (Ok None) = Unit {0}
PlaceRight (Ok (Some (i, z))) = Inside 40 z
PlaceRight (Err r) = number_of r ≡ 9 → ⊥
