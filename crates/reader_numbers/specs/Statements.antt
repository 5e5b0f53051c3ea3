-- What the reader's numbers tell (docs/C-API.md), field by field. The terms are in proofs/StateTold and proofs/PlaceTold.
use Rattle.std.specs.Prelude.{◌≡◌, List, ◌⊎◌, ℕ, ◌/◌, ◌%◌, ◌<◌, get_or, ℤ, pos, ◌+ℤ◌, Float, None, Ok, Some}
use Rattle.subcarriers.specs.Subcarriers.{Inside}
use Rattle.sig_words.specs.Words.{one_if}
use Rattle.reader_state.specs.declared.state.OpenSettings.{OpenSettings}
use Rattle.reader_state.specs.declared.state.Reader.{Reader}
use Rattle.reader_place.specs.Place.{place_of}
use Rattle.reader_numbers.specs.Numbers.{state_number, reader_of, placed_result, place_result}

-- ---- a state: "0 to 15 | symbol", "16 to 23, 24 to 31 | history 0, history 1", "32 to 39 | scrambler", "40 to 47 | part of a byte",
-- "48 | ended", and nothing above them

pub record HasState (number : ℕ) (st : Reader) : Type 0 where
  pub symbol : number % 65536 ≡ st.symbol
  pub first_history : number / 65536 % 256 ≡ get_or st.histories 0 0
  pub second_history : number / 16777216 % 256 ≡ get_or st.histories 1 0
  pub scrambler : number / 4294967296 % 256 ≡ st.scrambler
  pub part : number / 1099511627776 % 256 ≡ st.part
  pub ended : number / 281474976710656 ≡ one_if st.ended

-- fields that have room there, as those of every state in a run have: a symbol below 2^16, and bytes
abbrev pub HasRoom : Reader → Type 0
HasRoom st = (st.symbol < 65536)
    × ((get_or st.histories 0 0 < 256) × ((get_or st.histories 1 0 < 256) × ((st.scrambler < 256) × (st.part < 256))))

abbrev pub StateTold : Type 0
StateTold = (st : Reader) → HasRoom st → HasState (state_number st) st

-- ---- a place: "256 · stream + (subcarrier + 128) of the point for which a step from this state gives 9; 65,535 where every point passes"

-- the number has this stream and this subcarrier
abbrev pub HasPlace : (number stream : ℕ) (subcarrier : ℤ) → Type 0
HasPlace number stream subcarrier = (number / 256 ≡ stream) × (pos (number % 256) ≡ subcarrier +ℤ pos 128)

-- the result of every place is a number that has it
abbrev pub PlaceTold : Type 0
PlaceTold = (i : ℕ) (z : ℤ) → Inside 40 z → (number : ℕ) × ((placed_result (Ok (Some (i, z))) ≡ pos number) × HasPlace number i z)

-- so equal results have equal streams and subcarriers
abbrev pub OneNumberOnePlace : Type 0
OneNumberOnePlace = (i j : ℕ) (y z : ℤ) → Inside 40 y → Inside 40 z → placed_result (Ok (Some (i, y))) ≡ placed_result (Ok (Some (j, z)))
    → (i ≡ j) × (y ≡ z)

-- of the call's own result: where it is not negative it is 65,535 and every point passes, or below that and it has the place that was found
abbrev pub PlaceResultTold : Type 0
PlaceResultTold = (o : OpenSettings) (state : ℕ) (points : List Float) (number : ℕ) → place_result o state points ≡ pos number
    → ((place_of (reader_of o state) points ≡ Ok None) × (number ≡ 65535))
    ⊎ ((i : ℕ) × ((z : ℤ) × ((place_of (reader_of o state) points ≡ Ok (Some (i, z))) × ((i < 4) × ((number < 65535) × HasPlace number i z)))))
