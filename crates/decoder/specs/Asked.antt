-- What the decoder's inner call asks and leaves: all encoders' forced inputs.
use Rattle.std.specs.Prelude.{◌≡◌, Bool, List, ℕ, ◌-◌, ◌*◌, ◌<◌, ◌≤◌, T, length, get_or}
use Rattle.laws.specs.Test.{among}
use Rattle.laws.specs.Filled.{Filled}
use Rattle.chain.specs.Plan.{encoder_counts, kept_counts, most_coded}
use Rattle.chain.specs.Decoder.{forced_history, inputs_of, checks}
use Rattle.deinterleaver.specs.Deinterleaved.{coded_of}

pub record EncodersAsked (inputs coded histories : List ℕ) (encoders kept groups : ℕ) : Type 0 where
  pub one_or_two : T (among encoder_counts encoders)
  pub rate : T (among kept_counts kept)
  pub few : groups ≤ 1296
  pub six_bits : (j : ℕ) → j < 2 → get_or histories j 0 < 64
  pub sized : length coded ≡ most_coded
  pub source : encoders * (kept * groups) ≤ most_coded
  pub room : encoders * ((kept - 1) * groups) ≤ length inputs
  pub one_bit : (j y : ℕ) → j < encoders → y < kept * groups → coded_of coded j y < 2

-- all encoders' inverse; with one encoder the second history is as it was
pub record EncodersDone (hs : ℕ → ℕ) (c : ℕ → ℕ → ℕ) (encoders kept groups : ℕ) (histories : List ℕ) (sound : Bool) (inputs₀ inputs : List ℕ) : Type 0 where
  pub two : length histories ≡ 2
  pub moved : (j : ℕ) → j < encoders → get_or histories j 0 ≡ forced_history (hs j) (c j) kept ((kept - 1) * groups)
  pub others : (j : ℕ) → encoders ≤ j → get_or histories j 0 ≡ hs j
  pub filled : Filled 0 0 (λ d. inputs_of hs c encoders kept d) (encoders * ((kept - 1) * groups)) inputs₀ inputs
  pub checked : sound ≡ checks hs c encoders kept groups
