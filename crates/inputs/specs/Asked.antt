-- What the calls of this crate ask.
use Rattle.std.specs.Prelude.{cond, not, List, ℕ, ◌+◌, ◌%◌, ◌<◌, ◌≤◌, ◌^◌, T, ltb, length, get_or}
use Rattle.laws.specs.Test.{both, among}
use Rattle.chain.specs.Plan.{encoder_counts, most_line}

-- a line of encoder inputs of a payload from place `first` on
pub record InputsAsked (line payload : List ℕ) (encoders seed first : ℕ) : Type 0 where
  pub short : length payload ≤ 65535
  pub one_or_two : T (among encoder_counts encoders)
  pub seeded : seed < 128
  pub near : first ≤ 2 ^ 27
  pub some : 12 ≤ length line
  pub few : length line ≤ most_line

-- bit t of data bits and scrambler outputs together, the tail between two places zero
abbrev pub mixed_bit : (raw outputs : ℕ → ℕ) (tail pad t : ℕ) → ℕ
mixed_bit raw outputs tail pad t = cond (both (not (ltb t tail)) (ltb t pad)) 0 ((raw t + outputs t) % 2)

-- data bits and a scrambler output for each place of the line, the tail between two of its places
pub record MixAsked (line raw outputs : List ℕ) (tail pad : ℕ) : Type 0 where
  pub near : length line ≤ length raw
  pub out_near : length line ≤ length outputs
  pub ordered : tail ≤ pad
  pub ends : pad ≤ length line
  pub raw_bits : (j : ℕ) → get_or raw j 0 < 2
  pub out_bits : (j : ℕ) → j < length line → get_or outputs j 0 < 2

pub record ScrambledAsked (line payload : List ℕ) (encoders seed start : ℕ) : Type 0 where
  pub few : length line ≤ most_line
  pub short : length payload ≤ 65535
  pub at_most_two : encoders ≤ 2
  pub seeded : seed < 128
  pub near : start ≤ 2 ^ 27
