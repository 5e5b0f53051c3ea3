-- The coded bits of one symbol: what the call asks, and what it leaves.
use Rattle.std.specs.Prelude.{◌≡◌, List, ◌⊎◌, ℕ, ◌+◌, ◌-◌, ◌*◌, ◌/◌, ◌%◌, ◌<◌, ◌≤◌, T, length, get_or}
use Rattle.laws.specs.Test.{among}
use Rattle.chain.specs.Plan.{encoder_counts, kept_counts, most_coded}
use Rattle.chain.specs.Puncture.{line_kept}

-- the sum that kept bit y of encoder 0 is, as a place among the sums: A for even places of the pattern, B for odd ones
abbrev pub sum_place : (kept encoders y : ℕ) → ℕ
sum_place kept encoders y = 2160 * (y % kept % 2) + encoders * ((kept - 1) * (y / kept) + (y % kept - 1))

pub record PlaceAsked (kept encoders y : ℕ) : Type 0 where
  pub rate : T (among kept_counts kept)
  pub at_most_two : encoders ≤ 2
  pub few : y < most_coded

pub record PlacesAsked (places : List ℕ) (kept encoders : ℕ) : Type 0 where
  pub rate : T (among kept_counts kept)
  pub at_most_two : encoders ≤ 2
  pub few : length places ≤ most_coded

pub record PickAsked (coded sums places : List ℕ) (j : ℕ) : Type 0 where
  pub room : length places ≤ length coded
  pub sized : length sums ≡ 4320
  pub second : j < 2
  pub inside : (y : ℕ) → y < length places → get_or places y 0 + j < 4320

-- all encoders' bits of a symbol of `groups` puncturing groups each, from a line of bits
pub record CodedAsked (coded line : List ℕ) (encoders kept groups : ℕ) : Type 0 where
  pub one_or_two : T (among encoder_counts encoders)
  pub rate : T (among kept_counts kept)
  pub room : length coded ≡ most_coded
  pub fits : encoders * (kept * groups) ≤ most_coded
  pub inputs : encoders * ((kept - 1) * groups) ≤ 2160
  pub near : encoders * ((kept - 1) * groups) + 6 * encoders ≤ length line
  pub bits : (e : ℕ) → e < encoders * ((kept - 1) * groups) + 6 * encoders → get_or line e 0 < 2

-- bit y of encoder j stands at 1296·j + y; the rest is as it was
pub record Coded (line : ℕ → ℕ) (encoders kept share : ℕ) (coded₀ coded : List ℕ) : Type 0 where
  pub same : length coded ≡ length coded₀
  pub done : (j y : ℕ) → j < encoders → y < share → get_or coded (1296 * j + y) 0 ≡ line_kept line encoders kept j y
  pub rest :
      (i : ℕ) → ((j : ℕ) → j < encoders → (i < 1296 * j) ⊎ (1296 * j + share ≤ i)) → get_or coded i 0 ≡ get_or coded₀ i 0
