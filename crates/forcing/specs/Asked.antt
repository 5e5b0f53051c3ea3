-- What the steps, groups and the pass over one encoder's coded bits ask and leave.
use Rattle.std.specs.Prelude.{◌≡◌, List, ℕ, ◌+◌, ◌-◌, ◌*◌, ◌<◌, ◌≤◌, T, length, get_or, set}
use Rattle.laws.specs.Test.{among}
use Rattle.laws.specs.Scattered.{Scattered}
use Rattle.chain.specs.Plan.{kept_counts}
use Rattle.chain.specs.Decoder.{sum_after, coded_after, forced_push, forced_history, forced_input}

-- a step: coded bit i of the list, the input to place `to`
pub record StepAsked (inputs coded : List ℕ) (history to i : ℕ) : Type 0 where
  pub small : history < 64
  pub room : to < length inputs
  pub source : i < length coded
  pub one_bit : get_or coded i 0 < 2

pub record StepDone (m history bit to after : ℕ) (inputs₀ inputs : List ℕ) : Type 0 where
  pub moved : after ≡ forced_push m bit history
  pub small : after < 64
  pub written : inputs ≡ set inputs₀ to (sum_after m history bit)

-- the first t inputs that coded bits c force after history h, input s at encoders·s + first, and the history after them
pub record Part (h : ℕ) (c : ℕ → ℕ) (kept encoders first t after : ℕ) (inputs₀ inputs : List ℕ) : Type 0 where
  pub moved : after ≡ forced_history h c kept t
  pub small : after < 64
  pub forced : Scattered 0 (λ s. encoders * s + first) (λ s. forced_input h c kept s) t inputs₀ inputs

-- a group: its coded bits stand from i on
pub record GroupAsked (inputs coded : List ℕ) (history kept encoders to i : ℕ) : Type 0 where
  pub rate : T (among kept_counts kept)
  pub small : history < 64
  pub some : 1 ≤ encoders
  pub two : encoders ≤ 2
  pub near : to ≤ 12960
  pub low : i ≤ 9072
  pub source : i + kept ≤ length coded
  pub room : (t : ℕ) → t + 1 < kept → encoders * t + to < length inputs
  pub one_bit : (k : ℕ) → k < kept → get_or coded (i + k) 0 < 2

-- encoder j of `encoders`: its coded bits stand from `base` on, its inputs go to encoders·t + j
pub record EncoderAsked (inputs coded : List ℕ) (history kept groups base encoders j : ℕ) : Type 0 where
  pub rate : T (among kept_counts kept)
  pub few : groups ≤ 1296
  pub small : history < 64
  pub near : base ≤ 1296
  pub source : base + kept * groups ≤ length coded
  pub two : encoders ≤ 2
  pub encoder : j < encoders
  pub room : encoders * ((kept - 1) * groups) ≤ length inputs
  pub one_bit : (i : ℕ) → i < kept * groups → get_or coded (base + i) 0 < 2

-- every group's first coded bit is that of the forced inputs
abbrev pub GroupsRight : (h : ℕ) (c : ℕ → ℕ) (kept groups : ℕ) → Type 0
GroupsRight h c kept groups = (g : ℕ) → g < groups → c (kept * g) ≡ coded_after h (forced_input h c kept) kept (kept * g)

-- wrong is 0 exactly when the first groups are right
pub record Tally (h : ℕ) (c : ℕ → ℕ) (kept groups wrong : ℕ) : Type 0 where
  pub sound : wrong ≡ 0 → GroupsRight h c kept groups
  pub full : GroupsRight h c kept groups → wrong ≡ 0
  pub few : wrong ≤ groups

-- what one encoder's inverse gives: history, inputs, and the number of groups whose first coded bit is not theirs
pub record EncoderDone (h : ℕ) (c : ℕ → ℕ) (kept groups encoders j h' wrong : ℕ) (inputs₀ inputs : List ℕ) : Type 0 where
  pub part : Part h c kept encoders j ((kept - 1) * groups) h' inputs₀ inputs
  pub tally : Tally h c kept groups wrong
  pub few : groups ≤ 1296
