-- What the calls that put the payload's bytes together ask and give.
use Rattle.std.specs.Prelude.{◌≡◌, List, ℕ, ◌+◌, ◌*◌, ◌/◌, ◌%◌, ◌^◌, ◌<◌, ◌≤◌, length, get_or}
use Rattle.assembler.specs.Assembled.{payload_before, known_bit}

-- a line of payload bits from the first of the byte that the symbol's first payload bit is in
pub record LineAsked (line plain : List ℕ) (part bytes start count before after : ℕ) : Type 0 where
  pub room : 2176 ≤ length line
  pub blank : (j : ℕ) → get_or line j 0 ≡ 0
  pub short : bytes ≤ 65535
  pub whole_plain : count ≤ length plain
  pub few : count ≤ 2160
  pub near : start ≤ 2 ^ 27
  pub bits : (d : ℕ) → d < count → get_or plain d 0 < 2
  pub part_fits : part < 2 ^ (payload_before bytes start % 8)
  pub before_is : before ≡ payload_before bytes start
  pub after_is : after ≡ payload_before bytes (start + count)

-- the known bits up to payload bit `after`, and zeros
pub record KnownLine (bytes start part before after : ℕ) (P : ℕ → ℕ) (line₀ line : List ℕ) : Type 0 where
  pub same : length line ≡ length line₀
  pub known : (j : ℕ) → 8 * (before / 8) + j < after → get_or line j 0 ≡ known_bit bytes start part P (8 * (before / 8) + j)
  pub rest : (j : ℕ) → after ≤ 8 * (before / 8) + j → get_or line j 0 ≡ 0
  pub bits : (j : ℕ) → get_or line j 0 < 2

-- eight bits of a line as a byte
pub record PackAsked (line : List ℕ) (at : ℕ) : Type 0 where
  pub whole : at + 8 ≤ length line
  pub few : at ≤ 2168
  pub bits : (j : ℕ) → get_or line j 0 < 2

-- bytes of a line
pub record BytesAsked (bytes line : List ℕ) : Type 0 where
  pub whole : 8 * length bytes ≤ length line
  pub few : length bytes ≤ 271
  pub bits : (j : ℕ) → get_or line j 0 < 2
