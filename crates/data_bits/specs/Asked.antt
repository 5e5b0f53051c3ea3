-- What the data bits by whole bytes ask, and what is written then.
use Rattle.std.specs.Prelude.{◌≡◌, List, ℕ, ◌+◌, ◌*◌, ◌<◌, ◌≤◌, ◌^◌, length, get_or}
use Rattle.chain.specs.DataBits.{payload_bit, data_bit}

-- data bits by whole bytes: byte m of the data bits is bits 8·m to 8·m + 7
pub record DataAsked (raw payload : List ℕ) (from count : ℕ) : Type 0 where
  pub room : 8 * count ≤ length raw
  pub blank : (j : ℕ) → get_or raw j 0 ≡ 0
  pub short : length payload ≤ 65535
  pub near : from ≤ 2 ^ 27
  pub few : count ≤ 273

pub record DataFilled (payload : List ℕ) (bytes from count : ℕ) (raw₀ raw : List ℕ) : Type 0 where
  pub same : length raw ≡ length raw₀
  pub done : (j : ℕ) → j < 8 * count → get_or raw j 0 ≡ data_bit (payload_bit payload) bytes (8 * from + j)
  pub bits : (j : ℕ) → get_or raw j 0 < 2
