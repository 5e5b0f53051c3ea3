-- The payload's bytes out of a symbol's data bits (document 01 step 1 undone; what the reader carries between symbols). Bits are given by their number
-- in the symbol, whose first data bit is number `start` of the frame.
use Rattle.std.specs.Prelude.{cond, List, ℕ, zero, suc, ◌+◌, ◌-◌, ◌*◌, ◌/◌, ◌%◌, ◌^◌, ◌<◌, ◌≤◌, min, ltb, length, get_or}

-- "the payload bits before" data bit d: service bits are none, and past the payload there are no more
abbrev pub payload_before : (bytes d : ℕ) → ℕ
payload_before bytes d = min (d - 16) (8 * bytes)

-- the number that r bits from a on write, the first the lowest
unfoldable pub bits_number : (f : ℕ → ℕ) (a r : ℕ) → ℕ
bits_number f a zero = 0
bits_number f a (suc r) = bits_number f a r + 2 ^ r * f (a + r)

-- byte j of payload bits, and the "part of a byte" that the first m bits leave
abbrev pub byte_of : (f : ℕ → ℕ) (j : ℕ) → ℕ
byte_of f j = bits_number f (8 * j) 8

abbrev pub part_of : (f : ℕ → ℕ) (m : ℕ) → ℕ
part_of f m = bits_number f (8 * (m / 8)) (m % 8)

-- payload bit k as it is known after a symbol with plain bits P: out of the part of a byte before the symbol, or out of the symbol
unfoldable pub known_bit : (bytes start part : ℕ) (P : ℕ → ℕ) (k : ℕ) → ℕ
known_bit bytes start part P k =
    let m = payload_before bytes start in
    cond (ltb k m) (part / 2 ^ (k - 8 * (m / 8)) % 2) (P (16 + k - start))

-- what the call asks

pub record PayloadAsked (payload plain : List ℕ) (part bytes start count : ℕ) : Type 0 where
  pub whole_payload : bytes ≤ length payload
  pub short : bytes ≤ 65535
  pub whole_plain : count ≤ length plain
  pub few : count ≤ 2160
  pub near : start ≤ 2 ^ 27
  pub bits : (d : ℕ) → d < count → get_or plain d 0 < 2
  -- "a part of a byte as many bits long as the payload bits before that symbol leave modulo 8"
  pub part_fits : part < 2 ^ (payload_before bytes start % 8)
