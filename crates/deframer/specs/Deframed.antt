-- The data bits of a symbol read back (document 01 step 1 undone; refusal 11). Bits are given by their number in the symbol, whose first data bit is
-- number `start` of the frame.
use Rattle.std.specs.Prelude.{Bool, true, cond, List, ℕ, ◌+◌, ◌%◌, ◌^◌, ◌<◌, ◌≤◌, eqb, ltb, length, get_or}
use Rattle.laws.specs.Test.{below}
use Rattle.chain.specs.Scrambler.{scrambler_bit}
use Rattle.chain.specs.DataBits.{payload_end, tail_end}

-- data bit d of the symbol: the input with the scrambler's output taken off, from state s at the symbol's first bit
abbrev pub plain_bit : (s : ℕ) (X : ℕ → ℕ) (d : ℕ) → ℕ
plain_bit s X d = (X d + scrambler_bit s d) % 2

-- whether data bit d of the frame may be the input b with the plain bit a: service and pad bits are zero before scrambling, tail inputs are zero, payload
-- bits are free
unfoldable pub input_ok : (bytes encoders d b a : ℕ) → Bool
input_ok bytes encoders d b a =
    cond (ltb d 16) (eqb a 0)
    (cond (ltb d (payload_end bytes)) true
    (cond (ltb d (tail_end bytes encoders)) (eqb b 0) (eqb a 0)))

-- no "service, tail or pad bit wrong" among a symbol's `count` inputs X with their plain bits P
unfoldable pub framed : (bytes encoders start count : ℕ) (X P : ℕ → ℕ) → Bool
framed bytes encoders start count X P = below (λ d. input_ok bytes encoders (start + d) (X d) (P d)) count

-- what the calls ask

pub record PlainAsked (plain inputs : List ℕ) (state : ℕ) : Type 0 where
  pub whole_inputs : length plain ≤ length inputs
  pub few : length plain ≤ 2160
  pub in_range : state < 128
  pub bits : (d : ℕ) → d < length plain → get_or inputs d 0 < 2

pub record FramedAsked (inputs plain : List ℕ) (bytes encoders start count : ℕ) : Type 0 where
  pub whole_inputs : count ≤ length inputs
  pub whole_plain : count ≤ length plain
  pub few : count ≤ 2160
  pub near : start ≤ 2 ^ 27
  pub short : bytes ≤ 65535
  pub one_or_two : encoders ≤ 2
