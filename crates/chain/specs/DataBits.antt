-- The frame's data bits and what goes to the encoders (document 01 step 1), by their number over the frame.
-- They stand over payload bits given by their number: a payload of bytes is one way to give them.
use Rattle.std.specs.Prelude.{Bool, cond, not, List, ℕ, ◌+◌, ◌-◌, ◌*◌, ◌/◌, ◌%◌, ◌^◌, ltb, get_or}
use Rattle.laws.specs.Test.{both}
use Rattle.chain.specs.Scrambler.{scrambler_bit}

-- "payload (low bit first)": bit k of a payload of bytes
abbrev pub payload_bit : (payload : List ℕ) (k : ℕ) → ℕ
payload_bit payload k = get_or payload (k / 8) 0 / 2 ^ (k % 8) % 2

-- where a payload of so many bytes ends, and where the tail does
abbrev pub payload_end : (bytes : ℕ) → ℕ
payload_end bytes = 16 + 8 * bytes

abbrev pub tail_end : (bytes encoders : ℕ) → ℕ
tail_end bytes encoders = 16 + 8 * bytes + 6 * encoders

-- "Data bits: 16 zeros, payload, 6·NES tail, pad zeros to a full symbol"
unfoldable pub data_bit : (v : ℕ → ℕ) (bytes d : ℕ) → ℕ
data_bit v bytes d = cond (ltb d 16) 0 (cond (ltb d (payload_end bytes)) (v (d - 16)) 0)

abbrev pub in_tail : (bytes encoders d : ℕ) → Bool
in_tail bytes encoders d = both (not (ltb d (payload_end bytes))) (ltb d (tail_end bytes encoders))

-- "All are scrambled; then the tail is set to zero": data bit d where the scrambler puts out o
unfoldable pub input_with : (v : ℕ → ℕ) (bytes encoders o d : ℕ) → ℕ
input_with v bytes encoders o d = cond (in_tail bytes encoders d) 0 ((data_bit v bytes d + o) % 2)

-- bit d as the encoders get it
abbrev pub coder_input : (v : ℕ → ℕ) (bytes encoders seed d : ℕ) → ℕ
coder_input v bytes encoders seed d = input_with v bytes encoders (scrambler_bit seed d) d
