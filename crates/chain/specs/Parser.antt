-- The stream parser (document 01 step 4; EWC 4.4.1), per symbol.
use Rattle.std.specs.Prelude.{ℕ, ◌+◌, ◌*◌, ◌/◌, ◌%◌, max}

-- "s = max(1, B/2)"
unfoldable pub axis_bits : (bits : ℕ) → ℕ
axis_bits bits = max 1 (bits / 2)

-- "Bit k of stream i is bit i·s + NSS·s·floor(k/(NES·s)) + k mod s of encoder floor(k/s) mod NES"
unfoldable pub encoder_of : (s encoders k : ℕ) → ℕ
encoder_of s encoders k = k / s % encoders

unfoldable pub index_of : (s streams encoders i k : ℕ) → ℕ
index_of s streams encoders i k = i * s + streams * s * (k / (encoders * s)) + k % s

-- the inverse: bit y of encoder j is bit bit_of of stream stream_of
unfoldable pub stream_of : (s streams y : ℕ) → ℕ
stream_of s streams y = y / s % streams

unfoldable pub bit_of : (s streams encoders j y : ℕ) → ℕ
bit_of s streams encoders j y = encoders * s * (y / (streams * s)) + j * s + y % s
