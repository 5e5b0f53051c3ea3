-- The label bits of one symbol, from the encoders' input bits x (document 01 steps 2 to 5), for a plan's numbers.
use Rattle.std.specs.Prelude.{ℕ, zero, suc, ◌+◌, ◌*◌, ◌/◌}
use Rattle.chain.specs.declared.plan.Plan.{Plan}
use Rattle.chain.specs.Puncture.{kept_bit}
use Rattle.chain.specs.Parser.{axis_bits, encoder_of, index_of}
use Rattle.chain.specs.Interleaver.{source}

-- coded bits of one encoder in a symbol
abbrev pub share : Plan → ℕ
share p = p.coded / p.encoders

-- coded bit y of encoder j in symbol n: every symbol takes the encoders' next `share` bits
unfoldable pub coded_bit : (p : Plan) (x : ℕ → ℕ) (n j y : ℕ) → ℕ
coded_bit p x n j y = kept_bit x p.encoders p.kept j (n * share p + y)

-- bit k of stream i, out of the parser
unfoldable pub stream_bit : (p : Plan) (x : ℕ → ℕ) (n i k : ℕ) → ℕ
stream_bit p x n i k =
    let s = axis_bits p.bits in
    coded_bit p x n (encoder_of s p.encoders k) (index_of s p.streams p.encoders i k)

-- bit r of stream i's interleaved block: carrier c's label is bits c·B to c·B + B - 1
unfoldable pub label_bit : (p : Plan) (x : ℕ → ℕ) (n i r : ℕ) → ℕ
label_bit p x n i r = stream_bit p x n i (source p.width p.bits i r)

-- the number that `count` bits from a on write, the first the highest
unfoldable pub written : (f : ℕ → ℕ) (a count : ℕ) → ℕ
written f a zero = 0
written f a (suc t) = 2 * written f a t + f (a + t)

-- half m of stream i's labels: the bits of one axis of a constellation point, of which a carrier has two (one where B is 1)
abbrev pub half_label : (p : Plan) (x : ℕ → ℕ) (n i m : ℕ) → ℕ
half_label p x n i m = written (label_bit p x n i) (m * axis_bits p.bits) (axis_bits p.bits)

abbrev pub halves_of : Plan → ℕ
halves_of p = p.block / axis_bits p.bits
