-- What is proved of the chain, in plain words: every coded bit of a symbol stands in exactly one label place of one stream; where a symbol looks.
use Rattle.std.specs.Prelude.{◌≡◌, ℕ, ◌+◌, ◌*◌, ◌/◌, ◌%◌, ◌<◌, ◌≤◌}
use Rattle.chain.specs.declared.plan.Plan.{Plan}
use Rattle.chain.specs.Parser.{axis_bits, encoder_of, index_of, stream_of, bit_of}
use Rattle.chain.specs.Interleaver.{place, source}
use Rattle.chain.specs.Labels.{share, half_label, halves_of}

-- the parser: bit k of stream i is a coded bit of the symbol, and each coded bit (j, y) is one stream's bit; each way undoes the other
pub record Parses (p : Plan) : Type 0 where
  pub encoder_lt : (k : ℕ) → encoder_of (axis_bits p.bits) p.encoders k < p.encoders
  pub index_lt : (i k : ℕ) → i < p.streams → k < p.block → index_of (axis_bits p.bits) p.streams p.encoders i k < share p
  pub stream_lt : (y : ℕ) → stream_of (axis_bits p.bits) p.streams y < p.streams
  pub bit_lt : (j y : ℕ) → j < p.encoders → y < share p → bit_of (axis_bits p.bits) p.streams p.encoders j y < p.block
  pub stream_back : (i k : ℕ) → i < p.streams → stream_of (axis_bits p.bits) p.streams (index_of (axis_bits p.bits) p.streams p.encoders i k) ≡ i
  pub bit_back :
      (i k : ℕ) → i < p.streams
      → bit_of (axis_bits p.bits) p.streams p.encoders (encoder_of (axis_bits p.bits) p.encoders k) (index_of (axis_bits p.bits) p.streams p.encoders i k) ≡ k
  pub encoder_back : (j y : ℕ) → j < p.encoders → encoder_of (axis_bits p.bits) p.encoders (bit_of (axis_bits p.bits) p.streams p.encoders j y) ≡ j
  pub index_back :
      (j y : ℕ) → j < p.encoders
      → index_of (axis_bits p.bits) p.streams p.encoders (stream_of (axis_bits p.bits) p.streams y) (bit_of (axis_bits p.bits) p.streams p.encoders j y) ≡ y

-- the interleaver of stream i: a permutation of the block, and its inverse
pub record Interleaves (width bits block stream : ℕ) : Type 0 where
  pub place_lt : (k : ℕ) → k < block → place width bits stream k < block
  pub source_lt : (r : ℕ) → r < block → source width bits stream r < block
  pub source_place : (k : ℕ) → k < block → source width bits stream (place width bits stream k) ≡ k
  pub place_source : (r : ℕ) → r < block → place width bits stream (source width bits stream r) ≡ r

-- coded bit y of encoder j of a symbol: the stream and the place in its block where it stands
abbrev pub coded_stream : (p : Plan) (y : ℕ) → ℕ
coded_stream p y = stream_of (axis_bits p.bits) p.streams y

abbrev pub coded_place : (p : Plan) (j y : ℕ) → ℕ
coded_place p j y = place p.width p.bits (coded_stream p y) (bit_of (axis_bits p.bits) p.streams p.encoders j y)

-- place r of stream i's block: the encoder and the number of the coded bit that stands there
abbrev pub place_encoder : (p : Plan) (i r : ℕ) → ℕ
place_encoder p i r = encoder_of (axis_bits p.bits) p.encoders (source p.width p.bits i r)

abbrev pub place_index : (p : Plan) (i r : ℕ) → ℕ
place_index p i r = index_of (axis_bits p.bits) p.streams p.encoders i (source p.width p.bits i r)

-- every coded bit of a symbol is in a label place of one stream, and the place gives it back; place r is bit r mod B of carrier floor(r / B)
pub record LabelOfCoded (p : Plan) (j y : ℕ) : Type 0 where
  pub stream_lt : coded_stream p y < p.streams
  pub place_lt : coded_place p j y < p.block
  pub carrier_lt : coded_place p j y / p.bits < p.carriers
  pub bit_lt : coded_place p j y % p.bits < p.bits
  pub encoder_back : place_encoder p (coded_stream p y) (coded_place p j y) ≡ j
  pub index_back : place_index p (coded_stream p y) (coded_place p j y) ≡ y

-- every label place of every stream has a coded bit of the symbol, and the bit gives the place back
pub record CodedOfLabel (p : Plan) (i r : ℕ) : Type 0 where
  pub encoder_lt : place_encoder p i r < p.encoders
  pub index_lt : place_index p i r < share p
  pub stream_back : coded_stream p (place_index p i r) ≡ i
  pub place_back : place p.width p.bits i (bit_of (axis_bits p.bits) p.streams p.encoders (place_encoder p i r) (place_index p i r)) ≡ r

-- two coded bits are one: no two in the same place
pub record SameCoded (j y j' y' : ℕ) : Type 0 where
  pub encoder : j ≡ j'
  pub index : y ≡ y'

-- every coded bit of a symbol is in exactly one label place of one stream, no two in the same
pub record LabelPlaces (p : Plan) : Type 0 where
  pub label_of_coded : (j y : ℕ) → j < p.encoders → y < share p → LabelOfCoded p j y
  pub coded_of_label : (i r : ℕ) → i < p.streams → r < p.block → CodedOfLabel p i r
  pub no_two :
      (j y j' y' : ℕ) → j < p.encoders → y < share p → j' < p.encoders → y' < share p
      → coded_stream p y ≡ coded_stream p y' → coded_place p j y ≡ coded_place p j' y' → SameCoded j y j' y'

-- two lines of inputs agree wherever symbol n looks: on its own data bits nD to nD + D - 1, and on the last six steps of each encoder before them
abbrev pub AgreeAt : (p : Plan) (x y : ℕ → ℕ) (n : ℕ) → Type 0
AgreeAt p x y n = (d : ℕ) → n * p.dbps ≤ d + 6 * p.encoders → d < n * p.dbps + p.dbps → x d ≡ y d

-- the half labels of two lines of inputs differ in symbol n: a stream and a half that do
pub record HalvesDiffer (p : Plan) (x y : ℕ → ℕ) (n : ℕ) : Type 0 where
  pub stream : ℕ
  pub half : ℕ
  pub stream_lt : stream < p.streams
  pub half_lt : half < halves_of p
  pub apart : half_label p x n stream half ≡ half_label p y n stream half → ⊥
