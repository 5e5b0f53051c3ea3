-- Every coded bit of a symbol is in exactly one label place of one stream, no two in the same: the parser's laws and the interleaver's together.
-- Assumes nothing.
use mathlib.Core.Path.{◌≡◌, ◌∙◌, sym, ap}
use Prim.Native.Nat.{ℕ, ◌<◌}
use native.Mathlib.Nat.{mod-lt, div-lt_iff_lt-mul}
use Rattle.chain.specs.declared.plan.Plan.{Plan}
use Rattle.chain.specs.Plan.{Fits}
use Rattle.chain.specs.Parser.{axis_bits, encoder_of, index_of, bit_of}
use Rattle.chain.specs.Interleaver.{place, source}
use Rattle.chain.specs.Labels.{share, stream_bit, label_bit}
use Rattle.chain.specs.Statements.{Parses, Interleaves, coded_stream, coded_place, place_encoder, place_index, LabelOfCoded, CodedOfLabel, SameCoded, LabelPlaces}
use Rattle.chain.proofs.Counts.{bits_some}
use Rattle.chain.proofs.ParserLaws.{parses}
use Rattle.chain.proofs.InterleaverLaws.{interleaves_plan}

module _ (p : Plan) (f : Fits p) where
  parsing : Parses p
  parsing = parses p f

  -- every coded bit of a symbol is in a label place of one stream, and the place gives it back
  pub label_of_coded : (j y : ℕ) → j < p.encoders → y < share p → LabelOfCoded p j y
  label_of_coded j y hj hy =
      let h : coded_stream p y < p.streams = parsing.stream_lt y in
      let t : Interleaves p.width p.bits p.block (coded_stream p y) = interleaves_plan p f (coded_stream p y) h in
      let bit = bit_of (axis_bits p.bits) p.streams p.encoders j y in
      let bit_lt : bit < p.block = parsing.bit_lt j y hj hy in
      let place_lt : coded_place p j y < p.block = t.place_lt bit bit_lt in
      record {
        stream_lt = h;
        place_lt = place_lt;
        carrier_lt = (div-lt_iff_lt-mul {k = p.bits} (bits_some p.bits f.bits)).1 (rw f.block_is at place_lt);
        bit_lt = mod-lt (coded_place p j y) (bits_some p.bits f.bits);
        encoder_back = ap (encoder_of (axis_bits p.bits) p.encoders) (t.source_place bit bit_lt) ∙ parsing.encoder_back j y hj;
        index_back =
            ap (index_of (axis_bits p.bits) p.streams p.encoders (coded_stream p y)) (t.source_place bit bit_lt) ∙ parsing.index_back j y hj;
      }

  -- every label place of every stream has a coded bit of the symbol, and the bit gives the place back
  pub coded_of_label : (i r : ℕ) → i < p.streams → r < p.block → CodedOfLabel p i r
  coded_of_label i r hi hr =
      let t : Interleaves p.width p.bits p.block i = interleaves_plan p f i hi in
      let k = source p.width p.bits i r in
      record {
        encoder_lt = parsing.encoder_lt k;
        index_lt = parsing.index_lt i k hi (t.source_lt r hr);
        stream_back = parsing.stream_back i k hi;
        place_back = ap (place p.width p.bits i) (parsing.bit_back i k hi) ∙ t.place_source r hr;
      }

  -- no two coded bits are in the same label place of the same stream
  pub no_two : (j y j' y' : ℕ) → j < p.encoders → y < share p → j' < p.encoders → y' < share p
      → coded_stream p y ≡ coded_stream p y' → coded_place p j y ≡ coded_place p j' y' → SameCoded j y j' y'
  no_two j y j' y' hj hy hj' hy' stream there =
      let one = label_of_coded j y hj hy in
      let two = label_of_coded j' y' hj' hy' in
      record {
        encoder = sym one.encoder_back ∙ ap (λ (i : ℕ). place_encoder p i (coded_place p j y)) stream
            ∙ ap (place_encoder p (coded_stream p y')) there ∙ two.encoder_back;
        index = sym one.index_back ∙ ap (λ (i : ℕ). place_index p i (coded_place p j y)) stream
            ∙ ap (place_index p (coded_stream p y')) there ∙ two.index_back;
      }

  -- the three together
  pub label_places : LabelPlaces p
  label_places = record { label_of_coded = label_of_coded; coded_of_label = coded_of_label; no_two = no_two }

  -- the label at place(k) is stream bit k
  pub label_at_place : (x : ℕ → ℕ) (n i k : ℕ) → i < p.streams → k < p.block
      → label_bit p x n i (place p.width p.bits i k) ≡ stream_bit p x n i k
  unfolding label_bit
  label_at_place x n i k hi hk = ap (stream_bit p x n i) ((interleaves_plan p f i hi).source_place k hk)
