-- The decoder at label bits: it gives back the inputs of every symbol, its test passes exactly for the symbols that some inputs give, and
-- histories go on from symbol to symbol. Assumes of the plan that it fits.
use mathlib.Core.Path.{◌≡◌, ◌∙◌, refl, sym, ap}
use Prim.Native.Nat.{ℕ, ◌+◌, ◌-◌, ◌*◌, ◌<◌}
use native.Mathlib.Nat.{zero-mul, mul_left_comm, mul-le-mul_left, mul-suc}
use native.Mathlib.Omega.{arith}
use lib.Dec.{T}
use Rattle.chain.specs.declared.plan.Plan.{Plan}
use Rattle.chain.specs.Plan.{groups_of, Fits}
use Rattle.chain.specs.Puncture.{kept_bit}
use Rattle.chain.specs.Parser.{axis_bits, encoder_of, index_of, stream_of, bit_of}
use Rattle.chain.specs.Interleaver.{place, source}
use Rattle.chain.specs.Labels.{share, coded_bit, stream_bit, label_bit}
use Rattle.chain.specs.Decoder.{history_after, dealt, coded_in, decoded_input, decodes, label_after, history_before}
use Rattle.chain.proofs.Counts.{encoders_some, kept_low}
use Rattle.chain.proofs.KeptLaws.{step_below}
use Rattle.chain.proofs.Window.{share_is}
use Rattle.chain.proofs.Dealing.{Gives, history_ext, coded_ext, inputs_bit, inputs_back, checks_back, checks_give}
use Rattle.chain.proofs.Machine.{history_small, history_after_lem, symbol_is}
use Rattle.chain.proofs.ParserLaws.{parses}
use Rattle.chain.proofs.InterleaverLaws.{interleaves_plan}

-- a decoded input is a bit
pub decoded_bit : (p : Plan) (hs : ℕ → ℕ) (lab : ℕ → ℕ → ℕ) (d : ℕ) → decoded_input p hs lab d < 2
decoded_bit p hs lab d = inputs_bit hs (coded_in p lab) p.encoders p.kept d

-- a history before a symbol is six bits
pub history_lt : (p : Plan) (x : ℕ → ℕ) (n j : ℕ) → history_before p x n j < 64
history_lt p x n j = history_small 0 _ _ (omega arith)

-- before the first symbol it is zero
pub history_start : (p : Plan) (x : ℕ → ℕ) (j : ℕ) → history_before p x 0 j ≡ 0
unfolding history_after
history_start p x j = rw zero-mul

module _ (p : Plan) (fits : Fits p) where
  -- the history before the next symbol is that after this symbol's inputs
  pub history_next : (x : ℕ → ℕ) (n j : ℕ)
      → history_before p x (n + 1) j
      ≡ history_after (history_before p x n j) (dealt (λ d. x (n * p.dbps + d)) p.encoders j) ((p.kept - 1) * groups_of p)
  history_next x n j = rw fits.dbps_groups (history_after_lem x p.encoders ((p.kept - 1) * groups_of p) n j)

  -- a history depends on the inputs before its symbol only
  pub history_local : (x y : ℕ → ℕ) (n j : ℕ) → j < p.encoders → ((d : ℕ) → d < n * p.dbps → x d ≡ y d)
      → history_before p x n j ≡ history_before p y n j
  history_local x y n j h same =
      history_ext 0 (dealt x p.encoders j) (dealt y p.encoders j) (n * ((p.kept - 1) * groups_of p)) (λ s l. same (p.encoders * s + j) (
      rw (fits.dbps_groups, mul_left_comm n p.encoders ((p.kept - 1) * groups_of p))
      (omega (arith, rw mul-suc at (mul-le-mul_left p.encoders l)))
      ))

  -- a label bit is the machine's, from the histories before its symbol and the symbol's own inputs
  pub label_after_lem : (x : ℕ → ℕ) → ((d : ℕ) → x d < 2) → (n i r : ℕ)
      → label_bit p x n i r ≡ label_after p (history_before p x n) (λ d. x (n * p.dbps + d)) i r
  unfolding label_bit stream_bit coded_bit label_after
  label_after_lem x bits n i r =
      let s : ℕ = axis_bits p.bits in
      let k : ℕ = source p.width p.bits i r in
      let j : ℕ = encoder_of s p.encoders k in
      let y : ℕ = index_of s p.streams p.encoders i k in
      ap (λ (w : ℕ). kept_bit x p.encoders p.kept j (n * w + y)) (share_is p fits)
      ∙ rw fits.dbps_groups (symbol_is x p.encoders p.kept (groups_of p) n j y bits fits.kept)

  -- label bits that are the machine's are its kept bits, one for one
  labels_give : (hs X : ℕ → ℕ) (lab : ℕ → ℕ → ℕ) → ((i r : ℕ) → i < p.streams → r < p.block → lab i r ≡ label_after p hs X i r)
      → Gives hs X (coded_in p lab) p.encoders p.kept (groups_of p)
  unfolding coded_in label_after
  labels_give hs X lab from j y h l =
      let b : y < share p = rw (share_is p fits) l in
      let s : ℕ = axis_bits p.bits in
      let i : ℕ = stream_of s p.streams y in
      let k : ℕ = bit_of s p.streams p.encoders j y in
      let li : i < p.streams = (parses p fits).stream_lt y in
      let lk : k < p.block = (parses p fits).bit_lt j y h b in
      from i (place p.width p.bits i k) li ((interleaves_plan p fits i li).place_lt k lk)
      ∙ rw ((interleaves_plan p fits i li).source_place k lk, (parses p fits).encoder_back j y h, (parses p fits).index_back j y h)

  -- a label place's bit is one of the symbol's kept bits
  index_below : (i r : ℕ) → i < p.streams → r < p.block
      → index_of (axis_bits p.bits) p.streams p.encoders i (source p.width p.bits i r) < p.kept * groups_of p
  index_below i r h l = rw (share_is p fits) at ((parses p fits).index_lt i _ h ((interleaves_plan p fits i h).source_lt r l))

  give_labels : (hs X : ℕ → ℕ) (lab : ℕ → ℕ → ℕ) → Gives hs X (coded_in p lab) p.encoders p.kept (groups_of p)
      → (i r : ℕ) → i < p.streams → r < p.block → lab i r ≡ label_after p hs X i r
  unfolding coded_in label_after
  give_labels hs X lab gives i r h l =
      let s : ℕ = axis_bits p.bits in
      let k : ℕ = source p.width p.bits i r in
      let y : ℕ = index_of s p.streams p.encoders i k in
      let g = gives (encoder_of s p.encoders k) y ((parses p fits).encoder_lt k) (index_below i r h l) in
      rw ((parses p fits).stream_back i k h, (parses p fits).bit_back i k h, (interleaves_plan p fits i h).place_source r l) at g

  -- the machine's label bits depend on the encoders' histories
  pub after_same : (hs hs' X : ℕ → ℕ) → ((j : ℕ) → j < p.encoders → hs j ≡ hs' j) → (i r : ℕ) → label_after p hs X i r ≡ label_after p hs' X i r
  unfolding label_after
  after_same hs hs' X same i r = rw (same _ ((parses p fits).encoder_lt (source p.width p.bits i r)))

  -- and on the symbol's own inputs only
  pub after_local : (hs X Y : ℕ → ℕ) → ((d : ℕ) → d < p.dbps → X d ≡ Y d)
      → (i r : ℕ) → i < p.streams → r < p.block → label_after p hs X i r ≡ label_after p hs Y i r
  unfolding label_after
  after_local hs X Y same i r h l =
      let s : ℕ = axis_bits p.bits in
      let k : ℕ = source p.width p.bits i r in
      let j : ℕ = encoder_of s p.encoders k in
      let y : ℕ = index_of s p.streams p.encoders i k in
      let below : y < p.kept * groups_of p = index_below i r h l in
      coded_ext (hs j) (dealt X p.encoders j) (dealt Y p.encoders j) p.kept y (λ t b.
      let turn : t < (p.kept - 1) * groups_of p = omega (arith, step_below p.kept y (kept_low p.kept fits.kept) (groups_of p) below) in
      same (p.encoders * t + j)
      (rw fits.dbps_groups (omega (arith, (parses p fits).encoder_lt k, rw mul-suc at (mul-le-mul_left p.encoders turn)))))

  -- lab are label bits that the machine gives for inputs X after histories hs
  module _ (hs X : ℕ → ℕ) (lab : ℕ → ℕ → ℕ) (bits : (d : ℕ) → d < p.dbps → X d < 2)
      (from : (i r : ℕ) → i < p.streams → r < p.block → lab i r ≡ label_after p hs X i r) where
    -- recovery: they decode to X
    pub given_decode : (d : ℕ) → d < p.dbps → decoded_input p hs lab d ≡ X d
    given_decode d l =
        inputs_back hs (coded_in p lab) p.encoders p.kept (groups_of p) (encoders_some p.encoders fits.encoders) (kept_low p.kept fits.kept)
        X (λ k b. bits k (rw fits.dbps_groups b)) (labels_give hs X lab from) d (rw fits.dbps_groups at l)

    -- and pass the test
    pub given_decodes : T (decodes p hs lab)
    given_decodes =
        checks_back hs (coded_in p lab) p.encoders p.kept (groups_of p) (encoders_some p.encoders fits.encoders) (kept_low p.kept fits.kept)
        X (λ k b. bits k (rw fits.dbps_groups b)) (labels_give hs X lab from)

  coded_in_bit : (lab : ℕ → ℕ → ℕ) → ((i r : ℕ) → i < p.streams → r < p.block → lab i r < 2)
      → (j y : ℕ) → j < p.encoders → y < p.kept * groups_of p → coded_in p lab j y < 2
  unfolding coded_in
  coded_in_bit lab bits j y h l =
      let b : y < share p = rw (share_is p fits) l in
      let li = (parses p fits).stream_lt y in
      bits _ _ li ((interleaves_plan p fits _ li).place_lt _ ((parses p fits).bit_lt j y h b))

  -- the converse: label bits that pass the test are those of the decoded inputs
  pub decoded_labels : (hs : ℕ → ℕ) (lab : ℕ → ℕ → ℕ) → ((i r : ℕ) → i < p.streams → r < p.block → lab i r < 2) → T (decodes p hs lab)
      → (i r : ℕ) → i < p.streams → r < p.block → lab i r ≡ label_after p hs (decoded_input p hs lab) i r
  decoded_labels hs lab bits t =
      give_labels hs (decoded_input p hs lab) lab
      (checks_give hs (coded_in p lab) p.encoders p.kept (groups_of p) (encoders_some p.encoders fits.encoders) (kept_low p.kept fits.kept)
      (coded_in_bit lab bits) t)

  -- the label bits of inputs X after any histories decode to X
  pub decode_after : (hs X : ℕ → ℕ) → ((d : ℕ) → d < p.dbps → X d < 2)
      → (d : ℕ) → d < p.dbps → decoded_input p hs (label_after p hs X) d ≡ X d
  decode_after hs X bits = given_decode hs X (label_after p hs X) bits (λ i r h l. refl)

  -- and pass the test
  pub after_decodes : (hs X : ℕ → ℕ) → ((d : ℕ) → d < p.dbps → X d < 2) → T (decodes p hs (label_after p hs X))
  after_decodes hs X bits = given_decodes hs X (label_after p hs X) bits (λ i r h l. refl)

  -- recovery: symbol n's label bits decode to its inputs
  pub decode_labels : (x : ℕ → ℕ) → ((d : ℕ) → x d < 2) → (n d : ℕ) → d < p.dbps
      → decoded_input p (history_before p x n) (label_bit p x n) d ≡ x (n * p.dbps + d)
  decode_labels x bits n =
      given_decode (history_before p x n) (λ d. x (n * p.dbps + d)) (label_bit p x n) (λ d l. bits _) (λ i r h l. label_after_lem x bits n i r)

  -- forced: after equal histories, equal label bits of a symbol are of equal inputs
  pub labels_force : (x y : ℕ → ℕ) → ((d : ℕ) → x d < 2) → ((d : ℕ) → y d < 2) → (n : ℕ)
      → ((j : ℕ) → j < p.encoders → history_before p x n j ≡ history_before p y n j)
      → ((i r : ℕ) → i < p.streams → r < p.block → label_bit p x n i r ≡ label_bit p y n i r)
      → (d : ℕ) → d < p.dbps → x (n * p.dbps + d) ≡ y (n * p.dbps + d)
  labels_force x y bx by n histories labels d l =
      sym (decode_labels x bx n d l)
      ∙ given_decode (history_before p x n) (λ k. y (n * p.dbps + k)) (label_bit p x n) (λ k b. by _)
      (λ i r h b. labels i r h b ∙ label_after_lem y by n i r
      ∙ after_same (history_before p y n) (history_before p x n) (λ k. y (n * p.dbps + k)) (λ j c. sym (histories j c)) i r)
      d l
