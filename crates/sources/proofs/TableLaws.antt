-- The bits of any stream through the table of stream 0's: where they stand among the coded bits. Assumes of the plan that it fits.
use Rattle.std.proofs.Common.{◌≡◌, ◌∙◌, sym, ap, subst, List, ⊎_elim, ℕ, ◌+◌, ◌*◌, ◌/◌, ◌%◌, ◌<◌, ◌≤◌, arith, get_or}
use Rattle.laws.proofs.Radix.{rem_of}
use Rattle.laws.proofs.Search.{lt_or_le}
use Rattle.chain.specs.declared.plan.Plan.{Plan}
use Rattle.chain.specs.Plan.{Fits}
use Rattle.chain.specs.Parser.{axis_bits, index_of}
use Rattle.chain.specs.Interleaver.{block_of, shift_of, source}
use Rattle.chain.proofs.InterleaverLaws.{source_shift, stream_below_four, plan_block}
use Rattle.sources.specs.Sources.{coded_slot, label_source}

-- the coded bits of one encoder or of two have room
pub coded_room : (c e j y : ℕ) → 1 ≤ e → e ≤ 2 → c ≤ 2592 → j < e → y < c / e → 1296 * j + y < 2592
coded_room c e j y some most room hj hy = ⊎_elim
    (λ (l : e < 2). let one : e ≡ 1 = omega arith in omega (arith, subst (λ (d : ℕ). y < c / d) one hy))
    (λ (l : 2 ≤ e). let two : e ≡ 2 = omega arith in omega (arith, subst (λ (d : ℕ). y < c / d) two hy))
    (lt_or_le e 2)

-- bit k of stream i stands i·s places behind that of stream 0
place_shift : (s streams encoders i k : ℕ) → coded_slot s streams encoders 0 k + i * s ≡ coded_slot s streams encoders i k
unfolding index_of
place_shift s streams encoders i k = omega arith

module _ (p : Plan) (f : Fits p) (i : ℕ) (hi : i < p.streams) (table : List ℕ) (tabled : (r : ℕ) → r < p.block → get_or table r 0 ≡ label_source p r) where
  -- the table's place r, as many places on, is a place of stream i
  pub place_there : (r : ℕ) → r < p.block
      → get_or table r 0 + i * axis_bits p.bits ≡ coded_slot (axis_bits p.bits) p.streams p.encoders i (source p.width p.bits 0 r)
  place_there r l =
      ap (λ (x : ℕ). x + i * axis_bits p.bits) (tabled r l)
      ∙ place_shift (axis_bits p.bits) p.streams p.encoders i (source p.width p.bits 0 r)

  -- the table's place that is bit r of stream i: the rotation on, and round
  pub turned_bit : (r r' g : ℕ) → r < p.block → r' < p.block → r + shift_of p.width p.bits i ≡ g * p.block + r'
      → get_or table r' 0 + i * axis_bits p.bits ≡ coded_slot (axis_bits p.bits) p.streams p.encoders i (source p.width p.bits i r)
  turned_bit r r' g l l' e =
      let w = p.width in
      let b = p.bits in
      let block_is : p.block ≡ block_of w b = plan_block p f in
      let on : (r + shift_of w b i) % block_of w b ≡ r' =
      rem_of (block_of w b) g r' (r + shift_of w b i) (omega arith) (e ∙ ap (λ (x : ℕ). g * x + r') block_is) in
      let same : source w b i r ≡ source w b 0 r' =
      source_shift w b i f.width f.bits (stream_below_four p f i hi) r (omega arith) ∙ ap (source w b 0) on in
      place_there r' l' ∙ ap (λ (k : ℕ). coded_slot (axis_bits b) p.streams p.encoders i k) (sym same)
