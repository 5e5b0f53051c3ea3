-- The interleaver's inverse of stream 0 in closed form, and the parser of one stream bit: what the functions of the table compute.
-- Assumes nothing.
use Rattle.std.proofs.Common.{◌≡◌, ◌∙◌, refl, sym, List, ℕ, ◌+◌, ◌*◌, ◌/◌, ◌%◌, ◌<◌, ◌≤◌, arith, T, get_or}
use Rattle.laws.specs.Test.{among}
use Rattle.laws.specs.Claim.{Claim, ◌is◌, ◌under◌, ◌and◌, up_to, each, unless, Holds, sound}
use Rattle.laws.specs.Filled.{Filled}
use Rattle.laws.proofs.Filling.{fill_at, fill_end}
use Rattle.chain.specs.Plan.{widths, bit_counts, Fits, axis_counts}
use Rattle.chain.specs.declared.plan.Plan.{Plan}
use Rattle.chain.specs.Parser.{axis_bits}
use Rattle.chain.specs.Interleaver.{columns, rows, rotation, block_of, shift_of, source, unrotated, unalternated, by_rows, source_form}
use Rattle.chain.proofs.Counts.{width_most, bits_most, streams_most, encoders_most, axis_some, axis_most}
use Rattle.chain.proofs.InterleaverLaws.{source_is, interleaves, plan_block}
use Rattle.sources.specs.Sources.{coded_slot, label_source, Laid}

-- the closed inverse of stream 0, over c columns of w rows, with s bits of an axis
abbrev pub closed : (c w s r : ℕ) → ℕ
closed c w s r = c * (r % w / s * s + (r + r / w) % s) + r / w

-- at every width and B it is the closed inverse of the standard's numbers, over their product
abbrev closed_claim : Claim
closed_claim = each widths λ f. each bit_counts λ b.
    columns f * rows f b is block_of f b
    and (up_to (block_of f b) λ r. closed (columns f) (rows f b) (axis_bits b) r is source_form f b 0 r)

closes : Holds closed_claim
unfolding source_form unrotated unalternated by_rows columns rows rotation shift_of block_of axis_bits
closes = sound closed_claim tt

module _ {c w s f b : ℕ} (l : Laid c w s f b) where
  -- the product is the block
  pub laid_block : c * w ≡ block_of f b
  laid_block = rw (l.columns_is, l.rows_is) (closes f l.known_width b l.known_bits).0

  -- the closed inverse is the bit that goes to place r
  pub laid_source : (r : ℕ) → r < c * w → closed c w s r ≡ source f b 0 r
  laid_source r h =
      let inside : r < block_of f b = omega (arith, laid_block) in
      rw (l.columns_is, l.rows_is, l.axis_is) ((closes f l.known_width b l.known_bits).1 r inside)
      ∙ sym (source_is f b 0 l.known_width l.known_bits (omega arith) r inside)

-- the numbers of a width and of B by their names
pub laid : (f b : ℕ) → T (among widths f) → T (among bit_counts b) → Laid (columns f) (rows f b) (axis_bits b) f b
laid f b hf hb = record { known_width = hf; known_bits = hb; columns_is = refl; rows_is = refl; axis_is = refl }

-- the same of a width and B that are equal to them
pub laid_is : (f' b' : ℕ) {f b : ℕ} → T (among widths f') → T (among bit_counts b') → f ≡ f' → b ≡ b'
    → Laid (columns f') (rows f' b') (axis_bits b') f b
laid_is f' b' hf hb e e' = rw (e, e') (laid f' b' hf hb)

-- a table of such numbers is that of the width and B
pub laid_filled : {c w s f b : ℕ} {d₀ d : List ℕ} → Laid c w s f b
    → ((f b : ℕ) → Laid c w s f b → Filled 0 0 (λ r. source f b 0 r) (c * w) d₀ d)
    → Filled 0 0 (λ r. source f b 0 r) (block_of f b) d₀ d
laid_filled l p = fill_end _ _ _ (laid_block l) (p _ _ l)

abbrev small_claim : Claim
small_claim = each widths λ w. each bit_counts λ b. block_of w b under 649

smalls : Holds small_claim
unfolding block_of
smalls = sound small_claim tt

-- a block has at most 648 bits
pub block_most : (w b : ℕ) → T (among widths w) → T (among bit_counts b) → block_of w b ≤ 648
block_most w b hw hb = omega (arith, smalls w hw b hb)

abbrev three_claim : Claim
three_claim = each axis_counts λ s. unless s 1 (unless s 2 (s is 3))

-- the last number of bits an axis has
pub three_left : Holds three_claim
three_left = sound three_claim tt

-- how large the numbers of a plan are
pub record Small (p : Plan) : Type 0 where
  pub width : p.width ≤ 40
  pub bits : p.bits ≤ 6
  pub streams : p.streams ≤ 4
  pub encoders : p.encoders ≤ 2
  pub axis_least : 1 ≤ axis_bits p.bits
  pub axis_most : axis_bits p.bits ≤ 3
  pub block : p.block ≤ 648

module _ (p : Plan) (f : Fits p) where
  -- every plan's numbers are small
  pub small : Small p
  small =
      record {
        width = width_most p.width f.width;
        bits = bits_most p.bits f.bits;
        streams = streams_most p.streams f.streams;
        encoders = encoders_most p.encoders f.encoders;
        axis_least = axis_some p.bits f.bits;
        axis_most = axis_most p.bits f.bits;
        block = omega (arith, plan_block p f, block_most p.width p.bits f.width f.bits);
      }

  -- the bits of stream 0 are those of its block
  pub source_small : (r : ℕ) → r < p.block → source p.width p.bits 0 r < 648
  source_small r h =
      let b = plan_block p f in
      let l : r < block_of p.width p.bits = omega arith in
      omega (arith, (interleaves p.width p.bits 0 f.width f.bits (omega arith)).source_lt r l, small.block)

-- the sources of stream 0, parsed in place, are the table
pub parsed_table : (p : Plan) (f : Fits p) {s e : ℕ} {d₀ d₁ d₂ : List ℕ} → axis_bits p.bits ≡ s → p.encoders ≡ e
    → Filled 0 0 (λ r. source p.width p.bits 0 r) (block_of p.width p.bits) d₀ d₁
    → Filled 0 0 (λ r. coded_slot s p.streams e 0 (get_or d₁ r 0)) p.block d₁ d₂
    → Filled 0 0 (λ r. label_source p r) p.block d₀ d₂
parsed_table p f {s} {e} {d₁ = d₁} axis encoders one two = record {
  same = two.same ∙ one.same;
  done = λ r l.
      let at : get_or d₁ r 0 ≡ source p.width p.bits 0 r =
      fill_at 0 (λ k. source p.width p.bits 0 k) one r (omega (arith, plan_block p f)) in
      let there : coded_slot s p.streams e 0 (get_or d₁ r 0) ≡ label_source p r = rw (at, axis, encoders) in
      two.done r l ∙ there;
  before = λ i l. two.before i l ∙ one.before i l;
  after = λ i l. two.after i l ∙ one.after i (omega (arith, plan_block p f));
}
