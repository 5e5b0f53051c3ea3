-- The interleaver permutes a stream's block, and the inverse found by looking is the closed one: computed at every width, B, stream and place.
-- Assumes nothing.
use mathlib.Core.Path.{◌≡◌, ◌∙◌, sym, ap}
use Prim.Native.Nat.{ℕ, ◌+◌, ◌-◌, ◌*◌, ◌/◌, ◌%◌, ◌<◌}
use native.Mathlib.Nat.{mod-lt, mod-eq_of_lt, add-zero, zero-mul}
use native.Mathlib.Omega.{arith}
use lib.Dec.{T, eqb}
use borrow.Author.Tests.{eq-eqb, ne_eqb}
use Rattle.laws.specs.Test.{among}
use Rattle.laws.specs.Claim.{Claim, ◌is◌, ◌under◌, ◌and◌, up_to, each, Holds, sound}
use Rattle.laws.proofs.Least.{first_is}
use Rattle.chain.specs.declared.plan.Plan.{Plan}
use Rattle.chain.specs.Plan.{widths, bit_counts, Fits}
use Rattle.chain.specs.Parser.{axis_bits}
use Rattle.chain.specs.Interleaver.{columns, rows, rotation, block_of, by_columns, alternated, shift_of, rotated, place, source, unrotated, unalternated, by_rows, source_form}
use Rattle.chain.specs.Statements.{Interleaves}
use Rattle.chain.proofs.Counts.{streams_most}

-- at every width, B, stream and bit of the block
abbrev everywhere : ((w b i k : ℕ) → Claim) → Claim
everywhere f = each widths λ w. each bit_counts λ b. up_to 4 λ i. up_to (block_of w b) λ k. f w b i k

abbrev forth_claim : Claim
forth_claim = everywhere λ w b i k. let r = place w b i k in r under block_of w b and source_form w b i r is k

forth : Holds forth_claim
unfolding place by_columns alternated rotated source_form unrotated unalternated by_rows columns rows rotation shift_of block_of axis_bits
forth = sound forth_claim tt

abbrev back_claim : Claim
back_claim = everywhere λ w b i r. let k = source_form w b i r in k under block_of w b and place w b i k is r

back : Holds back_claim
unfolding place by_columns alternated rotated source_form unrotated unalternated by_rows columns rows rotation shift_of block_of axis_bits
back = sound back_claim tt

-- the first permutation undone by the remainder is the difference that is printed
abbrev printed_claim : Claim
printed_claim = each widths λ w. each bit_counts λ b. up_to (block_of w b) λ i. by_rows w b i is columns w * i - (block_of w b - 1) * (i / rows w b)

pub rows_as_printed : Holds printed_claim
unfolding by_rows columns rows block_of
rows_as_printed = sound printed_claim tt

-- what the third permutation takes away is less than the block
abbrev shift_claim : Claim
shift_claim = each widths λ w. each bit_counts λ b. up_to 4 λ i. shift_of w b i under block_of w b

shifts : Holds shift_claim
unfolding shift_of rotation block_of
shifts = sound shift_claim tt

abbrev block_claim : Claim
block_claim = each widths λ w. each bit_counts λ b. block_of w b is axis_bits b * (block_of w b / axis_bits b)

blocks : Holds block_claim
unfolding block_of axis_bits
blocks = sound block_claim tt

-- stream 0 is not rotated
pub shift_zero : (w b : ℕ) → shift_of w b 0 ≡ 0
unfolding shift_of
shift_zero w b = rw (zero-mul (rotation w), zero-mul b)

-- a block is a whole number of half labels
pub block_axis : (w b : ℕ) → T (among widths w) → T (among bit_counts b) → block_of w b ≡ axis_bits b * (block_of w b / axis_bits b)
block_axis w b hw hb = blocks w hw b hb

module _ (w b i : ℕ) (hw : T (among widths w)) (hb : T (among bit_counts b)) (hi : i < 4) where
  -- a rotation is less than the block
  pub shift_lt : shift_of w b i < block_of w b
  shift_lt = shifts w hw b hb i hi

  -- the inverse found by looking is the closed one
  pub source_is : (r : ℕ) → r < block_of w b → source w b i r ≡ source_form w b i r
  unfolding source
  source_is r hr =
      let inside : source_form w b i r < block_of w b = (back w hw b hb i hi r hr).0 in
      first_is (λ k. eqb (place w b i k) r) 0 (block_of w b) (source_form w b i r) (omega arith) (omega (arith, inside))
      (eq-eqb _ _ (back w hw b hb i hi r hr).1)
      (λ k low before. ne_eqb _ _ (λ e. not_before k before (omega (arith, inside)) e))
    where
      not_before : (k : ℕ) → k < source_form w b i r → k < block_of w b → place w b i k ≡ r → ⊥
      not_before k before hk e =
          let same : source_form w b i r ≡ k = ap (source_form w b i) (sym e) ∙ (forth w hw b hb i hi k hk).1 in
          omega (arith, before, same)

  -- the interleaver of stream i permutes the block, and `source` undoes it
  pub interleaves : Interleaves w b (block_of w b) i
  interleaves = record {
    place_lt = λ k hk. (forth w hw b hb i hi k hk).0;
    source_lt = λ r hr. rw (source_is r hr) (back w hw b hb i hi r hr).0;
    source_place = λ k hk. source_is (place w b i k) (forth w hw b hb i hi k hk).0 ∙ (forth w hw b hb i hi k hk).1;
    place_source = λ r hr. ap (place w b i) (source_is r hr) ∙ (back w hw b hb i hi r hr).1;
  }

  turned_lt : (r : ℕ) → (r + shift_of w b i) % block_of w b < block_of w b
  turned_lt r = mod-lt (r + shift_of w b i) (omega (arith, shift_lt))

  turned_form : (r : ℕ) → source_form w b i r ≡ source_form w b 0 ((r + shift_of w b i) % block_of w b)
  unfolding source_form unrotated
  turned_form r = rw (shift_zero w b, add-zero ((r + shift_of w b i) % block_of w b), mod-eq_of_lt (turned_lt r))

-- stream i's inverse is stream 0's, turned by the rotation
pub source_shift : (w b i : ℕ) → T (among widths w) → T (among bit_counts b) → i < 4 → (r : ℕ) → r < block_of w b
    → source w b i r ≡ source w b 0 ((r + shift_of w b i) % block_of w b)
source_shift w b i hw hb hi r hr =
    source_is w b i hw hb hi r hr
    ∙ turned_form w b i hw hb hi r
    ∙ sym (source_is w b 0 hw hb (omega arith) ((r + shift_of w b i) % block_of w b) (turned_lt w b i hw hb hi r))

module _ (p : Plan) (f : Fits p) where
  -- the number of a plan's stream is below 4
  pub stream_below_four : (i : ℕ) → i < p.streams → i < 4
  stream_below_four i h = omega (arith, h, streams_most p.streams f.streams)

  -- a plan's block is the interleaver's
  pub plan_block : p.block ≡ block_of p.width p.bits
  unfolding block_of
  plan_block = rw (f.block_is, f.carriers_is)

  -- the interleaver of every stream of a plan permutes the plan's block
  pub interleaves_plan : (i : ℕ) → i < p.streams → Interleaves p.width p.bits p.block i
  interleaves_plan i h = rw plan_block (interleaves p.width p.bits i f.width f.bits (stream_below_four i h))
