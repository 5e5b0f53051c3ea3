-- Label bits: they are bits, and those of a symbol depend on its own inputs and the six of each encoder before them only.
-- Assumes of the plan that it fits.
use mathlib.Core.Path.{◌≡◌, ◌∙◌, refl, sym, ap₂}
use mathlib.Core.Logic.{⊎_elim}
use Prim.Native.Nat.{ℕ, zero, suc, ◌+◌, ◌-◌, ◌*◌, ◌/◌, ◌%◌, ◌^◌, ◌<◌, ◌≤◌}
use native.Mathlib.Nat.{div-add-mod', div-lt_iff_lt-mul, mod-lt, mul-le-mul_right, suc-mul, pow-zero, pow-suc, eq-or-lt_of_le, le_of_suc-le-suc}
use native.Mathlib.Omega.{arith}
use borrow.Author.Tests.{lt-ltb, le-ltb}
use Rattle.laws.specs.Claim.{Claim, ◌under◌, ◌and◌, each, Holds, sound}
use Rattle.laws.proofs.Search.{lt_or_le}
use Rattle.chain.specs.declared.plan.Plan.{Plan}
use Rattle.chain.specs.Plan.{widths, bit_counts, stream_counts, carriers_of, Fits}
use Rattle.chain.specs.Encoder.{with_history}
use Rattle.chain.specs.Parser.{axis_bits}
use Rattle.chain.specs.Labels.{share, coded_bit, stream_bit, label_bit, written, half_label, halves_of}
use Rattle.chain.specs.Statements.{AgreeAt}
use Rattle.chain.proofs.Counts.{axis_some}
use Rattle.chain.proofs.KeptLaws.{kept_bit_lem}
use Rattle.chain.proofs.Window.{symbol_window, window_only}
use Rattle.chain.proofs.ParserLaws.{parses}
use Rattle.chain.proofs.InterleaverLaws.{block_axis, plan_block, interleaves_plan}

-- bits write a number below the power of two
pub written_lt : (f : ℕ → ℕ) (a count : ℕ) → ((k : ℕ) → f k < 2) → written f a count < 2 ^ count
unfolding written
written_lt f a zero bits = rw pow-zero (omega arith)
written_lt f a (suc t) bits = rw pow-suc (omega (arith, written_lt f a t bits, bits (a + t)))

-- the same bits from two places write the same number
pub written_from : (f g : ℕ → ℕ) (a b count : ℕ) → ((t : ℕ) → t < count → f (a + t) ≡ g (b + t)) → written f a count ≡ written g b count
unfolding written
written_from f g a b zero same = refl
written_from f g a b (suc t) same =
    ap₂ (λ (w d : ℕ). 2 * w + d) (written_from f g a b t (λ k l. same k (omega arith))) (same t (omega arith))

-- and the number tells its bits
pub written_told : (f g : ℕ → ℕ) (a count : ℕ) → ((k : ℕ) → f k < 2) → ((k : ℕ) → g k < 2) → written f a count ≡ written g a count
    → (t : ℕ) → t < count → f (a + t) ≡ g (a + t)
unfolding written
written_told f g a zero fs gs e t h = absurd (omega arith)
written_told f g a (suc c) fs gs e t h =
    ⊎_elim
    (λ (same : t ≡ c). rw same (omega (arith, e, fs (a + c), gs (a + c))))
    (λ (less : t < c). written_told f g a c fs gs (omega (arith, e, fs (a + c), gs (a + c))) t less)
    (eq-or-lt_of_le (le_of_suc-le-suc h))

-- a label bit is a bit
pub label_bit_lem : (p : Plan) (x : ℕ → ℕ) (n i r : ℕ) → label_bit p x n i r < 2
unfolding label_bit stream_bit coded_bit
label_bit_lem p x n i r = kept_bit_lem _ _ _

-- a half label is one of its axis's numbers
pub half_lt : (p : Plan) (x : ℕ → ℕ) (n i m : ℕ) → half_label p x n i m < 2 ^ axis_bits p.bits
half_lt p x n i m = written_lt (label_bit p x n i) (m * axis_bits p.bits) (axis_bits p.bits) (λ k. label_bit_lem p x n i k)

-- the bits of the halves are bits of the block
pub half_below : (p : Plan) (m t : ℕ) → m < halves_of p → t < axis_bits p.bits → m * axis_bits p.bits + t < p.block
half_below p m t h l =
    let s : ℕ = axis_bits p.bits in
    omega (arith, div-add-mod' p.block s, rw suc-mul at (mul-le-mul_right s h))

abbrev halves_claim : Claim
halves_claim = each widths λ w. each bit_counts λ b. 0 under carriers_of w * b / axis_bits b and each stream_counts λ S. S * (carriers_of w * b / axis_bits b) under 865

few_halves : Holds halves_claim
unfolding axis_bits
few_halves = sound halves_claim tt

module _ (p : Plan) (fits : Fits p) where
  -- the half labels of a symbol: at most four streams' two of each of 108 carriers
  pub halves_most : p.streams * halves_of p ≤ 864
  halves_most =
      rw (fits.block_is, fits.carriers_is)
      (omega (arith, (few_halves p.width fits.width p.bits fits.bits).1 p.streams fits.streams))

  -- a stream has half labels
  pub halves_some : 0 < halves_of p
  halves_some = rw (fits.block_is, fits.carriers_is) (few_halves p.width fits.width p.bits fits.bits).0

  -- a block is a whole number of half labels
  whole : p.block ≡ axis_bits p.bits * halves_of p
  whole = rw (plan_block p fits) (block_axis p.width p.bits fits.width fits.bits)

  same_line : (x y : ℕ → ℕ) (n : ℕ) → AgreeAt p x y n
      → (e : ℕ) → e < p.dbps + 6 * p.encoders → with_history x p.encoders (n * p.dbps + e) ≡ with_history y p.encoders (n * p.dbps + e)
  unfolding with_history
  same_line x y n same e h =
      ⊎_elim
      (λ (b : n * p.dbps + e < 6 * p.encoders). simp (lt-ltb (n * p.dbps + e) (6 * p.encoders)))
      (λ (b : 6 * p.encoders ≤ n * p.dbps + e).
      simp (le-ltb (n * p.dbps + e) (6 * p.encoders)) (same (n * p.dbps + e - 6 * p.encoders) (omega arith) (omega arith)))
      (lt_or_le (n * p.dbps + e) (6 * p.encoders))

  -- locality of coded bits
  pub coded_local : (x y : ℕ → ℕ) (n : ℕ) → AgreeAt p x y n
      → (j k : ℕ) → j < p.encoders → k < share p → coded_bit p x n j k ≡ coded_bit p y n j k
  coded_local x y n same j k h l =
      sym (symbol_window p fits x n j k h)
      ∙ window_only p fits _ _ (same_line x y n same) j k h l
      ∙ symbol_window p fits y n j k h

  -- locality: a symbol's label bits depend on its own inputs and each encoder's six before them only
  pub labels_local : (x y : ℕ → ℕ) (n : ℕ) → AgreeAt p x y n
      → (i r : ℕ) → i < p.streams → r < p.block → label_bit p x n i r ≡ label_bit p y n i r
  unfolding label_bit stream_bit
  labels_local x y n same i r h l =
      coded_local x y n same _ _ ((parses p fits).encoder_lt _) ((parses p fits).index_lt i _ h ((interleaves_plan p fits i h).source_lt r l))

  -- and so do its half labels
  pub halves_local : (x y : ℕ → ℕ) (n : ℕ) → AgreeAt p x y n
      → (i m : ℕ) → i < p.streams → m < halves_of p → half_label p x n i m ≡ half_label p y n i m
  halves_local x y n same i m h l =
      written_from (label_bit p x n i) (label_bit p y n i) (m * axis_bits p.bits) (m * axis_bits p.bits) (axis_bits p.bits)
      (λ t b. labels_local x y n same i _ h (half_below p m t l b))

  -- half labels tell the label bits: where two symbols have the same on a stream, they have the same label bits there
  pub halves_tell : (x y : ℕ → ℕ) (n n' i : ℕ) → ((m : ℕ) → m < halves_of p → half_label p x n i m ≡ half_label p y n' i m)
      → (r : ℕ) → r < p.block → label_bit p x n i r ≡ label_bit p y n' i r
  halves_tell x y n n' i same r h =
      let s = axis_bits p.bits in
      let some : 0 < s = axis_some p.bits fits.bits in
      let m : r / s < halves_of p = (div-lt_iff_lt-mul {k = s} some).1 (omega (arith, h, whole)) in
      let e = written_told (label_bit p x n i) (label_bit p y n' i) (r / s * s) s (label_bit_lem p x n i) (label_bit_lem p y n' i) (same (r / s) m) (r % s) (mod-lt r some) in
      rw (div-add-mod' r s) at e
