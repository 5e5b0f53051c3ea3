-- `symbol_points` writes the symbol stream by stream.
use Rattle.std.proofs.Common.{◌≡◌, refl, sym, ap, subst, ℕ, ◌*◌, ◌/◌, arith, T}
use Rattle.laws.specs.Test.{among}
use Rattle.chain.specs.Labels.{halves_of}
use Rattle.chain.proofs.Counts.{axis_known, axis_some}
use Rattle.chain.specs.Plan.{axis_counts}
use Rattle.mapper.specs.Mapped.{LevelTable}
use Rattle.modulator.specs.Symbol.{stream_floats}
use Rattle.modulator.proofs.RunningLaws.{stream_asked, stream_more}
use Rattle.modulator.proofs.symbol.symbol_points.Goals.{After-places_of-floats}
use Rattle.modulator.proofs.symbol.symbol_points.Goals as goal

pub level_table-table-requires : goal.level_table-table-requires
level_table-table-requires c = subst (λ (s : ℕ). T (among axis_counts s)) (sym c.axis_bits-s.ensures)
    (axis_known c.args.plan.bits c.requires.fits.bits)

pub nonzero_div-count : goal.nonzero_div-count
nonzero_div-count c = omega (arith, axis_some c.args.plan.bits c.requires.fits.bits, c.axis_bits-s.ensures)

-- the floats and the half labels of a stream
floats_are : (c : After-places_of-floats) → 2 * c.places_of-floats.result ≡ stream_floats c.args.plan.width
floats_are c = ap (λ (k : ℕ). 2 * k) c.places_of-floats.ensures

count_is : (c : After-places_of-floats) → c.args.plan.block / c.axis_bits-s.result ≡ halves_of c.args.plan
count_is c = ap (λ (k : ℕ). c.args.plan.block / k) c.axis_bits-s.ensures

pub put_points-requires : goal.put_points-requires
put_points-requires c =
    let at = (goal.at.put_points-requires c).After-places_of-floats in
    let tabled = subst (λ (s : ℕ). LevelTable s c.level_table-table.result) c.axis_bits-s.ensures c.level_table-table.ensures in
    let asked = stream_asked _ c.args.out.now _ _ _ c.requires c.loop-i.invariant.same tabled (omega arith) refl refl (floats_are at)
    (count_is at) in
    (asked, c.polarity_bit-polarity.ensures.1)

pub loop-i-preserved : goal.loop-i-preserved
loop-i-preserved c =
    let at = (goal.at.loop-i-preserved c).After-places_of-floats in
    stream_more c.args.plan c.args.halves.now c.args.format c.args.n c.loop-i.i _ _ _ _ _ (floats_are at) (count_is at) c.loop-i.invariant
    (c.put_points.ensures c.args.format c.polarity_bit-polarity.ensures.0)
