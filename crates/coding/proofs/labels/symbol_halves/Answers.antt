-- `symbol_halves` writes the half labels stream by stream.
use Rattle.std.proofs.Common.{◌≡◌, ap, ℕ, ◌+◌, ◌*◌, ◌≤◌, length, length-take, length-drop, rules, arith}
use Rattle.laws.proofs.Filling.{fill_at, fill_from, fill_lent}
use Rattle.chain.specs.Labels.{halves_of}
use Rattle.coding.proofs.HalfLaws.{counted_halves, stream_room, halves_more}
use Rattle.coding.proofs.labels.symbol_halves.Goals.{In-loop-i}
use Rattle.coding.proofs.labels.symbol_halves.Goals as goal

count_is : (c : In-loop-i) → c.halves_of-count.result ≡ halves_of c.args.plan
count_is c = counted_halves c.args.plan c.requires.fits _ c.halves_of-count.ensures

room : (c : In-loop-i) → (c.loop-i.i + 1) * c.halves_of-count.result ≤ length c.loop-i.halves
room c =
    let among = stream_room c.args.plan c.requires.fits c.loop-i.i c.loop-i-test.true _ (count_is c) in
    omega (arith, among, c.requires.room, c.loop-i.invariant.same)

pub slice_bounds-stream_halves-end : goal.slice_bounds-stream_halves-end
slice_bounds-stream_halves-end c = omega (arith, room c)

pub stream_halves-requires : goal.stream_halves-requires
stream_halves-requires c =
    let d = (goal.at.stream_halves-requires c).In-loop-i in
    record {
      fits = c.requires.fits;
      own = simp (length-take, length-drop) (omega (arith, room d, count_is d));
      sized = c.requires.sized;
      stream = c.loop-i-test.true;
      wide_enough = search rules;
      tabled = λ r l. fill_at 0 _ c.label_sources.ensures r l;
    }

pub loop-i-preserved : goal.loop-i-preserved
loop-i-preserved c =
    let d = (goal.at.loop-i-preserved c).In-loop-i in
    halves_more _ _ _ _ _ _ c.loop-i.invariant
    (fill_from 0 _ (ap (λ (k : ℕ). c.loop-i.i * k) (count_is d))
    (fill_lent 0 _ _ _ _ _ (omega (arith, room d)) (omega (arith, count_is d)) c.stream_halves.ensures))
