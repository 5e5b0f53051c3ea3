-- `stream_halves`: the two runs round a stream's rotation are the stream.
use Rattle.std.proofs.Common.{◌-◌, length, ℕ, length-take, length-drop, length-append, arith}
use Rattle.laws.proofs.Filling.{fill_lent_all}
use Rattle.coding.proofs.HalfLaws.{Turned, rotated_few, turned, shift_few, turned_halves, turned_run}
use Rattle.coding.proofs.labels.stream_halves.Goals.{After-halves_of-first}
use Rattle.coding.proofs.labels.stream_halves.Goals as goal

-- what the code counts
turn : (c : After-halves_of-first) → Turned c.args.plan c.args.i c.axis_bits-axis.result (length c.args.halves.now) c.halves_of-first.result
turn c =
    turned c.args.plan c.requires.fits c.args.i c.requires.stream _ _ c.rotated_carriers.result _ c.axis_bits-axis.ensures c.requires.own
    (omega (arith, c.rotated_carriers.ensures)) c.halves_of-first.ensures

pub overflow_mul-bits : goal.overflow_mul-bits
overflow_mul-bits c = omega (arith, shift_few c.args.plan c.requires.fits c.args.i c.requires.stream _ c.axis_bits-axis.ensures)

pub halves_of-first-requires : goal.halves_of-first-requires
halves_of-first-requires c = rotated_few c.args.plan c.requires.fits c.args.i c.requires.stream _
    (omega (arith, c.rotated_carriers.ensures))

pub overflow_sub-rest : goal.overflow_sub-rest
overflow_sub-rest c = omega (arith, turn (goal.at.overflow_sub-rest c).After-halves_of-first)

pub put-requires : goal.put-requires
put-requires c =
    let t = turn (goal.at.put-requires c).After-halves_of-first in
    turned_run c.args.plan c.requires.fits c.args.i c.requires.stream t c.args.table.now c.requires.tabled _ c.requires.sized
    c.requires.wide_enough (omega (arith, length-take {A = ℕ}, t))

pub put-requires-2 : goal.put-requires-2
put-requires-2 c =
    let t = turn (goal.at.put-requires-2 c).After-halves_of-first in
    turned_run c.args.plan c.requires.fits c.args.i c.requires.stream t c.args.table.now c.requires.tabled _ c.requires.sized
    c.requires.wide_enough (simp (length-take, length-drop, length-append) (omega (arith, c.put.ensures.same, length-take {A = ℕ})))

pub returns : goal.returns
returns c =
    let t = turn (goal.at.returns c).After-halves_of-first in
    let rest = length c.args.halves.now - c.halves_of-first.result in
    let one = fill_lent_all 0 0 _ rest rest c.args.halves.now (omega arith) (omega arith) c.put.ensures in
    turned_halves c.args.plan c.requires.fits c.args.i c.requires.stream t c.args.table.now c.requires.tabled c.args.coded.now
    (omega (arith, t)) one
    (fill_lent_all 0 rest _ _ _ _ (omega (arith, one.same)) (omega (arith, t, one.same)) c.put-2.ensures)
