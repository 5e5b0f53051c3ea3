-- `stream_coded`: the two runs round a stream's rotation are the stream.
use Rattle.std.proofs.Common.{◌-◌, ◌*◌, ◌≤◌, arith, length-take}
use Rattle.deinterleaver.proofs.PlaceLaws.{turned, block_few, turn_less, shift_few, Parted, parted, first_asked, second_asked, stream_done}
use Rattle.deinterleaver.proofs.coded.stream_coded.Goals as goal
use Rattle.deinterleaver.proofs.coded.stream_coded.Goals.{After-rotated_carriers, After-split_at-2}

-- the rotation is within the block
turn_in : (c : After-rotated_carriers) → c.rotated_carriers.result * c.args.plan.bits ≤ c.args.plan.block
turn_in c = let p = c.args.plan in
    omega (
      arith,
      (turned p c.requires.fits c.args.i c.requires.stream _ _ c.axis_bits.ensures c.rotated_carriers.ensures).turn_is,
      turn_less p c.requires.fits c.args.i c.requires.stream,
    )

pub overflow_mul-shift : goal.overflow_mul-shift
overflow_mul-shift c = let e = c.axis_bits.ensures in rw e (omega (arith, shift_few c.args.plan c.requires.fits c.args.i c.requires.stream))

pub overflow_mul-turn : goal.overflow_mul-turn
overflow_mul-turn c = omega (arith, turn_in (goal.at.overflow_mul-turn c).After-rotated_carriers, block_few c.args.plan c.requires.fits)

pub overflow_sub-block : goal.overflow_sub-block
overflow_sub-block c = turn_in (goal.at.overflow_sub-block c).After-rotated_carriers

pub split_at-requires-2 : goal.split_at-requires-2
split_at-requires-2 c = let h = turn_in (goal.at.split_at-requires-2 c).After-rotated_carriers in
    omega (arith, length-take c.args.plan.block c.args.table.now, c.requires.wide_enough)

parts : (c : After-split_at-2) → let a = c.args in let turn = c.rotated_carriers.result * a.plan.bits in
    Parted a.plan a.i (a.i * c.axis_bits.result) turn (a.plan.block - turn) (a.i * a.plan.block) a.bits.now a.table.now
    c.split_at.result.0.now c.split_at.result.1.now c.split_at-2.result.0.now c.split_at-2.result.1.now
parts c = let r = c.requires in let s = c.split_at.ensures in let s' = c.split_at-2.ensures in
    parted c.args.plan r.fits c.args.i r.stream
    (turned c.args.plan r.fits c.args.i r.stream _ _ c.axis_bits.ensures c.rotated_carriers.ensures)
    r.whole_bits r.wide_enough (omega arith) s.front s.back s'.front s'.back

pub put_run-requires : goal.put_run-requires
put_run-requires c = let r = c.requires in
    first_asked c.args.plan r.fits c.args.i r.stream c.args.table.now r.tabled (parts (goal.at.put_run-requires c).After-split_at-2) r.sized

pub put_run-requires-2 : goal.put_run-requires-2
put_run-requires-2 c = let r = c.requires in
    second_asked c.args.plan r.fits c.args.i r.stream c.args.table.now r.tabled (parts (goal.at.put_run-requires-2 c).After-split_at-2)
    (omega (arith, r.sized, c.put_run.ensures.same))

pub returns : goal.returns
returns c = let r = c.requires in
    stream_done c.args.plan r.fits c.args.i r.stream c.args.table.now r.tabled (parts (goal.at.returns c).After-split_at-2) _ _ _
    c.put_run.ensures c.put_run-2.ensures
