-- `decode_groups`: before each group, the inputs forced so far are put and the wrong first bits are counted.
use Rattle.std.proofs.Common.{arith}
use Rattle.forcing.proofs.GroupLaws.{none, turn, group_bit, group_asked, group_done, counted, all_done}
use Rattle.forcing.proofs.steps.decode_groups.Goals as goal

pub loop-g-init : goal.loop-g-init
loop-g-init g c = none c.requires

pub sum_after-b-requires : goal.sum_after-b-requires
sum_after-b-requires g c = let h = c.loop-g-test.true in
    (c.loop-g.invariant.0.small, group_bit c.requires h 1 (omega (arith, turn c.requires h)))

pub group-h-requires : goal.group-h-requires
group-h-requires g c = group_asked c.requires c.loop-g-test.true c.loop-g.invariant.0

pub loop-g-preserved : goal.loop-g-preserved
loop-g-preserved g c = let p = c.requires in
    let l = c.loop-g in
    let h = c.loop-g-test.true in (
      group_done p h l.invariant.0 c.group-h.ensures,
      counted p h l.invariant.0 l.invariant.1 c.sum_after-b.ensures.value c.sum_after-a.ensures.value c.from-wrong.ensures,
    )

pub returns : goal.returns
returns g c = all_done c.requires (omega (arith, c.loop-g-test.false)) c.loop-g.invariant.0 c.loop-g.invariant.1
