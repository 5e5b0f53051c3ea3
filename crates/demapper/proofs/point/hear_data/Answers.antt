-- `hear_data` stores the bits of one label or of two.
use Rattle.std.proofs.Common.{arith}
use Rattle.demapper.proofs.PointLaws.{axis_room, data_one, data_two}
use Rattle.demapper.proofs.point.hear_data.Goals as goal

pub put_label-requires : goal.put_label-requires
put_label-requires c = let room = axis_room c.args.bits c.args.s c.requires.0.known c.requires.0.axis_is in
    (room.few, omega (arith, room.one, c.requires.1))

pub returns-then-bits-eq1 : goal.returns-then-bits-eq1
returns-then-bits-eq1 c = data_one c.args.bits c.args.s c.requires.0.known c.requires.0.axis_is c.args.turned c.args.x c.args.y c.args.at
    c.point_labels-p.result _ _ c.point_labels-p.ensures c.if-bits-eq1.true c.put_label.ensures

pub put_label-requires-2 : goal.put_label-requires-2
put_label-requires-2 c = let room = axis_room c.args.bits c.args.s c.requires.0.known c.requires.0.axis_is in
    (room.few, omega (arith, room.two c.if-bits-eq1.false, c.requires.1, c.put_label.ensures.same))

pub returns : goal.returns
returns c = data_two c.args.bits c.args.s c.requires.0.known c.requires.0.axis_is c.args.turned c.args.x c.args.y c.args.at
    c.point_labels-p.result _ _ _ c.point_labels-p.ensures c.if-bits-eq1.false c.put_label.ensures
    c.put_label-2.ensures
