-- `point_at`: the point of one carrier, from the half labels of its symbol.
use Rattle.query.proofs.QueryLaws.{axis_among, axis_above, point_asked, point_is}
use Rattle.query.proofs.query.point_at.Goals as goal

pub level_table-table-requires : goal.level_table-table-requires
level_table-table-requires c = axis_among c.args.s c.requires.0.right _ _ c.plan_of-plan.ensures c.axis_bits-bits_of_axis.ensures

pub nonzero_div-plan : goal.nonzero_div-plan
nonzero_div-plan c = axis_above c.args.s c.requires.0.right _ _ c.plan_of-plan.ensures c.axis_bits-bits_of_axis.ensures

pub data_point-requires : goal.data_point-requires
data_point-requires c = point_asked c.args.s c.args.payload.now c.args.n _ c.requires.0.right c.labels_of.ensures c.args.i c.args.c
    c.requires.1.0 c.requires.1.1 _ _ c.plan_of-plan.ensures c.axis_bits-bits_of_axis.ensures _ c.level_table-table.ensures

pub returns : goal.returns
returns c = point_is c.args.s c.args.payload.now c.args.n _ c.requires.0.right c.labels_of.ensures c.args.i c.args.c
    c.requires.1.0 c.requires.1.1 _ _ c.plan_of-plan.ensures c.axis_bits-bits_of_axis.ensures c.data_point.result c.data_point.ensures
