-- `write_symbol`: the half labels, and the points from them.
use Rattle.frame.proofs.PointsLaws.{symbol_asked, symbol_filled}
use Rattle.frame.proofs.points.write_symbol.Goals as goal

pub symbol_points-requires : goal.symbol_points-requires
symbol_points-requires c = symbol_asked c.args.s c.args.payload.now c.args.n _ c.labels_of.ensures _ c.plan_of.ensures c.args.out.now
    c.requires

pub returns : goal.returns
returns c = symbol_filled c.args.s c.args.payload.now c.args.n _ c.labels_of.ensures _ c.plan_of.ensures
    c.requires.in_frame.right c.args.out.now _ c.symbol_points.ensures
