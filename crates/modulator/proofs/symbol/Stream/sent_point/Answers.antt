-- `sent_point` goes by the turn.
use Rattle.mapper.specs.Levels.{carrier_levels}
use Rattle.mapper.proofs.LevelLaws.{carrier_small}
use Rattle.modulator.specs.Asked.{own_half}
use Rattle.modulator.proofs.RunningLaws.{turned_point_lem}
use Rattle.modulator.proofs.symbol.Stream.sent_point.Goals as goal

pub returns-then-turned : goal.returns-then-turned
returns-then-turned c =
    let s = c.args.self.now in
    turned_point_lem c.args.turned (carrier_levels s.plan.bits (own_half s) c.args.c) c.data_point-p.result _ c.if-turned.true
    (carrier_small s.plan.bits (own_half s) c.args.c) c.data_point-p.ensures c.turn.ensures
