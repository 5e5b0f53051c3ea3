-- At B = 1 `second_label` is whether the level is 0.
use Rattle.demapper.proofs.PointLaws.{second_one}
use Rattle.demapper.proofs.point.Constellation.second_label.Goals as goal

pub returns-then-self-eq1 : goal.returns-then-self-eq1
returns-then-self-eq1 c = let a = c.args in
    second_one a.self.now.bits a.turned a.x a.y _ _ _ c.if-self-eq1.true c.either.ensures c.bits_of.ensures c.from.ensures
