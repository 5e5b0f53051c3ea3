-- `point_labels` puts the two labels and the test together.
use Rattle.std.proofs.Common.{arith, ◌≡◌, cond, eqb, get_or}
use Rattle.std.proofs.lemmas.Bool.Decides.{nat_tests}
use Rattle.demapper.proofs.PointLaws.{point_read}
use Rattle.demapper.proofs.point.Constellation.point_labels.Goals as goal
use Rattle.demapper.proofs.point.Constellation.point_labels.Goals.{then-self-eq1, else-self-eq1}

pub returns : goal.returns
returns c = let p = c.args.self.now in
    let seconds : c.if-self-eq1.seconds ≡ cond (eqb p.bits 1) 1 (get_or p.labels.now 0 0) =
    elim c.if-self-eq1.branch [
      | then-self-eq1 w ↦ grind (arith, nat_tests, w.if-self-eq1.true)
      | else-self-eq1 w ↦ grind (arith, nat_tests, w.if-self-eq1.false)
    ] in
    point_read p.bits p.s p.levels.now p.labels.now p.tables c.args.turned c.args.x c.args.y _ _ _ _
    c.either.ensures c.level_label-first.ensures c.second_label-second.ensures seconds
