-- `negated` goes by whether the level is zero.
use lib.Ieee.{neg, of_bits, of_int}
use Rattle.mapper.proofs.LevelLaws.{negated_zero, negated_other}
use Rattle.mapper.proofs.point.negated.Goals as goal

pub returns-then-x : goal.returns-then-x
unfolding neg of_bits of_int
returns-then-x c = negated_zero c.args.x c.if-x.true

pub returns-else-x : goal.returns-else-x
unfolding of_bits of_int
returns-else-x c = negated_other c.args.x c.if-x.false
