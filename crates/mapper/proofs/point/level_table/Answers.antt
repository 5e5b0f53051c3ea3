-- `level_table` is the row of the number of bits.
use Rattle.std.proofs.Common.{[], refl}
use lib.Ieee.{neg, of_bits, of_int}
use Rattle.mapper.specs.declared.point.TheConstants.{LEVELS}
use Rattle.mapper.specs.Levels.{level_of}
use Rattle.mapper.proofs.PointLaws.{row_tabled}
use Rattle.mapper.proofs.point.level_table.Goals as goal

pub returns : goal.returns
unfolding neg of_bits of_int level_of
returns c = row_tabled LEVELS [] c.args.s c.requires refl refl refl
