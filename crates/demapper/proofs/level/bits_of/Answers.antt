-- `bits_of`: a NaN's one pattern, and every other float's own.
use Rattle.std.proofs.Common.{sym}
use Rattle.demapper.proofs.LabelLaws.{real, nan_bits}
use Rattle.demapper.proofs.level.bits_of.Goals as goal

pub returns-then-x : goal.returns-then-x
returns-then-x c = sym (nan_bits c.args.x c.if-x.true)

pub float_to_bits-result : goal.float_to_bits-result
float_to_bits-result c = real c.args.x c.if-x.false
