-- `sig_crc::crc::crc_field`: the field by its eight complemented bits.
use Rattle.std.proofs.Common.{arith}
use Rattle.sig_crc.specs.Crc.{crc_field}
use Rattle.sig_crc.proofs.crc.crc_field.Goals as goal

pub returns : goal.returns
unfolding crc_field
returns c = (cc, omega arith)
