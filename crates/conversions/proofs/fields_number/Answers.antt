-- `fields_number` adds the fields up, each at its place.
use Rattle.std.proofs.Common.{arith}
use Rattle.sig_words.proofs.WordLaws.{from_flag, one_small}
use Rattle.conversions.specs.Results.{fields_number}
use Rattle.conversions.proofs.fields_number.Goals as goal

pub returns : goal.returns
unfolding fields_number
returns c = (omega (arith, from_flag), omega (arith, from_flag, one_small))
