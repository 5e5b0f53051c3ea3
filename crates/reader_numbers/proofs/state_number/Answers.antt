-- `state_number` adds the fields up, each at its place.
use Rattle.std.proofs.Common.{arith}
use Rattle.sig_words.proofs.WordLaws.{from_flag, one_small}
use Rattle.reader_numbers.specs.Numbers.{state_number}
use Rattle.reader_numbers.proofs.state_number.Goals as goal

pub returns : goal.returns
unfolding state_number
returns c = (omega (arith, from_flag), omega (arith, from_flag, one_small))
