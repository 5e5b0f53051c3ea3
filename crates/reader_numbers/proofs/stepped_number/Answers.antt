-- `stepped_number` adds number, seed and state up, each at its place.
use Rattle.std.proofs.Common.{arith}
use Rattle.reader_numbers.specs.Numbers.{stepped_number}
use Rattle.reader_numbers.proofs.stepped_number.Goals as goal

pub returns : goal.returns
unfolding stepped_number
returns c = omega (arith, c.answer_number.ensures, c.answer_seed.ensures, c.state_number.ensures)
