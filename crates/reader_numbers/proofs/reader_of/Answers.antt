-- `reader_of` takes each field out of its place of the number.
use Rattle.std.proofs.Common.{refl}
use Rattle.reader_numbers.specs.Numbers.{reader_of}
use Rattle.reader_numbers.proofs.reader_of.Goals as goal

pub returns : goal.returns
unfolding reader_of
returns c = refl
