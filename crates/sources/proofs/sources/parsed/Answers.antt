-- `parsed` is the parser's rule.
use Rattle.std.proofs.Common.{arith}
use Rattle.chain.specs.Parser.{encoder_of, index_of}
use Rattle.sources.proofs.sources.parsed.Goals as goal

pub returns : goal.returns
unfolding encoder_of index_of
returns g c = omega arith
