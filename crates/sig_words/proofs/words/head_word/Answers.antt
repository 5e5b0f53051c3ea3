-- `head_word` adds the fields up, each at its place.
use Rattle.std.proofs.Common.{arith}
use Rattle.sig_words.specs.Words.{head_word}
use Rattle.sig_words.proofs.WordLaws.{from_flag, one_small}
use Rattle.sig_words.proofs.words.head_word.Goals as goal

pub returns : goal.returns
unfolding head_word
returns c = (omega (arith, from_flag), omega (arith, from_flag, one_small))
