-- `crc_wrong` is the definition's test.
use Rattle.sig_words.specs.Words.{word_crc_wrong}
use Rattle.sig_words.proofs.words.crc_wrong.Goals as goal

pub returns : goal.returns
unfolding word_crc_wrong
returns c = cc
