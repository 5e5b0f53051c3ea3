-- `sig_word` adds the CRC's field to the head.
use Rattle.std.proofs.Common.{ℕ, ◌+◌, ◌*◌, ◌<◌, arith}
use Rattle.sig_words.specs.Words.{sig_word}
use Rattle.sig_words.proofs.words.sig_word.Goals as goal

few_bits : (h f : ℕ) → h < 17179869184 → f < 256 → h + 17179869184 * f < 4398046511104
few_bits h f a b = omega arith

pub returns : goal.returns
unfolding sig_word
returns c = (cc, few_bits _ _ c.head_word-head.ensures.1 c.crc_field.ensures.1)
