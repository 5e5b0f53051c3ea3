-- `bits::descramble` meets its contract: inputs with the scrambler's outputs on them are the plain bits.
use Rattle.std.proofs.Common.{replicate, arith}
use Rattle.laws.proofs.Filling.{fill_lent_all}
use Rattle.deframer.proofs.Plain.{plain_filled}
use Rattle.deframer.proofs.bits.descramble.Goals as goal

pub returns : goal.returns
returns c = plain_filled _ _ _ _ _ _ _ c.requires.bits
    (fill_lent_all 0 0 _ _ _ (replicate 2160 0) (omega arith) (omega arith) c.scrambler_outputs.ensures)
    c.add_bits.ensures
