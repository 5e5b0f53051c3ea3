-- `scrambled_inputs`: data bits and outputs from one place on are mixed, with the tail where the frame has it.
use Rattle.std.proofs.Common.{replicate, arith}
use Rattle.laws.proofs.Filling.{fill_lent_all}
use Rattle.chain.proofs.ScramblerLaws.{state_small}
use Rattle.data_bits.proofs.Bytes.{data_asked}
use Rattle.inputs.proofs.Mixing.{inputs_filled}
use Rattle.inputs.proofs.line.scrambled_inputs.Goals as goal

pub data_bits-requires : goal.data_bits-requires
data_bits-requires c = data_asked _ _ _ _ tt (omega arith) (omega arith) (omega arith) (omega arith)

pub scrambler_outputs-requires : goal.scrambler_outputs-requires
scrambler_outputs-requires c = rw c.jump.ensures (state_small _ _ c.requires.seeded)

pub returns : goal.returns
returns c = let a = c.args in
    inputs_filled a.payload.now _ _ _ _ _ _ _ a.encoders a.seed a.start _ _ _ _ c.requires.few
    c.data_bits.ensures c.jump.ensures (fill_lent_all 0 0 _ _ _ (replicate 2172 0) (omega arith) (omega arith) c.scrambler_outputs.ensures)
    c.below_mark-tail.ensures c.below_mark-pad.ensures c.mix.ensures
