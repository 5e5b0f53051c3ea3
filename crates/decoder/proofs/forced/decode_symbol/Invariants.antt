-- `decode_symbol`: before each turn, the encoders passed are inverted.
use Rattle.deinterleaver.specs.Deinterleaved.{coded_of}
use Rattle.decoder.specs.Decoded.{histories_in}
use Rattle.decoder.proofs.EncoderLaws.{Passed}
use Rattle.decoder.proofs.forced.decode_symbol.Given as goal

abbrev pub invariant-loop-j : goal.invariant-loop-j
invariant-loop-j l = Passed (histories_in l.histories) (coded_of l.coded) l.encoders l.kept l.groups l.j l.after l.wrong l.initial.inputs
    l.inputs
