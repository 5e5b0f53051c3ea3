-- `decode_symbol`: before each turn, the encoders passed are inverted.
use Rattle.std.proofs.Common.{arith, refl}
use Rattle.chain.proofs.Counts.{encoders_some, encoders_most}
use Rattle.decoder.proofs.EncoderLaws.{passed_none, passed_more, passed_all, encoder_asked}
use Rattle.decoder.proofs.forced.decode_symbol.Goals as goal

pub loop-j-init : goal.loop-j-init
loop-j-init c = passed_none _ _ _ _ _ _ _ (omega arith) (λ j. refl)

pub decode_encoder-forced-requires : goal.decode_encoder-forced-requires
decode_encoder-forced-requires c =
    encoder_asked c.requires _ (omega (arith, encoders_most c.args.encoders c.requires.one_or_two)) c.loop-j.j c.loop-j-test.true _
    c.loop-j.invariant.same

pub loop-j-preserved : goal.loop-j-preserved
loop-j-preserved c =
    passed_more _ _ _ _ _ c.loop-j.j _ _ _ _ c.loop-j.invariant _ _ _ c.loop-j-test.true
    (encoders_most c.args.encoders c.requires.one_or_two) c.decode_encoder-forced.ensures

pub returns : goal.returns
returns c =
    passed_all _ _ _ _ _ c.loop-j.j _ _ _ _ c.loop-j.invariant (encoders_some _ c.requires.one_or_two) (omega (arith, c.loop-j-test.false))
