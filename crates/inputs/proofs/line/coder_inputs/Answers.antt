-- `coder_inputs`: zeros before the frame's first bit, and the scrambled inputs behind them.
use Rattle.std.proofs.Common.{length, arith}
use Rattle.laws.proofs.Filling.{fill_lent_all, fill_same}
use Rattle.chain.specs.DataBits.{payload_bit, coder_input}
use Rattle.chain.proofs.Counts.{encoders_most}
use Rattle.inputs.proofs.Mixing.{line_filled}
use Rattle.inputs.proofs.line.coder_inputs.Goals as goal

pub returns : goal.returns
returns c = let a = c.args in
    let head = c.below_mark-head.result in
    let zeros = fill_same 0 0 0 head head a.line.now _ (omega arith) (omega arith) (c.fill.ensures.after (λ y e. e)) in
    line_filled (coder_input (payload_bit a.payload.now) (length a.payload.now) a.encoders a.seed) a.encoders a.first _ _ _ _ _
    (encoders_most c.args.encoders c.requires.one_or_two) c.requires.some c.below_mark-head.ensures zeros
    (fill_lent_all 0 head _ _ _ _ (omega (arith, zeros.same)) (omega (arith, zeros.same)) c.scrambled_inputs.ensures)
