-- `mix`: all bits with the outputs on them, and zeros in the tail, are the inputs.
use Rattle.std.proofs.Common.{◌-◌, arith}
use Rattle.laws.proofs.Filling.{fill_same}
use Rattle.inputs.proofs.Mixing.{mixed_filled}
use Rattle.inputs.proofs.line.mix.Goals as goal

pub returns : goal.returns
returns c = let a = c.args in
    let q = c.requires in
    mixed_filled a.raw.now a.outputs.now a.tail a.pad _ q.ordered q.ends q.raw_bits q.out_bits c.add_bits.ensures
    (fill_same 0 a.tail 0 (a.pad - a.tail) _ c.add_bits.new.sums _ (omega (arith, c.add_bits.ensures.same)) (omega arith)
    (c.fill.ensures.after (λ y e. e)))
