-- `bytes::pack` meets its contract: each turn adds one bit at its place.
use Rattle.std.proofs.Common.{◌+◌, ◌∙◌, sym, ap, get_or, arith}
use Rattle.assembler.specs.Assembled.{bits_number}
use Rattle.assembler.proofs.Packing.{packed_none, packed_more}
use Rattle.assembler.proofs.bytes.pack.Goals as goal

pub loop-k-init : goal.loop-k-init
loop-k-init c = record { number = sym (packed_none _ c.args.at); small = omega arith }

pub loop-k-preserved : goal.loop-k-preserved
loop-k-preserved c =
    let l = c.loop-k in
    let more = packed_more (λ j. get_or c.args.line.now j 0) c.args.at l.k l.byte c.loop-k-test.true (c.requires.bits (c.args.at + l.k))
    l.invariant.number l.invariant.small in
    record { number = more.0; small = more.1 }

pub returns : goal.returns
returns c = c.loop-k.invariant.number ∙ ap (bits_number (λ j. get_or c.args.line.now j 0) c.args.at) (omega arith)
