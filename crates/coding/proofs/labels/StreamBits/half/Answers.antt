-- `StreamBits::half` puts one, two or three coded bits together.
use Rattle.std.proofs.Common.{◌≡◌}
use Rattle.sources.proofs.SourceLaws.{three_left}
use Rattle.coding.proofs.HalfLaws.{one_bit_lem, two_bits_lem, three_bits_lem}
use Rattle.coding.proofs.labels.StreamBits.half.Goals as goal

pub returns-then-self-eq1 : goal.returns-then-self-eq1
returns-then-self-eq1 c = one_bit_lem _ _ _ _ c.if-self-eq1.true c.bit.ensures

pub returns-then-self-eq2 : goal.returns-then-self-eq2
returns-then-self-eq2 c = two_bits_lem _ _ _ _ _ c.if-self-eq2.true c.bit-then-self-eq2.ensures c.bit-then-self-eq2-2.ensures

pub returns : goal.returns
returns c =
    let three : c.args.self.now.axis ≡ 3 = three_left c.args.self.now.axis c.requires.axis c.if-self-eq1.false c.if-self-eq2.false in
    three_bits_lem _ _ _ _ _ _ (three) c.bit-2.ensures c.bit-3.ensures
    c.bit-4.ensures
