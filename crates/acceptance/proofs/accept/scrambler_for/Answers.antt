-- `scrambler_for` goes by whether the symbol is the first.
use Rattle.std.proofs.Common.{◌∙◌}
use Rattle.acceptance.proofs.AcceptedLaws.{scrambler_first, scrambler_later}
use Rattle.acceptance.proofs.accept.scrambler_for.Goals as goal

pub seed_of-requires : goal.seed_of-requires
seed_of-requires c = (c.requires.seven, c.requires.one_bit)

pub returns-then-reader-eq0 : goal.returns-then-reader-eq0
returns-then-reader-eq0 c = (c.seed_of.ensures.0 ∙ scrambler_first c.args.reader _ c.if-reader-eq0.true, c.seed_of.ensures.1)

pub returns : goal.returns
returns c = (scrambler_later c.args.reader _ c.if-reader-eq0.false, c.requires.known c.if-reader-eq0.false)
