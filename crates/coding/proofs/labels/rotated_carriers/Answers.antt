-- `rotated_carriers` goes by the width.
use Rattle.std.proofs.Common.{arith}
use Rattle.chain.specs.Interleaver.{rotation}
use Rattle.std.proofs.lemmas.Bool.{ne_eqb}
use Rattle.coding.proofs.labels.rotated_carriers.Goals as goal

pub returns-then-width-eq40 : goal.returns-then-width-eq40
unfolding rotation
returns-then-width-eq40 c = simp c.if-width-eq40.true (omega arith)

pub returns-else-width-eq40 : goal.returns-else-width-eq40
unfolding rotation
returns-else-width-eq40 c = simp (ne_eqb _ _ c.if-width-eq40.false) (omega arith)
