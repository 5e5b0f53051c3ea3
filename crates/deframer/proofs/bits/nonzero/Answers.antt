-- `bits::nonzero` meets its contract: a sum of bits is zero exactly when each is.
use Rattle.std.proofs.Common.{◌≡◌, ℕ, sum_by, rules, arith}
use Rattle.deframer.proofs.Counting.{counted_sum}
use Rattle.deframer.proofs.bits.nonzero.Goals as goal

pub returns : goal.returns
returns c =
    let e : c.sum.result ≡ sum_by (λ (b : ℕ). b) c.args.bits.now = search rules in
    let counted = counted_sum c.args.bits.now (search rules) in
    (rw e counted, rw e (omega (arith, counted.small)))
