-- `two_signals`: demand 3 of the answers and slices that the two calls give.
use Rattle.demands.proofs.Demand3.{of_signals}
use Rattle.two_calls.proofs.two.two_signals.Goals as goal

pub returns : goal.returns
returns c = record {
  made = (c.write-one.ensures.0, c.write-other.ensures.0);
  left = (c.write-one.ensures.1, c.write-other.ensures.1);
  alike = of_signals c.args.raw c.args.other_raw c.args.out.now c.args.other_out.now _ _ _ _ c.write-one.ensures.0 c.write-other.ensures.0
      c.write-one.ensures.1 c.write-other.ensures.1;
}
