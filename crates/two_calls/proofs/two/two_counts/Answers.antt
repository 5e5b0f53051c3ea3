-- `two_counts`: demand 3 of the answers that the two calls give.
use Rattle.std.proofs.Common.{◌∙◌, sym}
use Rattle.demands.proofs.Demand3.{same_count}
use Rattle.two_calls.proofs.two.two_counts.Goals as goal

pub returns : goal.returns
returns c = record {
  made = (c.symbol_count-one.ensures, c.symbol_count-other.ensures);
  alike = λ e. c.symbol_count-one.ensures ∙ same_count c.args.raw c.args.other_raw e ∙ sym c.symbol_count-other.ensures;
}
