-- `count_call`: a number for each answer.
use Rattle.std.proofs.Common.{sym, ap, ◌∙◌, arith, rules}
use Rattle.symbols.proofs.CountLaws.{count_few}
use Rattle.conversions.specs.Results.{count_result}
use Rattle.conversions.proofs.Minus.{pos_fits, pos_is}
use Rattle.calls.proofs.count_call.Goals as goal

pub overflow_cast-result : goal.overflow_cast-result
overflow_cast-result c = pos_fits c.in-Ok.symbols (omega (
  arith,
  count_few c.args.raw c.in-Ok.symbols (sym c.symbol_count.ensures
      ∙ c.in-Ok.is),
))

pub returns-in-Ok : goal.returns-in-Ok
returns-in-Ok c = let e = sym c.in-Ok.is ∙ c.symbol_count.ensures in
    pos_is c.in-Ok.symbols (omega (arith, count_few c.args.raw c.in-Ok.symbols (sym e))) ∙ ap count_result e

pub returns-in-Err : goal.returns-in-Err
returns-in-Err c = search rules ∙ c.refused.ensures ∙ ap count_result (sym c.in-Err.is ∙ c.symbol_count.ensures)
