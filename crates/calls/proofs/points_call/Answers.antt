-- `points_call`: a number for each answer; the floats are the call's own.
use Rattle.std.proofs.Common.{◌∙◌, sym, ap, ◌≤◌, length, arith, rules}
use Rattle.frame.proofs.PointsLaws.{written_few}
use Rattle.conversions.specs.Results.{points_result}
use Rattle.conversions.proofs.Minus.{pos_fits, pos_is}
use Rattle.calls.proofs.points_call.Goals.{In-Ok}
use Rattle.calls.proofs.points_call.Goals as goal

few : (c : In-Ok) → c.in-Ok.floats ≤ 912
few c = let a = c.args in
    written_few a.raw (length a.payload.now) a.symbol (length a.out.now) c.in-Ok.floats (sym c.points.ensures.value ∙ c.in-Ok.is)

pub overflow_cast-result : goal.overflow_cast-result
overflow_cast-result c = pos_fits c.in-Ok.floats (omega (arith, few (goal.at.overflow_cast-result c).In-Ok))

pub returns-in-Ok : goal.returns-in-Ok
returns-in-Ok c = record {
  value = pos_is c.in-Ok.floats (omega (arith, few (goal.at.returns-in-Ok c).In-Ok))
      ∙ ap points_result (sym c.in-Ok.is ∙ c.points.ensures.value);
  out_after = c.points.ensures.out_after;
}

pub returns-in-Err : goal.returns-in-Err
returns-in-Err c = record {
  value = search rules ∙ c.refused.ensures ∙ ap points_result (sym c.in-Err.is ∙ c.points.ensures.value);
  out_after = c.points.ensures.out_after;
}
