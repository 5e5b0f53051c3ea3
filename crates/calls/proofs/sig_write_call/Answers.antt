-- `sig_write_call`: a number for each answer; the bytes are the call's own.
use Rattle.std.proofs.Common.{sym, ap, ◌∙◌, rules}
use Rattle.conversions.specs.Results.{written_result}
use Rattle.calls.proofs.sig_write_call.Goals as goal

pub returns-in-Ok : goal.returns-in-Ok
returns-in-Ok c = record {
  value = ap written_result (sym c.in-Ok.is ∙ c.write.ensures.0);
  out_after = c.write.ensures.1;
}

pub returns-in-Err : goal.returns-in-Err
returns-in-Err c = record {
  value = search rules ∙ c.refused.ensures ∙ ap written_result (sym c.in-Err.is ∙ c.write.ensures.0);
  out_after = c.write.ensures.1;
}
