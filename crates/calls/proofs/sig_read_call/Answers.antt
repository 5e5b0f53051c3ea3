-- `sig_read_call`: a number for each answer.
use Rattle.std.proofs.Common.{sym, ap, ◌∙◌, arith, pos, rules}
use Rattle.signal.proofs.ReadFields.{read_fields_fit}
use Rattle.conversions.specs.Results.{read_result}
use Rattle.conversions.proofs.Minus.{pos_is}
use Rattle.calls.proofs.sig_read_call.Goals as goal

pub fields_number-requires : goal.fields_number-requires
fields_number-requires c = read_fields_fit c.args.sig.now c.in-Ok.fields (sym c.read.ensures ∙ c.in-Ok.is)

pub returns-in-Ok : goal.returns-in-Ok
returns-in-Ok c = pos_is c.fields_number.result (omega (arith, c.fields_number.ensures.1))
    ∙ ap pos c.fields_number.ensures.0
    ∙ ap read_result (sym c.in-Ok.is ∙ c.read.ensures)

pub returns-in-Err : goal.returns-in-Err
returns-in-Err c = search rules ∙ c.refused.ensures ∙ ap read_result (sym c.in-Err.is ∙ c.read.ensures)
