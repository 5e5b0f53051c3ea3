-- `start_call`: a number for each answer.
use Rattle.std.proofs.Common.{Err, Ok, ◌∙◌, ap, arith, pos, w64, rules}
use mir.Facts.{to_z_pos}
use Rattle.reader_calls.proofs.CallLaws.{start_small, started_as}
use Rattle.reader_calls.proofs.start_call.Goals as goal

pub state_number-requires : goal.state_number-requires
state_number-requires c = start_small c.start-started.result c.args.settings c.start-started.ensures

pub returns-in-Ok : goal.returns-in-Ok
returns-in-Ok c = to_z_pos w64 {n = c.state_number.result} (omega (arith, c.state_number.ensures.1)) ∙ ap pos c.state_number.ensures.0
    ∙ started_as c.start-started.result c.args.settings (Ok tt) c.in-Ok.is c.start-started.ensures

pub returns-in-Err : goal.returns-in-Err
returns-in-Err c = search rules ∙ c.refused.ensures
    ∙ started_as c.start-started.result c.args.settings (Err _) c.in-Err.is c.start-started.ensures
