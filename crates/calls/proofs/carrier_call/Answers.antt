-- `carrier_call`: a number for each answer, and the floats of what is carried.
use Rattle.std.proofs.Common.{◌≡◌, ◌∙◌, sym, ap, rules, to_z-of_z}
use Rattle.settings.specs.Settings.{check_of}
use Rattle.query.specs.Query.{query_of}
use Rattle.conversions.proofs.Put.{carrier_refused}
use Rattle.calls.proofs.carrier_call.Goals.{After-subcarrier}
use Rattle.calls.proofs.carrier_call.Goals as goal

asked : (c : After-subcarrier)
    → let a = c.args in c.subcarrier.result ≡ query_of (check_of a.raw) a.payload.now a.symbol a.stream a.subcarrier
asked c = c.subcarrier.ensures
    ∙ ap (query_of (check_of c.args.raw) c.args.payload.now c.args.symbol c.args.stream) (to_z-of_z c.ranges.subcarrier)

pub returns-in-Err : goal.returns-in-Err
returns-in-Err c =
    let w = carrier_refused _ c.in-Err.r c.args.out.now (sym (asked (goal.at.returns-in-Err c).After-subcarrier) ∙ c.in-Err.is) in
    record { value = search rules ∙ c.refused-in-Err.ensures ∙ w.0; out_after = w.1 }
