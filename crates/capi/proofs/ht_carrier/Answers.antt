-- `ht_carrier` gathers its settings and calls on.
use Rattle.std.proofs.Common.{Result, ◌∙◌, ap, length, to_z-of_z, rules}
use Rattle.query.specs.declared.query.Carried.{Carried}
use Rattle.settings.specs.declared.settings.Refusal.{Refusal}
use Rattle.settings.specs.declared.settings.RawSettings.{RawSettings}
use Rattle.settings.specs.Settings.{check_of}
use Rattle.query.specs.Query.{query_of}
use Rattle.conversions.specs.Results.{carrier_result, carrier_into}
use Rattle.capi.proofs.ht_carrier.Goals as goal

pub returns : goal.returns
returns c = let a = c.args in
    let e = ap (query_of (check_of c.raw_settings-raw.result) a.payload.now a.symbol a.stream) (to_z-of_z c.ranges.subcarrier)
    ∙ ap (λ (s : RawSettings). query_of (check_of s) a.payload.now a.symbol a.stream a.subcarrier) c.raw_settings-raw.ensures in record {
      value = search rules ∙ c.carrier_call.ensures.value ∙ ap (λ (q : Result Carried Refusal). carrier_result q (length a.out.now)) e;
      out_after = c.carrier_call.ensures.out_after ∙ ap (λ (q : Result Carried Refusal). carrier_into q a.out.now) e;
    }
