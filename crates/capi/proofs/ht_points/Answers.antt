-- `ht_points` gathers its settings and calls on.
use Rattle.std.proofs.Common.{◌∙◌, ap, length, rules}
use Rattle.settings.specs.declared.settings.RawSettings.{RawSettings}
use Rattle.settings.specs.Settings.{check_of}
use Rattle.frame.specs.Points.{points_of, points_into}
use Rattle.conversions.specs.Results.{points_result}
use Rattle.capi.proofs.ht_points.Goals as goal

pub returns : goal.returns
returns c = let a = c.args in record {
  value = search rules ∙ c.points_call.ensures.value
      ∙ ap (λ (s : RawSettings). points_result (points_of (check_of s) (length a.payload.now) a.symbol (length a.out.now)))
      c.raw_settings-raw.ensures;
  out_after = c.points_call.ensures.out_after
      ∙ ap (λ (s : RawSettings). points_into (check_of s) a.payload.now a.symbol a.out.now) c.raw_settings-raw.ensures;
}
