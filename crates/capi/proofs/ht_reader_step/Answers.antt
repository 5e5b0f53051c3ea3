-- `ht_reader_step` gathers its settings and calls on.
use Rattle.std.proofs.Common.{◌∙◌, ap, pos, length, rules}
use Rattle.reader_state.specs.declared.state.OpenSettings.{OpenSettings}
use Rattle.reader_numbers.specs.Numbers.{step_result, step_result_into}
use Rattle.capi.proofs.ht_reader_step.Goals as goal

pub returns : goal.returns
returns c = let a = c.args in record {
  value = search rules ∙ c.step_call.ensures.value
      ∙ ap (λ (o : OpenSettings). pos (step_result o a.state a.points.now (length a.payload.now))) c.open_settings-open.ensures;
  payload_after = c.step_call.ensures.payload_after
      ∙ ap (λ (o : OpenSettings). step_result_into o a.state a.points.now a.payload.now) c.open_settings-open.ensures;
}
