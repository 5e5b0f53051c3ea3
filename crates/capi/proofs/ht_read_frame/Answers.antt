-- `ht_read_frame` gathers its settings and calls on.
use Rattle.std.proofs.Common.{◌∙◌, ap, length, rules}
use Rattle.reader_state.specs.declared.state.OpenSettings.{OpenSettings}
use Rattle.frame_steps.specs.WholeFrame.{read_frame_of, read_frame_into}
use Rattle.frame_reader.specs.Result.{frame_result}
use Rattle.capi.proofs.ht_read_frame.Goals as goal

pub returns : goal.returns
returns c = let a = c.args in record {
  value = search rules ∙ c.read_frame_call.ensures.value
      ∙ ap (λ (o : OpenSettings). frame_result (read_frame_of o a.points.now (length a.payload.now))) c.open_settings-open.ensures;
  payload_after = c.read_frame_call.ensures.payload_after
      ∙ ap (λ (o : OpenSettings). read_frame_into o a.points.now a.payload.now) c.open_settings-open.ensures;
}
