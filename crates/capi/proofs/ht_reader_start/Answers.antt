-- `ht_reader_start` gathers its settings and calls on.
use Rattle.std.proofs.Common.{◌∙◌, ap, rules}
use Rattle.reader_state.specs.declared.state.OpenSettings.{OpenSettings}
use Rattle.reader_state.specs.State.{start_of}
use Rattle.reader_numbers.specs.Numbers.{start_result}
use Rattle.capi.proofs.ht_reader_start.Goals as goal

pub returns : goal.returns
returns c = search rules ∙ c.start_call.ensures ∙ ap (λ (o : OpenSettings). start_result (start_of o)) c.open_settings-open.ensures
