-- `ht_reader_place` gathers its settings and calls on.
use Rattle.std.proofs.Common.{◌∙◌, ap, rules}
use Rattle.reader_state.specs.declared.state.OpenSettings.{OpenSettings}
use Rattle.reader_numbers.specs.Numbers.{place_result}
use Rattle.capi.proofs.ht_reader_place.Goals as goal

pub returns : goal.returns
returns c = let a = c.args in
    search rules ∙ c.place_call.ensures ∙ ap (λ (o : OpenSettings). place_result o a.state a.points.now) c.open_settings-open.ensures
