-- `ht_symbol_count` gathers its settings and calls on.
use Rattle.std.proofs.Common.{◌∙◌, ap, rules}
use Rattle.settings.specs.declared.settings.RawSettings.{RawSettings}
use Rattle.settings.specs.Settings.{check_of}
use Rattle.symbols.specs.Symbols.{count_of}
use Rattle.conversions.specs.Results.{count_result}
use Rattle.capi.proofs.ht_symbol_count.Goals as goal

pub returns : goal.returns
returns c = search rules ∙ c.count_call.ensures ∙ ap (λ (a : RawSettings). count_result (count_of (check_of a))) c.raw_settings-raw.ensures
