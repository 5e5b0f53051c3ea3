-- What is proved of the count's refusals beside the contracts. The terms are in proofs/CountLaws.
use Rattle.settings.specs.declared.settings.RawSettings.{RawSettings}
use Rattle.settings.specs.Settings.{check_of}
use Rattle.settings.specs.Statements.{SettingsRefusals}
use Rattle.symbols.specs.Symbols.{count_of, count_number}

-- the symbol count: 1 to 5
abbrev pub CountRefusals : Type 0
CountRefusals = (a : RawSettings) → SettingsRefusals a (count_number (count_of (check_of a)))
