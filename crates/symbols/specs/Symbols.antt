-- The symbol count (document 01, 'Settings').
use Rattle.settings.specs.declared.settings.Refusal.{Refusal}
use Rattle.std.specs.Prelude.{ℕ, ◌+◌, ◌-◌, ◌*◌, ◌/◌, Err, Ok, Result}
use Rattle.settings.specs.declared.settings.Settings.{Settings}
use Rattle.settings.specs.Settings.{number_of, encoders_of, plan_for}

-- service, payload and tail bits
abbrev pub bits_to_send : Settings → ℕ
bits_to_send s = 16 + 8 * s.length + 6 * encoders_of s.mcs

-- x / d rounded up: the least whole number not below it (`ceil_least`)
abbrev pub ceil : ℕ → ℕ → ℕ
ceil x d = (x + (d - 1)) / d

-- "Symbols = least whole number not below (16 + 8·length + 6·NES) / D"
unfoldable pub symbols_of : Settings → ℕ
symbols_of s = ceil (bits_to_send s) (plan_for s).dbps

-- the call's answer goes by the settings' answer
abbrev pub count_of : Result Settings Refusal → Result ℕ Refusal
count_of (Ok s) = Ok (symbols_of s)
count_of (Err r) = Err r

-- document 01's number of each case, 0 where the count is given
abbrev pub count_number : Result ℕ Refusal → ℕ
count_number (Ok n) = 0
count_number (Err r) = number_of r
