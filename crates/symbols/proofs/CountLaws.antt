-- The symbol count: it is the least that fits, it is small, and its refusals are the settings'. Assumes nothing.
use Rattle.std.specs.Prelude.{Err, Ok, Result}
use Rattle.settings.specs.declared.settings.Refusal.{Refusal}
use mathlib.Core.Path.{◌≡◌, refl}
use mathlib.Core.List.{[]}
use Prim.Native.Nat.{ℕ, zero, suc, ◌+◌, ◌-◌, ◌*◌, ◌/◌, ◌%◌, ◌≤◌, ◌<◌}
use native.Mathlib.Nat.{div-add-mod', mod-lt, div-lt_iff_lt-mul, suc-mul, le_of_suc-le-suc}
use native.Mathlib.Omega.{arith}
use Rattle.laws.proofs.Refusing.{given_exactly}
use Rattle.settings.specs.declared.settings.RawSettings.{RawSettings}
use Rattle.settings.specs.declared.settings.Settings.{Settings}
use Rattle.settings.specs.Settings.{check_of, encoders_of, plan_for, Right}
use Rattle.settings.proofs.SettingsLaws.{right, encoders_few, plan_fits}
use Rattle.settings.proofs.Refusals.{settingsRules, after_settings}
use Rattle.symbols.specs.Symbols.{bits_to_send, ceil, symbols_of, count_of, count_number}
use Rattle.symbols.specs.Statements.{CountRefusals}

-- `ceil x d` is not below x / d, and no smaller whole number is
pub ceil_not_below : (x d : ℕ) → 0 < d → x ≤ ceil x d * d
ceil_not_below x d h =
    let m = (x + (d - 1)) % d in
    let e : (x + (d - 1)) / d * d + m ≡ x + (d - 1) = div-add-mod' (x + (d - 1)) d in
    let l : m < d = mod-lt (x + (d - 1)) h in
    omega arith

pub ceil_least : (x d n : ℕ) → 0 < d → x ≤ n * d → ceil x d ≤ n
ceil_least x d n h p = le_of_suc-le-suc ((div-lt_iff_lt-mul h).1 (rw suc-mul (omega arith)))

-- the count of accepted settings fits them, and no smaller one does
pub symbols_least : (s : Settings) → Right s
    → (bits_to_send s ≤ symbols_of s * (plan_for s).dbps) × ((n : ℕ) → bits_to_send s ≤ n * (plan_for s).dbps → symbols_of s ≤ n)
unfolding symbols_of
symbols_least s r =
    let some : 0 < (plan_for s).dbps = omega (arith, (plan_fits s r).dbps_some) in
    (ceil_not_below (bits_to_send s) (plan_for s).dbps some, λ n h. ceil_least (bits_to_send s) (plan_for s).dbps n some h)

-- the count is above 0, and small
pub symbols_some : (s : Settings) → Right s → 0 < symbols_of s
symbols_some s r = go (symbols_of s) (symbols_least s r).0
  where
    go : (n : ℕ) → bits_to_send s ≤ n * (plan_for s).dbps → 0 < n
    go zero h = omega (arith, h)
    go (suc n) h = omega arith

pub symbols_few : (s : Settings) → Right s → symbols_of s ≤ 20166
symbols_few s r =
    (symbols_least s r).1 20166 (go (plan_for s).dbps s.length (encoders_of s.mcs) (plan_fits s r).dbps_some r.length_most (encoders_few s.mcs))
  where
    go : (d l e : ℕ) → 26 ≤ d → l < 65536 → e ≤ 2 → 16 + 8 * l + 6 * e ≤ 20166 * d
    go d l e p h g = omega arith

-- a count that the call gives is small
pub count_few : (a : RawSettings) (n : ℕ) → count_of (check_of a) ≡ Ok n → n ≤ 20166
count_few a n = go (check_of a) refl
  where
    go : (k : Result Settings Refusal) → check_of a ≡ k → count_of k ≡ Ok n → n ≤ 20166
    go (Ok s) e q = let i : symbols_of s ≡ n = cc in omega (arith, symbols_few s (right a s e))
    go (Err r) e q = let z : ◌≡◌ {A = ℕ} 0 1 = cc in absurd (omega (arith, z))

-- the symbol count gives each refusal exactly when its row applies and none before it does
pub count_refusals : CountRefusals
count_refusals a =
    given_exactly (count_number (count_of (check_of a))) (settingsRules a) tt (after_settings a (λ (c : Result Settings Refusal). count_number (count_of c)) [] (λ r. refl) refl)
