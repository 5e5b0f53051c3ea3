-- The refusals of the one-subcarrier question, each given exactly when its row of document 01's table applies and none tested before it does. Assumes nothing.
use Rattle.std.specs.Prelude.{Err, Ok, Result}
use Rattle.settings.specs.declared.settings.Refusal.{Refusal}
use Rattle.settings.specs.declared.settings.Settings.{Settings}
use mathlib.Core.Path.{◌≡◌, refl, sym, subst}
use mathlib.Core.Bool.{Bool, true, false, cond, ◌||◌}
use mathlib.Core.List.{List, [], ◌∷◌, ◌++◌}
use mathlib.Core.Logic.{◌↔◌}
use Prim.Native.Nat.{ℕ, ◌-◌}
use lib.Dec.{ltb, leb}
use lib.IntN.{ℤ, pos}
use lib.ListN.{length}
use lib.Signed.{lt_z, ◌<ℤ◌}
use Rattle.laws.specs.Integers.{minus}
use Rattle.laws.specs.Refusals.{Rule}
use Rattle.laws.proofs.Refusing.{given_exactly}
use Rattle.laws.proofs.Reflect.{T_true, true_T, either}
use Rattle.subcarriers.specs.Subcarriers.{reach, outside}
use Rattle.settings.specs.declared.settings.Refusal.TheVariants.{Source, Place}
use Rattle.settings.specs.declared.settings.RawSettings.{RawSettings}
use Rattle.settings.specs.Settings.{settings_of, check_of, plan_for}
use Rattle.symbols.specs.Symbols.{symbols_of}
use Rattle.settings.proofs.Refusals.{settingsRules, after_settings}
use Rattle.frame.proofs.Refusals.{at_most, sourceRule}
use Rattle.query.specs.declared.query.Carried.{Carried}
use Rattle.query.specs.Query.{carried_of, not_in_frame, query_of, query_number}
use Rattle.query.specs.Statements.{OutsideRow, PlaceRow, QueryRefusals}
use Rattle.settings.proofs.SettingsLaws.{planned_width}

lower : (y z : ℤ) → (lt_z y z ≡ true) ↔ (y <ℤ z)
lower y z = (λ e. record { lt = true_T (lt_z y z) e }, λ l. T_true (lt_z y z) l.lt)

-- the row of the place, with its test
module _ (a : RawSettings) where
  outside_row : (z : ℤ) → (outside (plan_for (settings_of a)).width z ≡ true) ↔ OutsideRow a z
  outside_row z =
      subst (λ (w : ℕ). (outside w z ≡ true) ↔ OutsideRow a z) (sym (planned_width (settings_of a)))
      (either (lt_z z (minus (reach a.width))) (lt_z (pos (reach a.width - 1)) z) (lower z (minus (reach a.width))) (lower (pos (reach a.width - 1)) z))

  place_row : (symbol stream : ℕ) (z : ℤ) → (not_in_frame (settings_of a) symbol stream z ≡ true) ↔ PlaceRow a symbol stream z
  place_row symbol stream z =
      let p = plan_for (settings_of a) in
      either (leb (symbols_of (settings_of a)) symbol) (leb p.streams stream || outside p.width z) (at_most (symbols_of (settings_of a)) symbol)
      (either (leb p.streams stream) (outside p.width z) (at_most p.streams stream) (outside_row z))

  abbrev placeRule : ℕ → ℕ → ℤ → Rule
  placeRule symbol stream z = record { number = 7; Applies = PlaceRow a symbol stream z; test = not_in_frame (settings_of a) symbol stream z; right = place_row symbol stream z }

  -- in document 01's order
  abbrev queryRules : (bytes symbol stream : ℕ) → ℤ → List Rule
  queryRules bytes symbol stream z = sourceRule a bytes ∷ placeRule symbol stream z ∷ []

-- the one-subcarrier question gives each refusal exactly when its row applies and none before it does
pub query_refusals : QueryRefusals
query_refusals a payload symbol stream z =
    given_exactly (query_number (query_of (check_of a) payload symbol stream z)) (settingsRules a ++ queryRules a (length payload) symbol stream z) tt
    (after_settings a (λ (c : Result Settings Refusal). query_number (query_of c payload symbol stream z)) (queryRules a (length payload) symbol stream z) (λ r. refl)
    (go (ltb (length payload) a.length) (not_in_frame (settings_of a) symbol stream z) (carried_of (settings_of a) payload symbol stream z)))
  where
    go : (s n : Bool) (c : Carried) → query_number (cond s (Err Source) (cond n (Err Place) (Ok c))) ≡ cond s 6 (cond n 7 0)
    go true n c = refl
    go false true c = refl
    go false false c = refl
