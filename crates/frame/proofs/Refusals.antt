-- The refusals of the points call, each given exactly when its row of document 01's table applies and none tested before it does. Assumes nothing.
use Rattle.std.specs.Prelude.{Err, Ok, Result}
use Rattle.settings.specs.declared.settings.Refusal.{Refusal}
use Rattle.settings.specs.declared.settings.Settings.{Settings}
use mathlib.Core.Path.{◌≡◌, refl}
use mathlib.Core.Bool.{Bool, true, false, cond}
use mathlib.Core.List.{List, [], ◌∷◌, ◌++◌}
use mathlib.Core.Logic.{◌↔◌}
use Prim.Native.Nat.{ℕ, ◌≤◌}
use borrow.Author.Tests.{leb-true, le-leb}
use lib.Dec.{ltb, leb}
use lib.ListN.{length}
use lib.Ieee.{Float}
use Rattle.laws.specs.Refusals.{Rule}
use Rattle.laws.proofs.Refusing.{given_exactly}
use Rattle.laws.proofs.Reflect.{less}
use Rattle.settings.specs.declared.settings.Refusal.TheVariants.{Source, Place, Room}
use Rattle.settings.specs.declared.settings.RawSettings.{RawSettings}
use Rattle.settings.specs.Settings.{settings_of, check_of}
use Rattle.symbols.specs.Symbols.{symbols_of}
use Rattle.settings.proofs.Refusals.{settingsRules, after_settings}
use Rattle.frame.specs.Points.{floats_of, points_of, points_into_by, floats_in, points_into, points_number}
use Rattle.frame.specs.Statements.{PayloadRow, SymbolRow, PointsRoomRow, PointsRefusals}

-- a test of ≤ says it
pub at_most : (a b : ℕ) → (leb a b ≡ true) ↔ (a ≤ b)
at_most a b = (leb-true a b, le-leb a b)

-- the rows after those of the settings, each with its test
module _ (a : RawSettings) where
  abbrev pub sourceRule : ℕ → Rule
  sourceRule bytes = record { number = 6; Applies = PayloadRow a bytes; test = ltb bytes a.length; right = less bytes a.length }

  abbrev symbolRule : ℕ → Rule
  symbolRule symbol = record { number = 7; Applies = SymbolRow a symbol; test = leb (symbols_of (settings_of a)) symbol; right = at_most (symbols_of (settings_of a)) symbol }

  abbrev room_rule : ℕ → Rule
  room_rule room = record { number = 8; Applies = PointsRoomRow a room; test = ltb room (floats_of (settings_of a)); right = less room (floats_of (settings_of a)) }

  -- in document 01's order
  abbrev pointsRules : (bytes symbol room : ℕ) → List Rule
  pointsRules bytes symbol room = sourceRule bytes ∷ symbolRule symbol ∷ room_rule room ∷ []

-- the points call gives each refusal exactly when its row applies and none before it does
pub points_refusals : PointsRefusals
points_refusals a bytes symbol room =
    given_exactly (points_number (points_of (check_of a) bytes symbol room)) (settingsRules a ++ pointsRules a bytes symbol room) tt
    (after_settings a (λ (c : Result Settings Refusal). points_number (points_of c bytes symbol room)) (pointsRules a bytes symbol room) (λ r. refl)
    (go (ltb bytes a.length) (leb (symbols_of (settings_of a)) symbol) (ltb room (floats_of (settings_of a)))))
  where
    go : (s n r : Bool)
        → points_number (cond s (Err Source) (cond n (Err Place) (cond r (Err Room) (Ok (floats_of (settings_of a))))))
        ≡ cond s 6 (cond n 7 (cond r 8 0))
    go true n r = refl
    go false true r = refl
    go false false true = refl
    go false false false = refl

-- a refused points call leaves the lent floats as they were
pub refused_points_unchanged : (a : RawSettings) (payload : List ℕ) (symbol : ℕ) (out : List Float)
    → (points_number (points_of (check_of a) (length payload) symbol (length out)) ≡ 0 → ⊥) → points_into (check_of a) payload symbol out ≡ out
refused_points_unchanged a payload symbol out = go (points_of (check_of a) (length payload) symbol (length out))
  where
    go : (x : Result ℕ Refusal) → (points_number x ≡ 0 → ⊥) → points_into_by x (floats_in (check_of a) payload symbol) out ≡ out
    go (Ok count) n = absurd (n refl)
    go (Err r) n = refl
