-- What is proved of the points call beside its contract. The term is in proofs/Refusals.
use Rattle.std.specs.Prelude.{◌≡◌, ◌↔◌, ℕ, ◌<◌, ◌≤◌}
use Rattle.settings.specs.declared.settings.RawSettings.{RawSettings}
use Rattle.settings.specs.Settings.{check_of, settings_of}
use Rattle.symbols.specs.Symbols.{symbols_of}
use Rattle.settings.specs.Statements.{NoSettingsRow, SettingsRows}
use Rattle.frame.specs.Points.{floats_of, points_of, points_number}

-- ---- refusals: "given exactly when" its row applies and none tested before it does; 0 where none applies

-- "payload slice shorter than length"
abbrev pub PayloadRow : RawSettings → (bytes : ℕ) → Type 0
PayloadRow a bytes = bytes < a.length

-- "symbol .. not in the frame"
abbrev pub SymbolRow : RawSettings → (symbol : ℕ) → Type 0
SymbolRow a symbol = symbols_of (settings_of a) ≤ symbol

-- "the lent slice for points .. is too short"
abbrev pub PointsRoomRow : RawSettings → (room : ℕ) → Type 0
PointsRoomRow a room = room < floats_of (settings_of a)

-- the points call: 1 to 5, then 6, 7, 8
abbrev pub PointsRefusals : Type 0
PointsRefusals = (a : RawSettings) (bytes symbol room : ℕ) → let n = points_number (points_of (check_of a) bytes symbol room) in
    SettingsRows a n
    (((n ≡ 6) ↔ (PayloadRow a bytes × NoSettingsRow a (Unit {0})))
    × (((n ≡ 7) ↔ (SymbolRow a symbol × NoSettingsRow a ((PayloadRow a bytes → ⊥) × Unit {0})))
    × (((n ≡ 8) ↔ (PointsRoomRow a room × NoSettingsRow a ((PayloadRow a bytes → ⊥) × ((SymbolRow a symbol → ⊥) × Unit {0}))))
    × ((n ≡ 0) ↔ NoSettingsRow a ((PayloadRow a bytes → ⊥) × ((SymbolRow a symbol → ⊥) × ((PointsRoomRow a room → ⊥) × Unit {0})))))))
