-- What is proved of HT-SIG beside the contracts. The terms are in proofs/HtSigLaws.
use Rattle.std.specs.Prelude.{◌≡◌, ◌↔◌, List, ℕ, ◌<◌, Ok}
use Rattle.laws.specs.Bytes.{AreBytes}
use Rattle.settings.specs.declared.settings.RawSettings.{RawSettings}
use Rattle.settings.specs.declared.settings.Settings.{Settings}
use Rattle.sig_words.specs.declared.words.SigFields.{SigFields}
use Rattle.settings.specs.Settings.{check_of}
use Rattle.settings.specs.Statements.{NoSettingsRow, SettingsRows}
use Rattle.signal.specs.HtSig.{fields_of, sig_bytes, written_of, written_number, read_of, read_number, SourceRow, CrcRow, FormRow}

-- the read gives fields exactly for the bytes that some accepted settings write, and they are those settings' fields
abbrev pub ReadExactly : Type 0
ReadExactly = (l : List ℕ) → AreBytes l
    → (((g : SigFields) × (read_of l ≡ Ok g))
    ↔ ((a : RawSettings) × ((s : Settings) × ((check_of a ≡ Ok s) × (l ≡ sig_bytes (fields_of s))))))
    × ((g : SigFields) (a : RawSettings) (s : Settings) → read_of l ≡ Ok g → check_of a ≡ Ok s → l ≡ sig_bytes (fields_of s) → g ≡ fields_of s)

-- ---- refusals, as the settings' statements have them: "given exactly when" its row applies and none tested before it does; 0 where none applies

-- "the lent slice for .. signal bytes .. is too short"
abbrev pub SignalRoomRow : ℕ → Type 0
SignalRoomRow room = room < 6

-- the signal write: 1 to 5, then 8
abbrev pub WriteRefusals : Type 0
WriteRefusals = (a : RawSettings) (room : ℕ) → let n = written_number (written_of (check_of a) room) in
    SettingsRows a n
    (((n ≡ 8) ↔ (SignalRoomRow room × NoSettingsRow a (Unit {0})))
    × ((n ≡ 0) ↔ NoSettingsRow a ((SignalRoomRow room → ⊥) × Unit {0})))

-- the signal read: 6, 13, 14
abbrev pub ReadRefusals : Type 0
ReadRefusals = (l : List ℕ) → let n = read_number (read_of l) in
    ((n ≡ 6) ↔ (SourceRow l × Unit {0}))
    × (((n ≡ 13) ↔ (CrcRow l × ((SourceRow l → ⊥) × Unit {0})))
    × (((n ≡ 14) ↔ (FormRow l × ((SourceRow l → ⊥) × ((CrcRow l → ⊥) × Unit {0}))))
    × ((n ≡ 0) ↔ ((SourceRow l → ⊥) × ((CrcRow l → ⊥) × ((FormRow l → ⊥) × Unit {0}))))))
