-- What is said of rows, in plain words.
use Rattle.std.specs.Prelude.{◌≡◌, List, ℕ, ◌<◌, ◌≤◌, length, get_or}
use Rattle.text.specs.declared.printing.Row.{Row}
use Rattle.text.specs.Printing.{row_holding, text_of, ZerosBehind}

-- zeros stand behind a row's text exactly where each byte from its end on is 0
abbrev pub ZerosEachByte : Type 0
ZerosEachByte =
    (r : Row) → length r.bytes ≡ 40 → r.len ≤ 40
    → (ZerosBehind r → (i : ℕ) → r.len ≤ i → i < 40 → get_or r.bytes i 1 ≡ 0)
    × (((i : ℕ) → r.len ≤ i → i < 40 → get_or r.bytes i 1 ≡ 0) → ZerosBehind r)

-- a row that holds a text of at most 40 bytes has that text, and zeros behind it
abbrev pub HoldsText : Type 0
HoldsText = (t : List ℕ) → length t ≤ 40 → (text_of (row_holding t) ≡ t) × ZerosBehind (row_holding t)
