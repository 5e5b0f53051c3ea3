-- Lists of bytes.
use Rattle.std.specs.Prelude.{List, ℕ, ◌<◌, length, get_or}

-- each number of a list is a byte
abbrev pub AreBytes : List ℕ → Type 0
AreBytes l = (i : ℕ) → i < length l → get_or l i 0 < 256
