-- All that the program writes for an input (document 01, 'Checked by hand').
use Rattle.std.specs.Prelude.{cond, List, [], ◌∷◌, ◌++◌, ℕ, ltb, length}
use Rattle.lines.specs.Lines.{lines_of}
use Rattle.text.specs.Printing.{header_text, too_long_text}
use Rattle.listing.specs.Rows.{row_of}

abbrev pub rows_of : List (List ℕ) → List ℕ
rows_of [] = []
rows_of (l ∷ ls) = row_of l ++ rows_of ls

-- "at most 65,536 bytes ..; more gives the header and `too long`"
abbrev pub listing_of : List ℕ → List ℕ
listing_of input = header_text ++ cond (ltb 65536 (length input)) too_long_text (rows_of (lines_of input))
