-- The listing along the chain of next lines. Assumes nothing.
use Rattle.std.proofs.Common.{◌≡◌, refl, ap, Option, Some, None, List, [], ◌++◌, ℕ, ◌-◌, take, drop}
use Rattle.lines.specs.declared.lines.Line.{Line}
use Rattle.lines.specs.Lines.{lines_of, next_line_of}
use Rattle.listing.specs.Rows.{row_of}
use Rattle.listing.specs.Listing.{rows_of}
use Rattle.lines.proofs.LineLaws.{next_line_end, next_line_lines}

-- what is left to print from a place on
abbrev pub rows_from : List ℕ → ℕ → List ℕ
rows_from text at = rows_of (lines_of (drop at text))

-- the same by the next line: nothing at the end; else that line's row, and what is left behind it
abbrev pub rows_by : List ℕ → Option Line → List ℕ
rows_by text (Some l) = row_of (take (l.end - l.start) (drop l.start text)) ++ rows_from text l.next
rows_by text None = []

module _ (text : List ℕ) (at : ℕ) where
  -- where there is no next line nothing is left to print
  pub listing_end : next_line_of text at ≡ None → rows_from text at ≡ []
  listing_end e = ap rows_of (next_line_end text at e)

  -- where there is one its row comes first
  pub listing_line : (l : Line) → next_line_of text at ≡ Some l
      → rows_from text at ≡ row_of (take (l.end - l.start) (drop l.start text)) ++ rows_from text l.next
  listing_line l e = ap rows_of (next_line_lines text at l e).lines

  -- the rows along the chain of next lines are the rows of the lines
  pub listing_by_lines : rows_from text at ≡ rows_by text (next_line_of text at)
  listing_by_lines = by (next_line_of text at) refl
    where
      by : (k : Option Line) → next_line_of text at ≡ k → rows_from text at ≡ rows_by text k
      by (Some l) p = listing_line l p
      by None p = listing_end p
