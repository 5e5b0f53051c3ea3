-- The row by the parse.
use Rattle.std.proofs.Common.{sym, ◌∙◌}
use Rattle.listing.proofs.RowLaws.{row_held}
use Rattle.listing.proofs.rows.row.Goals as goal

pub returns : goal.returns
returns c = row_held c.args.line.now _ _ (sym c.in-Some.is ∙ c.parse.ensures.0) c.answered_row.ensures
