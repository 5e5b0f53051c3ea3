-- `print_lines` writes the rows of the lines that are still to come.
use Rattle.std.proofs.Common.{◌++◌, sym, ap, ◌∙◌}
use Rattle.listing.proofs.ListingLaws.{listing_line}
use Rattle.lines.proofs.LineLaws.{next_line_lines}
use Rattle.htsig.proofs.Writing.{row_bytes, written_more}
use Rattle.htsig.proofs.print_lines.Goals as goal

pub slice_bounds-row-end : goal.slice_bounds-row-end
slice_bounds-row-end g c = (next_line_lines c.args.input.now c.loop-line.at c.in-Some.line (sym c.next_line.ensures ∙ c.in-Some.is)).within

pub loop-line-preserved : goal.loop-line-preserved
loop-line-preserved g c =
    let (done, split, written) = c.loop-line.invariant in
    let line = listing_line c.args.input.now c.loop-line.at c.in-Some.line (sym c.next_line.ensures ∙ c.in-Some.is) in
    let row = c.as_slice.ensures ∙ row_bytes c.row-row.result _ c.row-row.ensures in
    let piece = rw row at c.in_ok-write_all.ensures.bytes in
    let more = written_more _ _ _ _ done _ _ (split ∙ ap (λ l. done ++ l) line) written piece in
    (done ++ _, more.0, more.1)
