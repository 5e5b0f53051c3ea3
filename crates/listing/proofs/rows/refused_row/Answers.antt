-- The parts in their order.
use Rattle.listing.proofs.RowLaws.{refused_pushed}
use Rattle.listing.proofs.rows.refused_row.Goals as goal

pub returns : goal.returns
returns c =
    refused_pushed c.args.inputs _ _ _ _ c.args.r c.push_text.ensures.row.0 c.number.ensures c.push_decimal.ensures.row.0 c.push.ensures.row
