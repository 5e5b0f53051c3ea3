-- The parts in their order.
use Rattle.listing.proofs.RowLaws.{accepted_pushed}
use Rattle.listing.proofs.rows.accepted_row.Goals as goal

pub returns : goal.returns
returns c =
    accepted_pushed _ _ _ _ _ _ c.args.sig.now c.push_decimal.ensures.row.0 c.push.ensures.row c.push_hex.ensures.row.0 c.push-2.ensures.row
