-- The parts in their order.
use Rattle.std.proofs.Common.{arith}
use Rattle.listing.proofs.RowLaws.{size, inputs_pushed}
use Rattle.listing.proofs.rows.inputs_row.Goals as goal

pub returns : goal.returns
returns c = (
  inputs_pushed _ _ _ _ _ _ _ _ _ _ _ c.new-row.ensures c.push_decimal.ensures.row.0 c.push.ensures.row
      c.push_decimal-2.ensures.row.0 c.push-2.ensures.row c.push_decimal-3.ensures.row.0 c.push-3.ensures.row,
  omega (arith, size c.new-row.ensures, size c.push.ensures.row, size c.push-2.ensures.row, size c.push-3.ensures.row),
)
